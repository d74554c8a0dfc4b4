-- Where one number changes as it may, what holds of all numbers still holds.
use Rattle.std.proofs.Common.{◌≡◌, ℕ, ◌<◌, Bool, List, [], length, slice_set, Option, Some, None, Ok, Err, ok_or, refl, sym, ap, ◌∙◌, ⊎_elim, arith}
use Rattle.std.proofs.Math.Logic.{∥∥₁_map}
use Rattle.std.proofs.lemmas.Bool.{cases_eq}
use Rattle.std.proofs.lemmas.Bool.Decides.{nat_tests}
use Rattle.std.proofs.lemmas.List.{get_or-set_same, get_or-set_other, set-get_or}
use Rattle.chooser.specs.declared.refusal.ChooserRefusal.TheVariants.{NotAllowed}
use Rattle.chooser.specs.Limits.{numbers}
use Rattle.chooser.specs.Listed.{lists_of}
use Rattle.chooser.specs.Meaning.{OfferLists, Answer, offers_at, offer_answer, lists_with}
use Rattle.chooser.specs.TableLaws.{sixteen_lists}
use Rattle.ballots.specs.declared.instance.Instance.{Instance}
use Rattle.ballots.specs.Instance.{after_work, answer_of, or_same}
use Rattle.ballots.specs.Kept.{Kept, StaysKept}
use Rattle.ballots.proofs.KeptLaws.{offering_is_kept}
use Rattle.synod.specs.declared.synod.Synod.{Synod}
use Rattle.synod.specs.Lookup.{won, no_instance, instance_at}
use Rattle.synod.specs.Invariant.{AllKept}
use Rattle.synod.specs.Meeting.{meeting}
use Rattle.synod.specs.Synod.{tables_of, worked_at, taken, instances_with}
use Rattle.synod.specs.SynodLaws.{if_below}

-- the number's new offers and instance are kept, the others are as before
all_kept_with : (fixing counting : ℕ → Bool) (lists : OfferLists) (instances : List Instance) (number : ℕ) (offers : List ℕ) (x : Instance)
    → length lists ≡ numbers → length instances ≡ numbers → number < numbers
    → AllKept fixing counting lists instances → ∥ Kept fixing counting offers x ∥₁
    → AllKept fixing counting (slice_set lists number offers) (slice_set instances number x)
all_kept_with fixing counting lists instances number offers x all_lists all_instances inside before kept other other_inside =
    ⊎_elim
    (λ same.
    let offers_here : offers_at (slice_set lists number offers) other ≡ offers = rw same (get_or-set_same lists number offers [] (omega arith)) in
    let here : instance_at (slice_set instances number x) other ≡ x = rw same (get_or-set_same instances number x no_instance (omega arith)) in
    rw (offers_here, here) kept)
    (λ apart.
    let offers_there : offers_at (slice_set lists number offers) other ≡ offers_at lists other = get_or-set_other lists number other offers [] apart in
    let there : instance_at (slice_set instances number x) other ≡ instance_at instances other = get_or-set_other instances number other x no_instance apart in
    rw (offers_there, there) (before other other_inside))
    (cases_eq other number)

-- an offer more, if it is taken
pub offer_keeps_all : (synod : Synod) (number value : ℕ) (answer : Answer) → offer_answer (lists_of synod.offers) number ≡ answer
    → AllKept (won synod.wins) (won synod.wins) (lists_with answer (lists_of synod.offers) number value) synod.instances
offer_keeps_all synod number value (Err why) is = synod.all_kept
offer_keeps_all synod number value (Ok _) is =
    let lists = lists_of synod.offers in
    let inside : number < numbers = grind (arith, nat_tests) in
    let kept = ∥∥₁_map (synod.all_kept number inside) (λ k. offering_is_kept k value) in
    let all = all_kept_with (won synod.wins) (won synod.wins) lists synod.instances number _ (instance_at synod.instances number)
    (sixteen_lists synod.offers) synod.sixteen inside synod.all_kept kept in
    let same : slice_set synod.instances number (instance_at synod.instances number) ≡ synod.instances = set-get_or synod.instances number no_instance in
    rw same at all

-- a step that keeps the number's own instance
pub work_keeps_all : (synod : Synod) (number step set : ℕ) (after : Instance) → number < numbers
    → StaysKept (instance_at synod.instances number) (offers_at (lists_of synod.offers) number) step set (won synod.wins set) after
    → AllKept (won synod.wins) (won synod.wins) (lists_of synod.offers) (slice_set synod.instances number after)
work_keeps_all synod number step set after inside stays =
    let lists = lists_of synod.offers in
    let meet = meeting (won synod.wins) (won synod.wins) synod.never_apart in
    let kept = ∥∥₁_map (synod.all_kept number inside)
    (stays (won synod.wins) (won synod.wins) meet synod.everyone_wins synod.everyone_wins (λ _ wins. wins) (λ _ wins. wins)) in
    let all = all_kept_with (won synod.wins) (won synod.wins) lists synod.instances number (offers_at lists number) after
    (sixteen_lists synod.offers) synod.sixteen inside synod.all_kept kept in
    let same : slice_set lists number (offers_at lists number) ≡ lists = set-get_or lists number [] in
    rw same at all

-- an instance that may have changed, put in its place: taken or not
put_back : (instances : List Instance) (number : ℕ) (outcome : Option Instance)
    → (answer_of outcome ≡ taken (ok_or outcome NotAllowed)) × (slice_set instances number (or_same outcome (instance_at instances number)) ≡ instances_with (ok_or outcome NotAllowed) instances number)
put_back instances number None = (refl, set-get_or instances number no_instance)
put_back instances number (Some after) = (refl, refl)

-- what the step made of the number's own instance is what the definition of work says
pub work_is : (synod : Synod) (number step ballot set : ℕ) (answer : Answer) (after : Instance) → number < numbers
    → answer ≡ answer_of (after_work (instance_at synod.instances number) (offers_at (lists_of synod.offers) number) step ballot set (won synod.wins set))
    → after ≡ or_same (after_work (instance_at synod.instances number) (offers_at (lists_of synod.offers) number) step ballot set (won synod.wins set)) (instance_at synod.instances number)
    → (answer ≡ taken (worked_at (tables_of synod) number step ballot set))
    × (slice_set synod.instances number after ≡ instances_with (worked_at (tables_of synod) number step ballot set) synod.instances number)
work_is synod number step ballot set answer after inside answered left =
    let (same_answer, same_instances) = put_back synod.instances number (after_work (instance_at synod.instances number) (offers_at (lists_of synod.offers) number) step ballot set (won synod.wins set)) in
    let here = if_below number _ _ inside in (
      answered ∙ same_answer ∙ ap taken (sym here),
      ap (slice_set synod.instances number) left ∙ same_instances ∙ ap (λ outcome. instances_with outcome synod.instances number) (sym here),
    )
