-- The synod keeps the laws of choosers; a reader need not believe this file.
use Rattle.std.specs.Prelude.{◌≡◌, ℕ, ◌<◌, ◌≤◌, ◌⊎◌, Bool, true, false, nat_lt, if◌then◌else◌, List, length, Option, Some, None, Result, Ok, Err, ok_or, refl}
use Rattle.std.proofs.Common.{sym, ap, ◌∙◌, inl, inr, ⊎_elim, arith}
use Rattle.std.proofs.Math.Logic.{∥∥₁_elim}
use Rattle.std.proofs.Props.{props}
use Rattle.std.proofs.lemmas.Bool.{cases_lt}
use Rattle.std.proofs.lemmas.Bool.Decides.{nat_tests}
use Rattle.std.proofs.Math.ListN.{get_or-map}
use Rattle.std.proofs.lemmas.List.{length-map, map-set, get_or_past}
use Rattle.chooser.specs.declared.calls.Call.TheVariants.{Offer, Work}
use Rattle.chooser.specs.declared.refusal.ChooserRefusal.{ChooserRefusal}
use Rattle.chooser.specs.declared.refusal.ChooserRefusal.TheVariants.{TooHigh, NotAllowed}
use Rattle.chooser.specs.Limits.{numbers}
use Rattle.chooser.specs.Listed.{lists_of}
use Rattle.chooser.specs.Meaning.{Answer, offers_at, decision_at, DecidedIsOffered, lists_with}
use Rattle.chooser.specs.Laws.{Deciding, Offered, Worked}
use Rattle.chooser.specs.Deciding.{nothing_decided, one_decided}
use Rattle.ballots.specs.declared.instance.Instance.{Instance}
use Rattle.ballots.specs.Instance.{after_work}
use Rattle.ballots.proofs.KeptLaws.{decided_is_among, after_work_is, work_keeps_decision}
use Rattle.synod.specs.declared.synod.Synod.{Synod}
use Rattle.synod.specs.Lookup.{won, no_instance, instance_at}
use Rattle.synod.specs.Meeting.{meeting}
use Rattle.synod.specs.Synod.{Tables, tables_of, decisions_of, worked_at, taken, instances_with, Made}

pub sixteen_decisions : (synod : Synod) → length (decisions_of synod.instances) ≡ numbers
sixteen_decisions synod = length-map synod.instances (λ (x : Instance). x.decision) ∙ synod.sixteen

-- the decision under a number is that of its instance
pub decision_is : (instances : List Instance) (number : ℕ) → decision_at (decisions_of instances) number ≡ (instance_at instances number).decision
decision_is instances number = get_or-map (λ (x : Instance). x.decision) instances number no_instance

pub decided_is_offered : (synod : Synod) → DecidedIsOffered (decisions_of synod.instances) (lists_of synod.offers)
decided_is_offered synod number value is =
    ⊎_elim
    (λ below.
    ∥∥₁_elim (synod.all_kept number below) (Prim.hlevel props)
    (λ kept. decided_is_among kept value (sym (decision_is synod.instances number) ∙ is)))
    (λ above.
    let none : decision_at (decisions_of synod.instances) number ≡ None = get_or_past (decisions_of synod.instances) number None (omega (arith, sixteen_decisions synod)) in
    absurd cc)
    (cases_lt number numbers)

pub offering_keeps : (before after : Synod) (number value : ℕ) (answer : Answer) → Made before (Offer number value) answer after
    → Offered (decisions_of before.instances) (lists_of before.offers) number value answer (decisions_of after.instances) (lists_of after.offers)
offering_keeps before after number value answer made =
    let lists = lists_of before.offers in
    let same : after.instances ≡ before.instances = ap (λ (t : Tables). t.instances) made.left in
    record {
      answered = made.answered;
      appended = ap (λ (t : Tables). t.lists) made.left ∙ ap (λ a. lists_with a lists number value) (sym made.answered);
      deciding = rw same (nothing_decided (decisions_of before.instances) number answer);
    }

-- where work is taken, there is such a number and the step is allowed
under : (inside : Bool) (outcome : Option Instance) (y : Instance) → (if inside then ok_or outcome NotAllowed else Err TooHigh) ≡ Ok y → (inside ≡ true) × (outcome ≡ Some y)
under true (Some x) y is = (refl, cc)
under true None y is = absurd cc
under false outcome y is = absurd cc

pub worked_at_is : (t : Tables) (number step ballot set : ℕ) (y : Instance) → worked_at t number step ballot set ≡ Ok y
    → (number < numbers) × (after_work (instance_at t.instances number) (offers_at t.lists number) step ballot set (won t.wins set) ≡ Some y)
worked_at_is t number step ballot set y is =
    let (inside, after_work_is) = under (nat_lt number numbers) _ y is in
    (grind (arith, nat_tests), after_work_is)

-- a decision that stands stays
deciding_by : (synod : Synod) (number step ballot set : ℕ) (outcome : Result Instance ChooserRefusal) → worked_at (tables_of synod) number step ballot set ≡ outcome
    → Deciding (decisions_of synod.instances) number (taken outcome) (decisions_of (instances_with outcome synod.instances number))
deciding_by synod number step ballot set (Err why) is = nothing_decided (decisions_of synod.instances) number (Err why)
deciding_by synod number step ballot set (Ok y) is =
    let (inside, y_is) = worked_at_is (tables_of synod) number step ballot set y is in
    let (low, high, step_is) = after_work_is (instance_at synod.instances number) (offers_at (lists_of synod.offers) number) step ballot set (won synod.wins set) y y_is in
    let meet = meeting (won synod.wins) (won synod.wins) synod.never_apart in
    one_decided (decisions_of synod.instances) _ number y.decision (omega (arith, sixteen_decisions synod))
    (map-set (λ (x : Instance). x.decision) synod.instances number y)
    (λ value stands.
    ∥∥₁_elim (synod.all_kept number inside) (Prim.hlevel props) (λ kept.
    work_keeps_decision kept meet synod.everyone_wins synod.everyone_wins ballot set (won synod.wins set) step (λ _ wins. wins) (λ _ wins. wins) low high y
    step_is value (sym (decision_is synod.instances number) ∙ stands)))

-- work under a number that there is is refused with 3 at most
within : (outcome : Option Instance) → (taken (ok_or outcome NotAllowed) ≡ Ok tt) ⊎ (taken (ok_or outcome NotAllowed) ≡ Err NotAllowed)
within None = inr refl
within (Some y) = inl refl

pub if_below : {A : Type 0} (number : ℕ) (a b : A) → number < numbers → (if nat_lt number numbers then a else b) ≡ a
if_below number a b inside = grind (arith, nat_tests)

if_above : {A : Type 0} (number : ℕ) (a b : A) → numbers ≤ number → (if nat_lt number numbers then a else b) ≡ b
if_above number a b outside = grind (arith, nat_tests)

pub working_keeps : (before after : Synod) (number step ballot set : ℕ) (answer : Answer) → Made before (Work number step ballot set) answer after
    → Worked (decisions_of before.instances) (lists_of before.offers) number answer (decisions_of after.instances) (lists_of after.offers)
working_keeps before after number step ballot set answer made =
    let outcome = worked_at (tables_of before) number step ballot set in
    let changed : after.instances ≡ instances_with outcome before.instances number = ap (λ (t : Tables). t.instances) made.left in
    record {
      too_high = λ outside. made.answered ∙ ap taken (if_above number _ _ outside);
      within = λ inside. rw (made.answered ∙ ap taken (if_below number _ _ inside)) (within _);
      offers_stay = ap (λ (t : Tables). t.lists) made.left;
      deciding = rw (made.answered, changed) (deciding_by before number step ballot set outcome refl);
    }
