-- In every run the ballots that were counted have the value that is decided.
use Rattle.std.proofs.Common.{◌≡◌, ℕ, ◌≤◌, ◌<◌, zero, suc, List, [], ◌∷◌, slice_set, Option, Some, None, Result, Ok, Err, refl, sym, ap, subst, ◌∙◌, ⊎_elim, arith}
use Rattle.std.proofs.Math.Logic.{∥∥₁_elim, ∥∥₁_map}
use Rattle.std.proofs.Props.{props}
use Rattle.std.proofs.lemmas.Bool.{cases_eq}
use Rattle.std.proofs.lemmas.List.{get_or-set_same, get_or-set_other}
use mathlib.Core.HLevel.{⊥_prop}
use Rattle.chooser.specs.declared.calls.Call.{Call}
use Rattle.chooser.specs.declared.calls.Call.TheVariants.{Offer, Work}
use Rattle.chooser.specs.declared.calls.Turn.{Turn}
use Rattle.chooser.specs.declared.refusal.ChooserRefusal.{ChooserRefusal}
use Rattle.chooser.specs.Limits.{numbers}
use Rattle.chooser.specs.Listed.{lists_of}
use Rattle.chooser.specs.Meaning.{Answer, offers_at}
use Rattle.chooser.specs.Runs.{Does, Run, DecisionsStay, calls_of, answers_of}
use Rattle.chooser.specs.Deciding.{deciding_stays}
use Rattle.ballots.specs.declared.instance.Instance.{Instance}
use Rattle.ballots.specs.Limits.{last_ballot}
use Rattle.ballots.specs.Instance.{value_at, work_step}
use Rattle.ballots.proofs.KeptLaws.{after_work_is, work_keeps_values, fixed_has_value, counted_is_decided}
use Rattle.synod.specs.declared.synod.Synod.{Synod}
use Rattle.synod.specs.Lookup.{won, no_instance, instance_at}
use Rattle.synod.specs.Meeting.{meeting}
use Rattle.synod.specs.Synod.{Tables, tables_of, decisions_of, ballot_value, worked_at, taken, instances_with, Made}
use Rattle.synod.specs.SynodLaws.{decision_is, worked_at_is, offering_keeps, working_keeps}
use Rattle.synod.specs.Played.{answers_to, after_calls}
use Rattle.synod.specs.Ballots.{StepTaken, Counted, Decided, OneValue, ValuesStay}

-- a run of calls on a synod
abbrev pub SynodRun : Synod → List Turn → Synod → Type 0
SynodRun before turns after =
    Run (λ s number value answer t. Made s (Offer number value) answer t) (λ s number step ballot set answer t. Made s (Work number step ballot set) answer t) before turns after

-- only ballots without a value are fixed
instances_keep_values : (synod : Synod) (number step ballot set : ℕ) (outcome : Result Instance ChooserRefusal) → worked_at (tables_of synod) number step ballot set ≡ outcome
    → (other b value : ℕ) → value_at (instance_at synod.instances other) b ≡ Some value → value_at (instance_at (instances_with outcome synod.instances number) other) b ≡ Some value
instances_keep_values synod number step ballot set (Err why) is other b value fixed = fixed
instances_keep_values synod number step ballot set (Ok y) is other b value fixed =
    let (inside, y_is) = worked_at_is (tables_of synod) number step ballot set y is in
    let (low, high, step_is) = after_work_is (instance_at synod.instances number) (offers_at (lists_of synod.offers) number) step ballot set (won synod.wins set) y y_is in
    ⊎_elim
    (λ same.
    let here : instance_at (slice_set synod.instances number y) other ≡ y = rw same (get_or-set_same synod.instances number y no_instance (omega (arith, synod.sixteen))) in
    rw here (work_keeps_values _ _ ballot set _ y step step_is b value (rw same at fixed)))
    (λ apart. ap (λ x. value_at x b) (get_or-set_other synod.instances number other y no_instance apart) ∙ fixed)
    (cases_eq other number)

-- so values stay through one call
call_keeps_values : (before after : Synod) (call : Call) (answer : Answer) → Made before call answer after → ValuesStay before after
call_keeps_values before after (Offer number value) answer made other b v fixed =
    ap (λ (t : Tables). value_at (instance_at t.instances other) b) made.left ∙ fixed
call_keeps_values before after (Work number step ballot set) answer made other b v fixed =
    ap (λ (t : Tables). value_at (instance_at t.instances other) b) made.left ∙ instances_keep_values before number step ballot set _ refl other b v fixed

-- and decisions do, by the laws of choosers
call_keeps_decisions : (before after : Synod) (call : Call) (answer : Answer) → Made before call answer after → DecisionsStay (decisions_of before.instances) (decisions_of after.instances)
call_keeps_decisions before after (Offer number value) answer made = deciding_stays _ _ number answer (offering_keeps before after number value answer made).deciding
call_keeps_decisions before after (Work number step ballot set) answer made = deciding_stays _ _ number answer (working_keeps before after number step ballot set answer made).deciding

-- what a call in a run does is that it is made
made_of : (before after : Synod) (call : Call) (answer : Answer)
    → Does (λ s number value a t. Made s (Offer number value) a t) (λ s number step ballot set a t. Made s (Work number step ballot set) a t) before call answer after
    → Made before call answer after
made_of before after (Offer number value) answer does = does
made_of before after (Work number step ballot set) answer does = does

pub run_keeps_values : (before after : Synod) (turns : List Turn) → SynodRun before turns after → ValuesStay before after
run_keeps_values before after [] run number ballot value fixed = ap (λ synod. ballot_value synod number ballot) run ∙ fixed
run_keeps_values before after (turn ∷ turns) (answer, between, is, does, rest) number ballot value fixed =
    run_keeps_values between after turns rest number ballot value (call_keeps_values before between turn.call answer (made_of before between turn.call answer does) number ballot value fixed)

run_keeps_decided : (before after : Synod) (turns : List Turn) → SynodRun before turns after → (number ballot : ℕ) → Decided before number ballot → Decided after number ballot
run_keeps_decided before after [] run number ballot decided = subst (λ synod. Decided synod number ballot) (sym run) decided
run_keeps_decided before after (turn ∷ turns) (answer, between, is, does, rest) number ballot (value, fixed, decided) =
    let made = made_of before between turn.call answer does in
    run_keeps_decided between after turns rest number ballot
    (value, call_keeps_values before between turn.call answer made number ballot value fixed, call_keeps_decisions before between turn.call answer made number value decided)

-- what is taken changes the instance
taken_changes : (outcome : Result Instance ChooserRefusal) → Ok tt ≡ taken outcome → (y : Instance) × (outcome ≡ Ok y)
taken_changes (Err why) is = absurd cc
taken_changes (Ok y) is = (y, refl)

-- so a step that is taken is one of the four, and the number's instance is what it makes of it
step_made : (before after : Synod) (number step ballot set : ℕ) → Made before (Work number step ballot set) (Ok tt) after
    → (number < numbers) × (1 ≤ ballot) × (ballot ≤ last_ballot)
    × (work_step (instance_at before.instances number) (offers_at (lists_of before.offers) number) step ballot set (won before.wins set) ≡ Some (instance_at after.instances number))
step_made before after number step ballot set made =
    let (y, is) = taken_changes (worked_at (tables_of before) number step ballot set) made.answered in
    let (inside, y_is) = worked_at_is (tables_of before) number step ballot set y is in
    let (low, high, step_is) = after_work_is (instance_at before.instances number) (offers_at (lists_of before.offers) number) step ballot set (won before.wins set) y y_is in
    let changed : after.instances ≡ slice_set before.instances number y =
    ap (λ (t : Tables). t.instances) made.left ∙ ap (λ outcome. instances_with outcome before.instances number) is in
    let here : instance_at after.instances number ≡ y =
    ap (λ xs. instance_at xs number) changed ∙ get_or-set_same before.instances number y no_instance (omega (arith, before.sixteen)) in
    (inside, low, high, step_is ∙ ap Some (sym here))

-- a value that is there can be read off, and one that two options have in common
some_value : (a : Option ℕ) → ∥ ((v : ℕ) × (a ≡ Some v)) ∥₁ → (v : ℕ) × (a ≡ Some v)
some_value None there = absurd (∥∥₁_elim there ⊥_prop (λ (v, is). cc))
some_value (Some v) there = (v, refl)

common_value : (a b : Option ℕ) → ∥ ((v : ℕ) × (a ≡ Some v) × (b ≡ Some v)) ∥₁ → (v : ℕ) × (a ≡ Some v) × (b ≡ Some v)
common_value a b there =
    let (v, is) = some_value a (∥∥₁_map there (λ (w, a_is, b_is). (w, a_is))) in
    (v, is, ∥∥₁_elim there (Prim.hlevel props) (λ (w, a_is, b_is). b_is ∙ sym a_is ∙ is))

-- a fix that is taken gives the ballot a value
fix_gives_value : (before after : Synod) (number ballot set : ℕ) → Made before (Work number 2 ballot set) (Ok tt) after → (v : ℕ) × (ballot_value after number ballot ≡ Some v)
fix_gives_value before after number ballot set made =
    let (inside, low, high, step_is) = step_made before after number 2 ballot set made in
    let meet = meeting (won before.wins) (won before.wins) before.never_apart in
    some_value (ballot_value after number ballot) (∥∥₁_map (before.all_kept number inside) (λ kept.
    fixed_has_value kept meet before.everyone_wins before.everyone_wins ballot set (won before.wins set) 2 (λ _ wins. wins) (λ _ wins. wins) low high _ refl step_is))

-- a count that is taken decides the ballot's value
count_decides : (before after : Synod) (number ballot set : ℕ) → Made before (Work number 4 ballot set) (Ok tt) after → Decided after number ballot
count_decides before after number ballot set made =
    let (inside, low, high, step_is) = step_made before after number 4 ballot set made in
    let meet = meeting (won before.wins) (won before.wins) before.never_apart in
    let (value, fixed, decided) = common_value (ballot_value after number ballot) (instance_at after.instances number).decision (∥∥₁_map (before.all_kept number inside) (λ kept.
    counted_is_decided kept meet before.everyone_wins before.everyone_wins ballot set (won before.wins set) 4 (λ _ wins. wins) (λ _ wins. wins) low high _ refl step_is)) in
    (value, fixed, decision_is after.instances number ∙ decided)

-- a step that was taken somewhere in a run was made on some synod, and the run goes on behind it
found : (step : ℕ) (before after : Synod) (turns : List Turn) → SynodRun before turns after → (number ballot : ℕ) → StepTaken step turns number ballot
    → (set : ℕ) × (between : Synod) × (left : Synod) × (rest : List Turn) × Made between (Work number step ballot set) (Ok tt) left × SynodRun left rest after
found step before after [] run number ballot (turn, set, is) = absurd cc
found step before after (first ∷ turns) (answer, left, is, does, rest) number ballot (zero, set, counted) =
    let here : first ≡ record { call = Work number step ballot set; answer = Some (Ok tt) } = cc in
    let call : first.call ≡ Work number step ballot set = ap (λ (t : Turn). t.call) here in
    let is_taken : answer ≡ Ok tt = let both : Some answer ≡ Some (Ok tt) = sym is ∙ ap (λ (t : Turn). t.answer) here in cc in
    (set, before, left, turns, rw (call, is_taken) at (made_of before left first.call answer does), rest)
found step before after (first ∷ turns) (answer, left, is, does, rest) number ballot (suc turn, set, counted) =
    found step left after turns rest number ballot (turn, set, counted)

-- so at the end of a run each ballot that was counted is decided, each that was fixed has a value, and two with the decided value have one
counted_is_decided_after : (before after : Synod) (turns : List Turn) → SynodRun before turns after → (number ballot : ℕ) → Counted turns number ballot → Decided after number ballot
counted_is_decided_after before after turns run number ballot counted =
    let (set, between, left, rest, made, run_on) = found 4 before after turns run number ballot counted in
    run_keeps_decided left after rest run_on number ballot (count_decides between left number ballot set made)

pub run_has_one_value : (before after : Synod) (turns : List Turn) → SynodRun before turns after → OneValue turns after
run_has_one_value before after turns run = record {
  one_value = λ number one other counted_one counted_other.
      let (v, one_fixed, v_decided) = counted_is_decided_after before after turns run number one counted_one in
      let (w, other_fixed, w_decided) = counted_is_decided_after before after turns run number other counted_other in
      one_fixed ∙ sym v_decided ∙ w_decided ∙ sym other_fixed;
  is_decided = counted_is_decided_after before after turns run;
  has_value = λ number ballot fixed.
      let (set, between, left, rest, made, run_on) = found 2 before after turns run number ballot fixed in
      let (value, has) = fix_gives_value between left number ballot set made in
      (value, run_keeps_values left after rest run_on number ballot value has);
}

-- each call answers and leaves what its definition says, so a list of calls does
pub run_is : (before after : Synod) (turns : List Turn) → SynodRun before turns after
    → (answers_of turns ≡ answers_to (tables_of before) (calls_of turns)) × (tables_of after ≡ after_calls (tables_of before) (calls_of turns))
run_is before after [] run = (refl, ap tables_of run)
run_is before after (turn ∷ turns) (answer, between, is, does, rest) =
    let made = made_of before between turn.call answer does in
    let (answers, tables) = run_is between after turns rest in (
      rw (is, made.answered, answers, made.left) refl,
      tables ∙ ap (λ t. after_calls t (calls_of turns)) made.left,
    )
