-- The call settle stops rightly.
use Rattle.std.proofs.Common.{◌≡◌, ℕ, ◌<◌, ◌≤◌, true, Option, Some, None, Result, Ok, Err, refl, arith}
use Rattle.std.specs.Prelude.{IfErr, IsSomeAnd, nat_lt, ◌==◌, slice_get, option_map, option_and_then}
use Rattle.std.specs.Result.{result_and}
use Rattle.std.proofs.lemmas.Bool.Decides.{nat_tests}
use Rattle.calls.specs.declared.call.Answer.{Answer}
use Rattle.calls.specs.declared.call.Answer.TheVariants.{Number}
use Rattle.calls.specs.declared.call.Call.{Call}
use Rattle.calls.specs.declared.call.Call.TheVariants as call
use Rattle.chooser.specs.Meaning.{decision_at}
use Rattle.desk.specs.Asking.{and_then, record_of}
use Rattle.fault.specs.declared.Fault.{Fault}
use Rattle.fault.specs.declared.Fault.TheVariants.{Closed, TableLength, NoNode, Stopped, Idle, NoDecision, NotProposed, TooFewSlots, Chooser}
use Rattle.floor.specs.State.{State}
use Rattle.floor.specs.Steps.{leaving_tables}
use Rattle.handover.specs.Settling.{of_number, named, slots_left, may_settle, settling}
use Rattle.law.proofs.Outcomes.{Outcome, answer_of}
use Rattle.law.proofs.Passing.{test_passes}
use Rattle.law.specs.Runs.{Parts, Step, telling, number_told}
use Rattle.slots.specs.Slots.{empty_count}
use Rattle.starts.specs.Grounds.{taking_part}
use Rattle.tables.specs.declared.records.NodeRecord.{NodeRecord}
use Rattle.tables.specs.declared.records.ProposalRow.{ProposalRow}
use Rattle.tables.specs.Members.{size}
use Rattle.stopping.specs.Grounds.{Holds, IsProposed, StopsRightly}
use Rattle.stopping.proofs.Asked.{not_equal}
use Rattle.stopping.proofs.Chains.{UpTo, Stops, StopsUpTo, then_holds, and_holds, if_holds, unless_holds, first_stops, and_first_stops, next_stops, if_stops, of_found, at_found, of_mapped, at_mapped, of_next, at_next}
use Rattle.stopping.proofs.Judged.{Judged, StopsAtEach, stopped, went_on, rightly}
use Rattle.stopping.proofs.Nodes.{member_grounded, member_none, member_stopped, member_idle, member_rest}
use Rattle.stopping.proofs.Serving.{all_grounded, stops_closed, stops_lengths, rest_stops}

-- what the test tells
equal_is : (one other : ℕ) → (one == other) ≡ true → one ≡ other
equal_is one other test = grind (arith, nat_tests)

module _ {C Q S : Type 0} (parts : Parts C Q S) (before : State Q S) where
  -- the used proposal row of a number that a decision names
  abbrev Named : ℕ → Option ℕ → Result ProposalRow Fault
  Named number at = named before.desk before.t.proposals number at

  abbrev Proposed : ℕ → ℕ → Type 0
  Proposed number proposal = IsProposed parts before number proposal

  -- A row of the number is found exactly where there is one.

  not_of_number : (P : Fault → Type 0) (number proposal : ℕ) → ((Proposed number proposal → ⊥) → P NotProposed) → (at : Option ProposalRow) → slice_get before.t.proposals proposal ≡ at → IfErr (of_number number at) P
  not_of_number P number proposal unnamed None is = unnamed (λ proposed. let here = proposed.here in absurd (cc))
  not_of_number P number proposal unnamed (Some row) is =
      unless_holds P (row.number == number) (Ok row) NotProposed
      (λ test. unnamed (λ proposed. let here = proposed.here in let same : proposed.row ≡ row = cc in not_equal row.number number test (let of_it = proposed.of_number in cc))) (λ _. tt)

  -- A decision is missing, or names no used row of the number.
  named_holds : (P : Fault → Type 0) (number : ℕ) (at : Option ℕ) → (at ≡ None → P NoDecision) → (IsSomeAnd at (λ proposal. Proposed number proposal → ⊥) → P NotProposed) → IfErr (Named number at) P
  named_holds P number None none unnamed = none refl
  named_holds P number (Some proposal) none unnamed =
      unless_holds P (nat_lt proposal before.desk.proposals_used) _ NotProposed (λ test. unnamed (λ proposed. let used = proposed.used in absurd (grind (arith, nat_tests)))) (λ _.
      not_of_number P number proposal unnamed (slice_get before.t.proposals proposal) refl)

  -- what is found is the row at the place, and of the number
  of_number_is : (number : ℕ) (at : Option ProposalRow) (row : ProposalRow) → of_number number at ≡ Ok row → (at ≡ Some row) × (row.number ≡ number)
  of_number_is number None row passes = absurd (cc)
  of_number_is number (Some other) row passes =
      let (test, is) = test_passes (other.number == number) (Ok other) NotProposed row passes in
      let same : other ≡ row = cc in
      let equal = equal_is other.number number test in
      (cc, cc)

  -- the decision that named a row, and the row
  record NamedBy (number : ℕ) (at : Option ℕ) (row : ProposalRow) : Type 0 where
    proposal : ℕ
    decided : at ≡ Some proposal
    here : slice_get before.t.proposals proposal ≡ Some row
    proposed : Proposed number proposal

  -- So a row that is named is used, and of the number.
  named_by : (number : ℕ) (at : Option ℕ) (row : ProposalRow) → Named number at ≡ Ok row → NamedBy number at row
  named_by number None row passes = absurd (cc)
  named_by number (Some proposal) row passes =
      let (test, found) = test_passes (nat_lt proposal before.desk.proposals_used) (of_number number (slice_get before.t.proposals proposal)) NotProposed row passes in
      let (here, of_it) = of_number_is number (slice_get before.t.proposals proposal) row found in
      record { proposal = proposal; decided = refl; here = here; proposed = record { used = grind (arith, nat_tests); row = row; here = here; of_number = of_it } }

  -- The higher of the two grounds is 16.
  named_up_to : (number : ℕ) (at : Option ℕ) (n : ℕ) → 16 ≤ n → StopsUpTo n (Named number at)
  named_up_to number at n low = named_holds (UpTo n) number at (λ _. omega arith) (λ _. low)

  -- where nothing is decided, it stops
  undecided_stops : (number : ℕ) (at : Option ℕ) → at ≡ None → Stops 15 (Named number at)
  undecided_stops number None is = omega arith
  undecided_stops number (Some proposal) is = absurd (cc)

  -- where nothing is named, it stops
  pub unnamed_stops : (number : ℕ) (at : Option ℕ) (told : Result ProposalRow Fault) → Named number at ≡ told → IsSomeAnd at (λ proposal. Proposed number proposal → ⊥) → Stops 16 told
  unnamed_stops number at (Ok row) is unnamed =
      let by = named_by number at row is in
      absurd (of_found (λ proposal. Proposed number proposal → ⊥) at by.proposal by.decided unnamed by.proposed)
  unnamed_stops number at (Err fault) is unnamed = rw is at (named_up_to number at 16 (omega arith))

  module _ (answer : Result Answer Fault) (after : State Q S) (node : ℕ) where
    abbrev settles : Call C
    settles = call.Settle node

    abbrev SettleGround : Fault → Type 0
    SettleGround = Holds parts before settles after.chooser

    abbrev may : Result ProposalRow Fault
    may = may_settle (parts.decided before.chooser) before.desk before.t node

    -- what is decided under the number of a record
    abbrev decided : NodeRecord → Option ℕ
    decided found = decision_at (parts.decided before.chooser) found.configuration.number

    abbrev named_at : NodeRecord → Result ProposalRow Fault
    named_at found = Named found.configuration.number (decided found)

    abbrev last : ProposalRow → Result ProposalRow Fault
    last row = result_and (slots_left before.t.frames row) (Ok row)

    abbrev next : NodeRecord → Result ProposalRow Fault
    next found = and_then (named_at found) last

    abbrev rest : Result ProposalRow Fault
    rest = and_then (taking_part before.desk before.t.nodes node) next

    abbrev Here : NodeRecord → Type 0
    Here found = record_of before.t.nodes node ≡ Some found

    -- How many frames are due: the row is the one that the decision under the node's number names.

    abbrev Fewer : ℕ → Type 0
    Fewer due = empty_count before.t.frames < due

    abbrev due_to : ℕ → Option ℕ
    due_to proposal = option_map (λ row. size row.members) (slice_get before.t.proposals proposal)

    abbrev due_at : NodeRecord → Option ℕ
    due_at found = option_and_then due_to (decided found)

    abbrev TooFew : Type 0
    TooFew = IsSomeAnd (option_and_then due_at (record_of before.t.nodes node)) Fewer

    -- Where the row that is named has more members than there are empty slots, too few slots are empty for what is due,
    too_few : (found : NodeRecord) → Here found → (row : ProposalRow) → NamedBy found.configuration.number (decided found) row → Fewer (size row.members) → TooFew
    too_few found here row by fewer =
        at_next Fewer due_at (record_of before.t.nodes node) found here
        (at_next Fewer due_to (decided found) by.proposal by.decided (at_mapped Fewer (λ row. size row.members) (slice_get before.t.proposals by.proposal) row by.here fewer))

    -- and the other way round.
    fewer : (found : NodeRecord) → Here found → (row : ProposalRow) → NamedBy found.configuration.number (decided found) row → TooFew → Fewer (size row.members)
    fewer found here row by few =
        of_mapped Fewer (λ row. size row.members) (slice_get before.t.proposals by.proposal) row by.here
        (of_next Fewer due_to (decided found) by.proposal by.decided (of_next Fewer due_at (record_of before.t.nodes node) found here few))

    -- What the rest stops on holds: the record that is asked is the node's.
    next_grounded : (found : NodeRecord) → Here found → IfErr (next found) SettleGround
    next_grounded found here =
        then_holds SettleGround (named_at found) last
        (named_holds SettleGround found.configuration.number (decided found)
        (at_found (λ found. decided found ≡ None) (record_of before.t.nodes node) found here)
        (at_found (λ found. IsSomeAnd (decided found) (λ proposal. Proposed found.configuration.number proposal → ⊥)) (record_of before.t.nodes node) found here))
        (λ row is.
        and_holds SettleGround (slots_left before.t.frames row) (Ok row)
        (if_holds SettleGround (nat_lt (empty_count before.t.frames) (size row.members)) (Ok tt) TooFewSlots
        (λ test. too_few found here row (named_by found.configuration.number (decided found) row is) (grind (arith, nat_tests))) (λ _. tt)) tt)

    -- So what the call stops on holds.
    settle_grounded : IfErr may SettleGround
    settle_grounded =
        all_grounded parts before settles after.chooser refl rest
        (member_grounded before.desk before.t.nodes node next SettleGround (λ none. none) (λ has. has) (λ idle. idle) next_grounded)

    -- Before the slots the decision is asked, whose grounds are lower.
    slots_stop : TooFew → (found : NodeRecord) → Here found → Stops 19 (next found)
    slots_stop few found here =
        next_stops (UpTo 19) (named_at found) last (named_up_to found.configuration.number (decided found) 19 (omega arith)) (λ row is.
        let fewer_slots = fewer found here row (named_by found.configuration.number (decided found) row is) few in
        and_first_stops (UpTo 19) (slots_left before.t.frames row) (Ok row)
        (if_stops (UpTo 19) (nat_lt (empty_count before.t.frames) (size row.members)) (Ok tt) TooFewSlots (grind (arith, nat_tests)) (omega arith)))

    -- It stops where a ground holds.
    settle_each : StopsAtEach parts before settles answer after may
    settle_each Closed low holds = stops_closed parts before settles after.chooser refl rest holds
    settle_each TableLength low holds = stops_lengths parts before settles after.chooser refl rest holds
    settle_each NoNode low holds = rest_stops parts before settles after.chooser refl rest 7 (omega arith) (member_none before.desk before.t.nodes node next holds)
    settle_each Stopped low holds = rest_stops parts before settles after.chooser refl rest 8 (omega arith) (member_stopped before.desk before.t.nodes node next holds)
    settle_each Idle low holds = rest_stops parts before settles after.chooser refl rest 9 (omega arith) (member_idle before.desk before.t.nodes node next holds)
    settle_each NoDecision low holds =
        rest_stops parts before settles after.chooser refl rest 15 (omega arith)
        (member_rest before.desk before.t.nodes node next 15 (omega arith) (λ found here.
        first_stops (UpTo 15) (named_at found) last
        (undecided_stops found.configuration.number (decided found) (of_found (λ found. decided found ≡ None) (record_of before.t.nodes node) found here holds))))
    settle_each NotProposed low holds =
        rest_stops parts before settles after.chooser refl rest 16 (omega arith)
        (member_rest before.desk before.t.nodes node next 16 (omega arith) (λ found here.
        first_stops (UpTo 16) (named_at found) last
        (unnamed_stops found.configuration.number (decided found) (named_at found) refl
        (of_found (λ found. IsSomeAnd (decided found) (λ proposal. Proposed found.configuration.number proposal → ⊥)) (record_of before.t.nodes node) found here holds))))
    settle_each TooFewSlots low holds =
        rest_stops parts before settles after.chooser refl rest 19 (omega arith) (member_rest before.desk before.t.nodes node next 19 (omega arith) (slots_stop holds))
    settle_each (Chooser refusal) low holds = absurd (cc)
    settle_each _ low holds = absurd holds

    -- It answers how many frames it sent, or the fault.
    settled : (told : Result ProposalRow Fault) → may ≡ told → ◌≡◌ {A = Outcome Q S} (answer, after) (telling number_told (leaving_tables before (settling parts.width before.t node told)))
        → Judged parts before settles answer after
    settled (Ok row) is step = went_on parts before settles answer after may settle_grounded settle_each row is (Number (size row.members)) (answer_of step) refl
    settled (Err fault) is step = stopped parts before settles answer after may settle_grounded settle_each fault is step

    pub settle_rightly : Step parts before settles answer after → StopsRightly parts before settles answer after
    settle_rightly step = rightly parts before settles answer after (settled may refl step)
