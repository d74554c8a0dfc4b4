-- The calls propose and work stop rightly: on a ground, or on what the chooser refuses.
use Rattle.std.proofs.Common.{◌≡◌, ◌≢◌, ◌⊎◌, inl, inr, ℕ, ◌≤◌, Bool, true, false, length, Option, Some, None, Result, Ok, Err, refl, ap, sym, ◌∙◌, subst, if◌then◌else◌, arith}
use Rattle.std.specs.Prelude.{IfErr, IsSomeAnd, nat_lt, ◌==◌, slice_get}
use Rattle.std.specs.Result.{result_and}
use Rattle.std.proofs.lemmas.Bool.Decides.{nat_tests}
use Rattle.calls.specs.declared.call.Answer.{Answer}
use Rattle.calls.specs.declared.call.Answer.TheVariants.{Number}
use Rattle.calls.specs.declared.call.Call.{Call}
use Rattle.calls.specs.declared.call.Call.TheVariants as call
use Rattle.chooser.specs.Meaning as chooser
use Rattle.desk.specs.declared.desk.Desk.{Desk}
use Rattle.desk.specs.Asking.{and_then, served, record_of, started}
use Rattle.desk.specs.Ending.{still_open}
use Rattle.desk.specs.Tables.{Tables}
use Rattle.fault.specs.declared.Fault.{Fault}
use Rattle.fault.specs.declared.Fault.TheVariants.{Closed, TableLength, NotStarted, NotOpen, NoRegroup, Stopped, OtherNumber, TooFewFrozen, ProposalsUsed, Chooser}
use Rattle.floor.specs.State.{State}
use Rattle.handover.specs.Proposing.{regroup_open, still_running, running_node, frozen_group, proposal_left, may_propose, offered, Proposing}
use Rattle.handover.specs.Working.{passed_on, Working}
use Rattle.law.proofs.Passing.{and_then_passes, result_and_passes, test_passes, test_stops_not}
use Rattle.law.specs.Runs.{Parts, Step, number_told, zero_told}
use Rattle.link.proofs.NotRefused.{was_started}
use Rattle.node.specs.Conditions.{is_open, same_kind}
use Rattle.tables.specs.declared.records.NodeRecord.{NodeRecord}
use Rattle.tables.specs.declared.records.OperationKind.{OperationKind}
use Rattle.tables.specs.declared.records.OperationKind.TheVariants as kind
use Rattle.tables.specs.declared.records.OperationRow.{OperationRow}
use Rattle.tables.specs.declared.records.OperationState.TheVariants as state
use Rattle.tables.specs.Members.{size}
use Rattle.stopping.specs.Grounds.{Holds, StopsRightly}
use Rattle.stopping.proofs.Asked.{started_holds, started_up_to, new_stops, not_equal, equal_fails}
use Rattle.stopping.proofs.Chains.{UpTo, Stops, then_holds, and_holds, unless_holds, if_holds, first_stops, and_first_stops, next_stops, and_next_stops, if_stops, unless_stops, unless_next_stops, of_found, at_found}
use Rattle.stopping.proofs.Ending.{not_open, fails_open}
use Rattle.stopping.proofs.Judged.{Judged, StopsAtEach, stopped, went_on, rightly}
use Rattle.stopping.proofs.Serving.{served_grounded, closed_so, lengths_so, all_grounded, stops_closed, stops_lengths, rest_stops}

-- a row that is no regroup's
no_regroup : (at : OperationKind) → same_kind at kind.Regroup ≡ false → at ≢ kind.Regroup
no_regroup kind.Read test same = cc
no_regroup kind.Write test same = cc
no_regroup kind.Regroup test same = cc

-- and the other way round
fails_regroup : (at : OperationKind) → at ≢ kind.Regroup → same_kind at kind.Regroup ≡ false
fails_regroup kind.Read different = refl
fails_regroup kind.Write different = refl
fails_regroup kind.Regroup different = absurd (different refl)

-- What is asked of the row

-- First it is asked whether it is open, then what it is.
regroup_open_holds : (P : Fault → Type 0) (row : OperationRow) → (row.state ≢ state.Open → P NotOpen) → (row.kind ≢ kind.Regroup → P NoRegroup) → IfErr (regroup_open row) P
regroup_open_holds P row closed other =
    then_holds P (still_open row) (λ row. if same_kind row.kind kind.Regroup then Ok row else Err NoRegroup)
    (unless_holds P (is_open row.state) (Ok row) NotOpen (λ test. closed (not_open row.state test)) (λ _. tt)) (λ found is.
    let (_, passed) = test_passes (is_open row.state) (Ok row) NotOpen found is in
    let same : row ≡ found = cc in
    subst (λ row. IfErr (if same_kind row.kind kind.Regroup then Ok row else Err NoRegroup) P) same
    (unless_holds P (same_kind row.kind kind.Regroup) (Ok row) NoRegroup (λ test. other (no_regroup row.kind test)) (λ _. tt)))

-- the row that is asked on is the row
regroup_open_is : (row found : OperationRow) → regroup_open row ≡ Ok found → row ≡ found
regroup_open_is row found passes =
    let (middle, opens, rest) = and_then_passes (still_open row) (λ row. if same_kind row.kind kind.Regroup then Ok row else Err NoRegroup) found passes in
    let (_, one) = test_passes (is_open row.state) (Ok row) NotOpen middle opens in
    let (_, other) = test_passes (same_kind middle.kind kind.Regroup) (Ok middle) NoRegroup found rest in
    cc

-- where it is not open, it stops
closed_stops : (row : OperationRow) → row.state ≢ state.Open → Stops 6 (regroup_open row)
closed_stops row closed = first_stops (UpTo 6) (still_open row) _ (unless_stops (UpTo 6) (is_open row.state) (Ok row) NotOpen (fails_open row.state closed) (omega arith))

-- and where it is no regroup: both grounds have one number
other_kind_stops : (row : OperationRow) → row.kind ≢ kind.Regroup → Stops 6 (regroup_open row)
other_kind_stops row other =
    next_stops (UpTo 6) (still_open row) _ (unless_holds (UpTo 6) (is_open row.state) (Ok row) NotOpen (λ _. omega arith) (λ _. tt)) (λ found is.
    let (_, passed) = test_passes (is_open row.state) (Ok row) NotOpen found is in
    let same : row ≡ found = cc in
    unless_stops (UpTo 6) (same_kind found.kind kind.Regroup) (Ok found) NoRegroup (fails_regroup found.kind (subst (λ row. row.kind ≢ kind.Regroup) same other)) (omega arith))

-- What is asked of its node

-- the record that is asked on is the node's
running_is : (at : Option NodeRecord) (found : NodeRecord) → still_running at ≡ Ok found → at ≡ Some found
running_is None found passes = absurd (cc)
running_is (Some other) found passes = let (_, is) = test_stops_not other.stopped (Ok other) Stopped found passes in cc

-- the node has stopped, or there is no record of it
abbrev HasStopped : Option NodeRecord → Type 0
HasStopped at = (at ≡ None) ⊎ IsSomeAnd at (λ found. found.stopped ≡ true)

running_holds : (P : Fault → Type 0) (at : Option NodeRecord) → (HasStopped at → P Stopped) → IfErr (still_running at) P
running_holds P None stopped = stopped (inl refl)
running_holds P (Some found) stopped = if_holds P found.stopped (Ok found) Stopped (λ test. stopped (inr test)) (λ _. tt)

halted_stops : (at : Option NodeRecord) → HasStopped at → Stops 8 (still_running at)
halted_stops None holds = omega arith
halted_stops (Some found) (inl none) = absurd (cc)
halted_stops (Some found) (inr test) = if_stops (UpTo 8) found.stopped (Ok found) Stopped test (omega arith)

module _ (wins : ℕ → ℕ → Bool) (row : OperationRow) (found : NodeRecord) where
  abbrev suffices : Bool
  suffices = wins (size found.configuration.members) row.set

  abbrev same_number : Bool
  same_number = found.configuration.number == row.number

  -- First the number is asked, then the places that froze.
  group_holds : (P : Fault → Type 0) → (found.configuration.number ≢ row.number → P OtherNumber) → (suffices ≡ false → P TooFewFrozen) → IfErr (frozen_group wins row found) P
  group_holds P other few =
      unless_holds P same_number _ OtherNumber (λ test. other (λ same. not_equal found.configuration.number row.number test (sym same))) (λ _.
      unless_holds P suffices (Ok tt) TooFewFrozen few (λ _. tt))

  other_number_stops : found.configuration.number ≢ row.number → Stops 12 (frozen_group wins row found)
  other_number_stops other = unless_stops (UpTo 12) same_number _ OtherNumber (equal_fails found.configuration.number row.number (λ same. other (sym same))) (omega arith)

  few_frozen_stops : suffices ≡ false → Stops 14 (frozen_group wins row found)
  few_frozen_stops few =
      unless_next_stops (UpTo 14) same_number (if suffices then Ok tt else Err TooFewFrozen) OtherNumber (omega arith) (λ _. unless_stops (UpTo 14) suffices (Ok tt) TooFewFrozen few (omega arith))

module _ {C Q S : Type 0} (parts : Parts C Q S) (before : State Q S) (answer : Result Answer Fault) (after : State Q S) where
  -- A proposal

  module _ (operation : ℕ) where
    abbrev proposes : Call C
    proposes = call.Propose operation

    abbrev ProposeGround : Fault → Type 0
    ProposeGround = Holds parts before proposes after.chooser

    abbrev wins : ℕ → ℕ → Bool
    wins = parts.winning before.rule

    abbrev may : Result OperationRow Fault
    may = may_propose wins before.desk before.t operation

    abbrev row_asked : Result OperationRow Fault
    row_asked = started before.desk before.t.operations operation

    abbrev left : Result (Unit {0}) Fault
    left = proposal_left before.desk before.t.proposals

    -- the questions from the last on
    abbrev at_node : OperationRow → NodeRecord → Result OperationRow Fault
    at_node row found = result_and (frozen_group wins row found) (result_and left (Ok row))

    abbrev at_regroup : OperationRow → Result OperationRow Fault
    at_regroup row = and_then (running_node before.t.nodes row) (at_node row)

    abbrev at_row : OperationRow → Result OperationRow Fault
    at_row row = and_then (regroup_open row) at_regroup

    abbrev rest : Result OperationRow Fault
    rest = and_then row_asked at_row

    -- the operation has this row, the node this record
    abbrev Here : OperationRow → Type 0
    Here row = slice_get before.t.operations operation ≡ Some row

    abbrev Its : OperationRow → NodeRecord → Type 0
    Its row found = record_of before.t.nodes row.node ≡ Some found

    -- of the row, and of the row and the record
    abbrev AtRow : (OperationRow → Type 0) → Type 0
    AtRow P = IsSomeAnd (slice_get before.t.operations operation) P

    abbrev AtBoth : (OperationRow → NodeRecord → Type 0) → Type 0
    AtBoth P = AtRow (λ row. IsSomeAnd (record_of before.t.nodes row.node) (P row))

    at_row_so : (P : OperationRow → Type 0) (row : OperationRow) → Here row → P row → AtRow P
    at_row_so P row here holds = at_found P (slice_get before.t.operations operation) row here holds

    of_row : (P : OperationRow → Type 0) (row : OperationRow) → Here row → AtRow P → P row
    of_row P row here holds = of_found P (slice_get before.t.operations operation) row here holds

    at_both : (P : OperationRow → NodeRecord → Type 0) (row : OperationRow) (found : NodeRecord) → Here row → Its row found → P row found → AtBoth P
    at_both P row found here its holds = at_row_so (λ row. IsSomeAnd (record_of before.t.nodes row.node) (P row)) row here (at_found (P row) (record_of before.t.nodes row.node) found its holds)

    of_both : (P : OperationRow → NodeRecord → Type 0) (row : OperationRow) (found : NodeRecord) → Here row → Its row found → AtBoth P → P row found
    of_both P row found here its holds = of_found (P row) (record_of before.t.nodes row.node) found its (of_row (λ row. IsSomeAnd (record_of before.t.nodes row.node) (P row)) row here holds)

    -- What it stops on holds.

    left_holds : (P : Fault → Type 0) → (length before.t.proposals ≤ before.desk.proposals_used → P ProposalsUsed) → IfErr left P
    left_holds P used = unless_holds P (nat_lt before.desk.proposals_used (length before.t.proposals)) (Ok tt) ProposalsUsed (λ test. used (grind (arith, nat_tests))) (λ _. tt)

    at_node_holds : (row : OperationRow) → Here row → (found : NodeRecord) → Its row found → IfErr (at_node row found) ProposeGround
    at_node_holds row here found its =
        and_holds ProposeGround (frozen_group wins row found) (result_and left (Ok row))
        (group_holds wins row found ProposeGround
        (at_both (λ row found. found.configuration.number ≢ row.number) row found here its)
        (at_both (λ row found. wins (size found.configuration.members) row.set ≡ false) row found here its))
        (and_holds ProposeGround left (Ok row) (left_holds ProposeGround (λ used. used)) tt)

    -- after the regroup: its node, then what the node's record tells
    at_regroup_holds : (row : OperationRow) → Here row → IfErr (at_regroup row) ProposeGround
    at_regroup_holds row here =
        then_holds ProposeGround (running_node before.t.nodes row) (at_node row)
        (running_holds ProposeGround (record_of before.t.nodes row.node) (at_row_so (λ row. HasStopped (record_of before.t.nodes row.node)) row here)) (λ found is.
        at_node_holds row here found (running_is (record_of before.t.nodes row.node) found is))

    -- Each question stops on its own ground.
    propose_grounded : IfErr may ProposeGround
    propose_grounded =
        all_grounded parts before proposes after.chooser refl rest
        (then_holds ProposeGround row_asked at_row (started_holds before.desk before.t.operations operation ProposeGround (λ new. new)) (λ row is.
        let here : Here row = (was_started before.desk before.t.operations operation row is).1 in
        then_holds ProposeGround (regroup_open row) at_regroup
        (regroup_open_holds ProposeGround row (at_row_so (λ row. row.state ≢ state.Open) row here) (at_row_so (λ row. row.kind ≢ kind.Regroup) row here)) (λ found passed.
        at_regroup_holds found (subst Here (regroup_open_is row found passed) here))))

    -- It stops where a ground holds: after the row, after the regroup, after its node.

    after_row : (n : ℕ) → 5 ≤ n → ((row : OperationRow) → Here row → Stops n (at_row row)) → Stops n may
    after_row n low further =
        rest_stops parts before proposes after.chooser refl rest n (omega arith)
        (next_stops (UpTo n) row_asked at_row (started_up_to before.desk before.t.operations operation n low) (λ row is. further row (was_started before.desk before.t.operations operation row is).1))

    after_regroup : (n : ℕ) → 6 ≤ n → ((row : OperationRow) → Here row → Stops n (at_regroup row)) → Stops n may
    after_regroup n low further =
        after_row n (omega arith) (λ row here.
        next_stops (UpTo n) (regroup_open row) at_regroup (regroup_open_holds (UpTo n) row (λ _. low) (λ _. low)) (λ found passed. further found (subst Here (regroup_open_is row found passed) here)))

    after_node : (n : ℕ) → 8 ≤ n → ((row : OperationRow) → Here row → (found : NodeRecord) → Its row found → Stops n (at_node row found)) → Stops n may
    after_node n low further =
        after_regroup n (omega arith) (λ row here.
        next_stops (UpTo n) (running_node before.t.nodes row) (at_node row) (running_holds (UpTo n) (record_of before.t.nodes row.node) (λ _. low)) (λ found is.
        further row here found (running_is (record_of before.t.nodes row.node) found is)))

    -- It stops where a ground holds: what is asked before has a lower number.
    propose_each : StopsAtEach parts before proposes answer after may
    propose_each Closed low holds = stops_closed parts before proposes after.chooser refl rest holds
    propose_each TableLength low holds = stops_lengths parts before proposes after.chooser refl rest holds
    propose_each NotStarted low holds =
        rest_stops parts before proposes after.chooser refl rest 5 (omega arith) (first_stops (UpTo 5) row_asked at_row (new_stops before.desk before.t.operations operation holds))
    propose_each NotOpen low holds =
        after_row 6 (omega arith) (λ row here. first_stops (UpTo 6) (regroup_open row) at_regroup (closed_stops row (of_row (λ row. row.state ≢ state.Open) row here holds)))
    propose_each NoRegroup low holds =
        after_row 6 (omega arith) (λ row here. first_stops (UpTo 6) (regroup_open row) at_regroup (other_kind_stops row (of_row (λ row. row.kind ≢ kind.Regroup) row here holds)))
    propose_each Stopped low holds =
        after_regroup 8 (omega arith) (λ row here.
        first_stops (UpTo 8) (running_node before.t.nodes row) (at_node row)
        (halted_stops (record_of before.t.nodes row.node) (of_row (λ row. HasStopped (record_of before.t.nodes row.node)) row here holds)))
    propose_each OtherNumber low holds =
        after_node 12 (omega arith) (λ row here found its.
        and_first_stops (UpTo 12) (frozen_group wins row found) (result_and left (Ok row))
        (other_number_stops wins row found (of_both (λ row found. found.configuration.number ≢ row.number) row found here its holds)))
    propose_each TooFewFrozen low holds =
        after_node 14 (omega arith) (λ row here found its.
        and_first_stops (UpTo 14) (frozen_group wins row found) (result_and left (Ok row))
        (few_frozen_stops wins row found (of_both (λ row found. wins (size found.configuration.members) row.set ≡ false) row found here its holds)))
    propose_each ProposalsUsed low holds =
        after_node 20 (omega arith) (λ row here found its.
        and_next_stops (UpTo 20) (frozen_group wins row found) (result_and left (Ok row)) (group_holds wins row found (UpTo 20) (λ _. omega arith) (λ _. omega arith))
        (and_first_stops (UpTo 20) left (Ok row)
        (unless_stops (UpTo 20) (nat_lt before.desk.proposals_used (length before.t.proposals)) (Ok tt) ProposalsUsed (grind (arith, nat_tests)) (omega arith))))
    propose_each (Chooser refusal) low holds = absurd (omega arith)
    propose_each _ low holds = absurd holds

    -- the row that is offered is the operation's
    offers_row : (row : OperationRow) → may ≡ Ok row → Here row
    offers_row row passes =
        let (_, _, asked) = result_and_passes (served before.desk before.t) rest row passes in
        let (first, starts, at_first) = and_then_passes row_asked at_row row asked in
        let (second, opens, at_second) = and_then_passes (regroup_open first) at_regroup row at_first in
        let (found, _, at_last) = and_then_passes (running_node before.t.nodes second) (at_node second) row at_second in
        let (_, _, more) = result_and_passes (frozen_group wins second found) (result_and left (Ok second)) row at_last in
        let (_, _, said) = result_and_passes left (Ok second) row more in
        let one : first ≡ second = regroup_open_is first second opens in
        let other : second ≡ row = cc in
        let here : Here first = (was_started before.desk before.t.operations operation first starts).1 in
        subst Here other (subst Here one here)

    -- What the call did, by what the chooser answered.

    abbrev Left : Type 0
    Left = Result ℕ Fault × Desk × Tables

    -- It took the offer, and the call answers the proposal's number, or it refused it, and no ground before holds.
    offered_so : (row : OperationRow) → may ≡ Ok row → (outcome : Result ℕ Fault) → answer ≡ number_told outcome → after.rule ≡ before.rule → (told : chooser.Answer)
        → parts.offering before.chooser row.number before.desk.proposals_used told after.chooser
        → ◌≡◌ {A = Left} (outcome, after.desk, after.t) (offered before.desk before.t operation row told) → Judged parts before proposes answer after
    offered_so row passes outcome says rule (Ok nothing) offers is =
        let took : outcome ≡ Ok before.desk.proposals_used = ap (λ (o : Left). o.0) is in
        went_on parts before proposes answer after may propose_grounded propose_each row passes (Number before.desk.proposals_used) (rw took at says)
        (at_row_so (λ row. parts.offering before.chooser row.number before.desk.proposals_used (Ok tt) after.chooser) row (offers_row row passes) offers)
    offered_so row passes outcome says rule (Err refusal) offers is =
        let refuses : outcome ≡ Err (Chooser refusal) = ap (λ (o : Left). o.0) is in
        inl
        (record {
          fault = Chooser refusal;
          says = rw refuses at says;
          holds = at_row_so (λ row. parts.offering before.chooser row.number before.desk.proposals_used (Err refusal) after.chooser) row (offers_row row passes) offers;
          lowest = λ other below there. absurd (rw passes at (propose_each other below there));
          nothing = (ap (λ (o : Left). o.1) is, ap (λ (o : Left). o.2) is, rule);
          chooser_stays = λ below. absurd (omega arith);
        })

    -- The chooser was asked, or it stays as it is.
    proposed : (told : Result OperationRow Fault) → may ≡ told → (outcome : Result ℕ Fault) → answer ≡ number_told outcome → after.rule ≡ before.rule
        → Proposing parts.offering before.desk before.t before.chooser operation told (outcome, after.desk, after.t) after.chooser → Judged parts before proposes answer after
    proposed (Ok row) passes outcome says rule (told, offers, is) = offered_so row passes outcome says rule told offers is
    proposed (Err fault) stops outcome says rule (is, same) =
        let refuses : outcome ≡ Err fault = ap (λ (o : Left). o.0) is in
        inl
        (record {
          fault = fault;
          says = rw refuses at says;
          holds = rw stops at propose_grounded;
          lowest = λ other below there. rw stops at (propose_each other below there);
          nothing = (ap (λ (o : Left). o.1) is, ap (λ (o : Left). o.2) is, rule);
          chooser_stays = λ below. same;
        })

    pub propose_rightly : Step parts before proposes answer after → StopsRightly parts before proposes answer after
    propose_rightly (outcome, (does, rule), says) = rightly parts before proposes answer after (proposed may refl outcome says rule does)

  -- Work

  module _ (number step ballot set : ℕ) where
    abbrev works : Call C
    works = call.Work number step ballot set

    abbrev serves : Result (Unit {0}) Fault
    serves = served before.desk before.t

    -- Nothing but the floor is asked before the chooser.
    work_grounded : IfErr serves (Holds parts before works after.chooser)
    work_grounded = served_grounded parts before works after.chooser refl

    work_each : StopsAtEach parts before works answer after serves
    work_each Closed low holds = closed_so parts before works after.chooser refl holds
    work_each TableLength low holds = lengths_so parts before works after.chooser refl holds
    work_each (Chooser refusal) low holds = absurd (omega arith)
    work_each _ low holds = absurd holds

    -- It took the step, or it refused it.
    worked_so : serves ≡ Ok tt → (outcome : Result (Unit {0}) Fault) → answer ≡ zero_told outcome → after ≡ record before { chooser = after.chooser } → (told : chooser.Answer)
        → parts.working before.chooser number step ballot set told after.chooser → outcome ≡ passed_on told → Judged parts before works answer after
    worked_so passes outcome says left (Ok nothing) does is = went_on parts before works answer after serves work_grounded work_each tt passes (Number 0) (rw is at says) does
    worked_so passes outcome says left (Err refusal) does is =
        inl
        (record {
          fault = Chooser refusal;
          says = rw is at says;
          holds = does;
          lowest = λ other below there. absurd (rw passes at (work_each other below there));
          nothing = (ap (λ (s : State Q S). s.desk) left, ap (λ (s : State Q S). s.t) left, ap (λ (s : State Q S). s.rule) left);
          chooser_stays = λ below. absurd (omega arith);
        })

    -- The chooser was asked, or it stays as it is.
    worked : (told : Result (Unit {0}) Fault) → serves ≡ told → (outcome : Result (Unit {0}) Fault) → answer ≡ zero_told outcome → after ≡ record before { chooser = after.chooser }
        → Working parts.working before.chooser number step ballot set told outcome after.chooser → Judged parts before works answer after
    worked (Ok nothing) passes outcome says left (told, does, is) = worked_so passes outcome says left told does is
    worked (Err fault) stops outcome says left (is, same) =
        let told : answer ≡ Err fault = rw is at says in
        let state : after ≡ before = left ∙ ap (λ chooser. record before { chooser = chooser }) same in
        stopped parts before works answer after serves work_grounded work_each fault stops (λ i. (told i, state i))

    pub work_rightly : Step parts before works answer after → StopsRightly parts before works answer after
    work_rightly (outcome, (does, left), says) = rightly parts before works answer after (worked serves refl outcome says left does)
