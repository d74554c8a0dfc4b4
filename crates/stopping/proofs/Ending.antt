-- The calls look, give up, stop and lose stop rightly.
use Rattle.std.proofs.Common.{◌≡◌, ◌≢◌, ◌⊎◌, inl, inr, ℕ, ◌≤◌, Bool, true, false, not, ◌&&◌, List, Result, Ok, Err, refl, if◌then◌else◌, replicate, arith}
use Rattle.std.specs.Prelude.{IfErr, nat_lt}
use Rattle.std.specs.Result.{result_and}
use Rattle.std.proofs.lemmas.Bool.Decides.{nat_tests}
use Rattle.calls.specs.declared.call.Answer.{Answer}
use Rattle.calls.specs.declared.call.Answer.TheVariants.{Number, Row}
use Rattle.calls.specs.declared.call.Call.{Call}
use Rattle.calls.specs.declared.call.Call.TheVariants as call
use Rattle.desk.specs.Asking.{and_then, served, running, started}
use Rattle.desk.specs.Ending.{frame_lost, losing, still_open, may_give_up, giving_up, may_stop, stopping, may_look}
use Rattle.fault.specs.declared.Fault.{Fault}
use Rattle.fault.specs.declared.Fault.TheVariants.{Closed, TableLength, NoSlot, NotStarted, NotOpen, NoNode, Stopped, Chooser}
use Rattle.floor.specs.State.{State}
use Rattle.floor.specs.Steps.{leaving_tables}
use Rattle.frame.specs.Limits.{slot_size}
use Rattle.law.proofs.Outcomes.{Outcome, answer_of}
use Rattle.law.specs.Runs.{Parts, Step, telling, zero_told, row_told}
use Rattle.link.proofs.NotRefused.{was_started}
use Rattle.node.specs.Conditions.{is_open}
use Rattle.refusal.specs.declared.Refusal.TheVariants as refused
use Rattle.slots.specs.Slots.{is_empty}
use Rattle.tables.specs.declared.records.NodeRecord.{NodeRecord}
use Rattle.tables.specs.declared.records.OperationRow.{OperationRow}
use Rattle.tables.specs.declared.records.OperationState.{OperationState}
use Rattle.tables.specs.declared.records.OperationState.TheVariants as state
use Rattle.writer.specs.Table.{slots, replaced}
use Rattle.stopping.specs.Grounds.{Holds, StopsRightly}
use Rattle.stopping.proofs.Serving.{all_grounded, stops_closed, stops_lengths, rest_stops}
use Rattle.stopping.proofs.Asked.{running_holds, none_stops, stopped_stops, started_holds, started_up_to, new_stops, not_false, one_fails, both_fail}
use Rattle.stopping.proofs.Chains.{UpTo, then_holds, unless_holds, first_stops, next_stops, unless_stops, of_found, at_found}
use Rattle.stopping.proofs.Judged.{Judged, StopsAtEach, stopped, went_on, rightly}

-- an operation whose state is not open
pub not_open : (at : OperationState) → is_open at ≡ false → at ≢ state.Open
not_open state.Open is same = absurd (cc)
not_open state.Answered is same = cc
not_open state.GivenUp is same = cc
not_open state.Proposed is same = cc

-- and the other way round
pub fails_open : (at : OperationState) → at ≢ state.Open → is_open at ≡ false
fails_open state.Open different = absurd (different refl)
fails_open state.Answered different = refl
fails_open state.GivenUp different = refl
fails_open state.Proposed different = refl

-- a slot that is not there, or is empty
pub no_frame : (frames : List ℕ) (slot : ℕ) → (nat_lt slot (slots frames) && not (is_empty frames slot)) ≡ false → (slots frames ≤ slot) ⊎ (is_empty frames slot ≡ true)
no_frame frames slot is = elim (one_fails (nat_lt slot (slots frames)) (not (is_empty frames slot)) is) [ inl above ↦ inl (grind (arith, nat_tests)) | inr empty ↦ inr (not_false _ empty) ]

-- and the other way round
pub fails_there : (frames : List ℕ) (slot : ℕ) → (slots frames ≤ slot) ⊎ (is_empty frames slot ≡ true) → (nat_lt slot (slots frames) && not (is_empty frames slot)) ≡ false
fails_there frames slot (inl above) = both_fail (nat_lt slot (slots frames)) _ (inl (grind (arith, nat_tests)))
fails_there frames slot (inr empty) = both_fail (nat_lt slot (slots frames)) _ (inr (rw empty refl))

module _ {C Q S : Type 0} (parts : Parts C Q S) (before : State Q S) (answer : Result Answer Fault) (after : State Q S) where
  -- A look

  module _ (operation : ℕ) where
    abbrev looks : Call C
    looks = call.Look operation

    abbrev LookGround : Fault → Type 0
    LookGround = Holds parts before looks after.chooser

    abbrev row_asked : Result OperationRow Fault
    row_asked = started before.desk before.t.operations operation

    -- What it stops on holds.
    look_grounded : IfErr (may_look before.desk before.t operation) LookGround
    look_grounded =
        all_grounded parts before looks after.chooser refl row_asked
        (started_holds before.desk before.t.operations operation LookGround (λ new. new))

    -- It stops where a ground holds: the other grounds are not asked of it.
    look_each : StopsAtEach parts before looks answer after (may_look before.desk before.t operation)
    look_each Closed low holds = stops_closed parts before looks after.chooser refl row_asked holds
    look_each TableLength low holds = stops_lengths parts before looks after.chooser refl row_asked holds
    look_each NotStarted low holds =
        rest_stops parts before looks after.chooser refl row_asked 5 (omega arith)
        (new_stops before.desk before.t.operations operation holds)
    look_each (Chooser refusal) low holds = absurd (cc)
    look_each _ low holds = absurd holds

    -- It answers the row that was found, or the fault.
    looked : (may : Result OperationRow Fault) → may_look before.desk before.t operation ≡ may → answer ≡ row_told may → after ≡ before → Judged parts before looks answer after
    looked (Ok row) is says same = went_on parts before looks answer after (may_look before.desk before.t operation) look_grounded look_each row is (Row row) says refl
    looked (Err fault) is says same = stopped parts before looks answer after (may_look before.desk before.t operation) look_grounded look_each fault is (λ i. (says i, same i))

    pub look_rightly : Step parts before looks answer after → StopsRightly parts before looks answer after
    look_rightly (says, same) = rightly parts before looks answer after (looked (may_look before.desk before.t operation) refl says same)

  -- Giving up an operation

  module _ (operation : ℕ) where
    abbrev gives_up : Call C
    gives_up = call.GiveUp operation

    abbrev GiveUpGround : Fault → Type 0
    GiveUpGround = Holds parts before gives_up after.chooser

    abbrev still : Result OperationRow Fault
    still = and_then (started before.desk before.t.operations operation) still_open

    -- The row that is asked whether it is open is the operation's.
    give_up_grounded : IfErr (may_give_up before.desk before.t operation) GiveUpGround
    give_up_grounded =
        all_grounded parts before gives_up after.chooser refl still
        (then_holds GiveUpGround (started before.desk before.t.operations operation) still_open (started_holds before.desk before.t.operations operation GiveUpGround (λ new. new)) (λ row is.
        unless_holds GiveUpGround (is_open row.state) (Ok row) NotOpen
        (λ test. at_found (λ row. row.state ≢ state.Open) _ row (was_started before.desk before.t.operations operation row is).1 (not_open row.state test)) (λ _. tt)))

    -- An operation that is not open has a row, so it is started or stops on 5.
    give_up_each : StopsAtEach parts before gives_up answer after (may_give_up before.desk before.t operation)
    give_up_each Closed low holds = stops_closed parts before gives_up after.chooser refl still holds
    give_up_each TableLength low holds = stops_lengths parts before gives_up after.chooser refl still holds
    give_up_each NotStarted low holds =
        rest_stops parts before gives_up after.chooser refl still 5 (omega arith)
        (first_stops (UpTo 5) (started before.desk before.t.operations operation) still_open (new_stops before.desk before.t.operations operation holds))
    give_up_each NotOpen low holds =
        rest_stops parts before gives_up after.chooser refl still 6 (omega arith)
        (next_stops (UpTo 6) (started before.desk before.t.operations operation) still_open (started_up_to before.desk before.t.operations operation 6 (omega arith)) (λ row is.
        unless_stops (UpTo 6) (is_open row.state) (Ok row) NotOpen
        (fails_open row.state (of_found (λ row. row.state ≢ state.Open) _ row (was_started before.desk before.t.operations operation row is).1 holds)) (omega arith)))
    give_up_each (Chooser refusal) low holds = absurd (cc)
    give_up_each _ low holds = absurd holds

    -- It answers 0, or the fault.
    given_up : (may : Result OperationRow Fault) → may_give_up before.desk before.t operation ≡ may
        → ◌≡◌ {A = Outcome Q S} (answer, after) (telling zero_told (leaving_tables before (giving_up before.t operation may))) → Judged parts before gives_up answer after
    given_up (Ok row) is step = went_on parts before gives_up answer after (may_give_up before.desk before.t operation) give_up_grounded give_up_each row is (Number 0) (answer_of step) refl
    given_up (Err fault) is step = stopped parts before gives_up answer after (may_give_up before.desk before.t operation) give_up_grounded give_up_each fault is step

    pub give_up_rightly : Step parts before gives_up answer after → StopsRightly parts before gives_up answer after
    give_up_rightly step = rightly parts before gives_up answer after (given_up (may_give_up before.desk before.t operation) refl step)

  -- Stopping a node

  module _ (node : ℕ) where
    abbrev stops : Call C
    stops = call.Stop node

    abbrev StopGround : Fault → Type 0
    StopGround = Holds parts before stops after.chooser

    abbrev runs : Result NodeRecord Fault
    runs = running before.desk before.t.nodes node

    -- What it stops on holds.
    stop_grounded : IfErr (may_stop before.desk before.t node) StopGround
    stop_grounded =
        all_grounded parts before stops after.chooser refl runs (running_holds before.desk before.t.nodes node StopGround (λ none. none) (λ has. has))

    -- It stops where a ground holds.
    stop_each : StopsAtEach parts before stops answer after (may_stop before.desk before.t node)
    stop_each Closed low holds = stops_closed parts before stops after.chooser refl runs holds
    stop_each TableLength low holds = stops_lengths parts before stops after.chooser refl runs holds
    stop_each NoNode low holds = rest_stops parts before stops after.chooser refl runs 7 (omega arith) (none_stops before.desk before.t.nodes node holds)
    stop_each Stopped low holds = rest_stops parts before stops after.chooser refl runs 8 (omega arith) (stopped_stops before.desk before.t.nodes node holds)
    stop_each (Chooser refusal) low holds = absurd (cc)
    stop_each _ low holds = absurd holds

    -- It answers 0, or the fault.
    halted : (may : Result NodeRecord Fault) → may_stop before.desk before.t node ≡ may
        → ◌≡◌ {A = Outcome Q S} (answer, after) (telling zero_told (leaving_tables before (stopping before.t node may))) → Judged parts before stops answer after
    halted (Ok found) is step = went_on parts before stops answer after (may_stop before.desk before.t node) stop_grounded stop_each found is (Number 0) (answer_of step) refl
    halted (Err fault) is step = stopped parts before stops answer after (may_stop before.desk before.t node) stop_grounded stop_each fault is step

    pub stop_rightly : Step parts before stops answer after → StopsRightly parts before stops answer after
    stop_rightly step = rightly parts before stops answer after (halted (may_stop before.desk before.t node) refl step)

  -- Losing a frame

  module _ (slot : ℕ) where
    abbrev loses : Call C
    loses = call.Lose slot

    abbrev LoseGround : Fault → Type 0
    LoseGround = Holds parts before loses after.chooser

    -- there is such a slot, and it is not empty
    abbrev there : Bool
    there = nat_lt slot (slots before.t.frames) && not (is_empty before.t.frames slot)

    abbrev frame_there : Result (Unit {0}) Fault
    frame_there = if there then Ok tt else Err NoSlot

    -- the questions of the call
    abbrev may_lose : Result (Unit {0}) Fault
    may_lose = result_and (served before.desk before.t) frame_there

    -- Losing a frame asks nothing but whether it is there.
    lose_grounded : IfErr may_lose LoseGround
    lose_grounded =
        all_grounded parts before loses after.chooser refl frame_there
        (unless_holds LoseGround there (Ok tt) NoSlot (no_frame before.t.frames slot) (λ _. tt))

    -- It stops where a ground holds.
    lose_each : StopsAtEach parts before loses answer after may_lose
    lose_each Closed low holds = stops_closed parts before loses after.chooser refl frame_there holds
    lose_each TableLength low holds = stops_lengths parts before loses after.chooser refl frame_there holds
    lose_each NoSlot low holds =
        rest_stops parts before loses after.chooser refl frame_there 3 (omega arith)
        (unless_stops (UpTo 3) there (Ok tt) NoSlot (fails_there before.t.frames slot holds) (omega arith))
    lose_each (Chooser refusal) low holds = absurd (cc)
    lose_each _ low holds = absurd holds

    -- The frame was there, or not: losing it answers by the same test.
    lost_by : (test : Bool) → there ≡ test → served before.desk before.t ≡ Ok tt
        → ◌≡◌ {A = Outcome Q S} (answer, after) (telling zero_told (leaving_tables before (frame_lost before.t (if test then (Ok tt, replaced before.t.frames slot (replicate slot_size 0)) else (Err refused.NoSlot, before.t.frames)))))
        → Judged parts before loses answer after
    lost_by true is serves step = went_on parts before loses answer after may_lose lose_grounded lose_each tt (rw (serves, is) refl) (Number 0) (answer_of step) refl
    lost_by false is serves step = stopped parts before loses answer after may_lose lose_grounded lose_each NoSlot (rw (serves, is) refl) step

    -- The floor serves the call, or not.
    lost_of : (may : Result (Unit {0}) Fault) → served before.desk before.t ≡ may
        → ◌≡◌ {A = Outcome Q S} (answer, after) (telling zero_told (leaving_tables before (losing before.t slot may))) → Judged parts before loses answer after
    lost_of (Ok nothing) is step = lost_by there refl is step
    lost_of (Err fault) is step = stopped parts before loses answer after may_lose lose_grounded lose_each fault (rw is refl) step

    pub lose_rightly : Step parts before loses answer after → StopsRightly parts before loses answer after
    lose_rightly step = rightly parts before loses answer after (lost_of (served before.desk before.t) refl step)
