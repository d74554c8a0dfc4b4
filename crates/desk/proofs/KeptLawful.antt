-- What is lawful in lawful tables, and the desk's calls that keep them lawful.
use Rattle.std.proofs.Common.{ℕ, zero, suc, ◌≤◌, true, Bool, List, Some, None, Option, Result, Ok, Err, slice_get, arith}
use Rattle.std.specs.Prelude.{nat_le, nat_lt, ok_or}
use Rattle.std.specs.Option.{IfSome}
use Rattle.std.specs.Result.{IfOk}
use Rattle.std.proofs.lemmas.Bool.Decides.{nat_tests}
use Rattle.std.proofs.lemmas.Option.{IfSome_then}
use Rattle.fault.specs.declared.Fault.{Fault}
use Rattle.fault.specs.declared.Fault.TheVariants.{NoNode, NotStarted, Stopped, NotOpen}
use Rattle.frame.specs.Lawful.{Node}
use Rattle.refusal.specs.declared.Refusal.{Refusal}
use Rattle.slots.specs.Slots.{lost}
use Rattle.tables.specs.declared.records.NodeRecord.{NodeRecord}
use Rattle.tables.specs.declared.records.OperationRow.{OperationRow}
use Rattle.tables.specs.declared.records.OperationState.{OperationState}
use Rattle.tables.specs.declared.records.OperationState.TheVariants.{GivenUp}
use Rattle.tables.specs.declared.records.Status.{Status}
use Rattle.tables.specs.Lawful.{LawfulNode, LawfulOperation}
use Rattle.node.specs.Conditions.{is_open}
use Rattle.desk.specs.declared.desk.Desk.{Desk}
use Rattle.desk.specs.Asking.{served, record_of, not_stopped, running, started}
use Rattle.desk.specs.Ending.{still_open, may_give_up, giving_up, give_up_step, may_stop, stopping, stop_step, losing, lose_step, frame_lost}
use Rattle.desk.specs.LawfulTables.{LawfulTables}
use Rattle.desk.specs.Tables.{Tables}
use Rattle.desk.proofs.Replaced.{row_replaced, record_replaced}
use Rattle.desk.proofs.Results.{where_true, where_false, where_first, where_found}

not_stopped_holds : (P : NodeRecord → Type 0) (found : Option NodeRecord) → IfSome found P → IfOk (not_stopped found) P
not_stopped_holds P (Some node) holds = where_false P node.stopped (Ok node) Stopped (λ _. holds)
not_stopped_holds P None holds = tt

there_holds : {X : Type 0} (P : X → Type 0) (found : Option X) (fault : Fault) → IfSome found P → IfOk (ok_or found fault) P
there_holds P (Some x) fault holds = holds
there_holds P None fault holds = tt

-- the record of a node whose number frames can name
abbrev pub LawfulAt : {C : Type 0} → (C → List ℕ) → ℕ → NodeRecord → Type 0
LawfulAt meaning node found = Node node × LawfulNode meaning found

-- no bound speaks of a node's status, nor of whether it has stopped
pub marked_lawful : {C : Type 0} (meaning : C → List ℕ) (node : NodeRecord) → LawfulNode meaning node → (status : Status) (stopped : Bool)
    → LawfulNode meaning (record node { status = status; stopped = stopped })
marked_lawful meaning node lawful status stopped = record {
  configuration_lawful = lawful.configuration_lawful;
  stored_lawful = lawful.stored_lawful;
  served_lawful = lawful.served_lawful;
  newest_bounded = lawful.newest_bounded;
}

-- nor of the state of an operation
pub any_state_lawful : {C : Type 0} (meaning : C → List ℕ) (row : OperationRow) → LawfulOperation meaning row → (state : OperationState) → LawfulOperation meaning (record row { state = state })
any_state_lawful meaning row lawful state = record {
  node_bounded = lawful.node_bounded;
  number_bounded = lawful.number_bounded;
  copy_lawful = lawful.copy_lawful;
  members_lawful = lawful.members_lawful;
  set_bounded = lawful.set_bounded;
  moments_bounded = lawful.moments_bounded;
}

module _ {C : Type 0} (meaning : C → List ℕ) (desk : Desk) (t : Tables) (lawful : LawfulTables meaning desk t) where
  record_lawful : (node : ℕ) → node ≤ desk.node_count → IfSome (record_of t.nodes node) (LawfulAt meaning node)
  record_lawful zero within = tt
  record_lawful (suc place) within =
      IfSome_then (slice_get t.nodes place) (lawful.nodes_lawful (suc place) within) (λ found found_lawful. ((omega arith, omega (arith, lawful.nodes_counted)), found_lawful))

  pub running_lawful : (node : ℕ) → IfOk (running desk t.nodes node) (LawfulAt meaning node)
  running_lawful node =
      where_true (LawfulAt meaning node) (nat_le node desk.node_count) (not_stopped (record_of t.nodes node)) NoNode
      (λ within. not_stopped_holds (LawfulAt meaning node) (record_of t.nodes node) (record_lawful node (grind (arith, nat_tests))))

  pub started_lawful : (operation : ℕ) → IfOk (started desk t.operations operation) (LawfulOperation meaning)
  started_lawful operation =
      let found = slice_get t.operations operation in
      where_true (LawfulOperation meaning) (nat_lt operation desk.operations_used) (ok_or found NotStarted) NotStarted
      (λ used. there_holds (LawfulOperation meaning) found NotStarted (lawful.operations_lawful operation (grind (arith, nat_tests))))

  stopped_lawful : (node : ℕ) (answer : Result NodeRecord Fault) → IfOk answer (LawfulAt meaning node) → LawfulTables meaning desk (stopping t node answer).1
  stopped_lawful node (Ok found) (_, found_lawful) = record {
    nodes_lawful = record_replaced (LawfulNode meaning) desk.node_count t.nodes lawful.nodes_lawful node _ (marked_lawful meaning found found_lawful found.status true);
    operations_lawful = lawful.operations_lawful;
    proposals_lawful = lawful.proposals_lawful;
    nodes_counted = lawful.nodes_counted;
  }
  stopped_lawful node (Err fault) found_lawful = lawful

  pub stop_keeps_lawful : (node : ℕ) → LawfulTables meaning desk (stop_step desk t node).1
  stop_keeps_lawful node = stopped_lawful node (may_stop desk t node) (where_first (LawfulAt meaning node) (served desk t) (running desk t.nodes node) (λ _. running_lawful node))

  -- frames have no part in the bounds
  pub other_frames_lawful : (frames : List ℕ) → LawfulTables meaning desk (record t { frames = frames })
  other_frames_lawful frames = record {
    nodes_lawful = lawful.nodes_lawful;
    operations_lawful = lawful.operations_lawful;
    proposals_lawful = lawful.proposals_lawful;
    nodes_counted = lawful.nodes_counted;
  }

  losing_lawful : (answer : Result (Unit {0}) Refusal) (frames : List ℕ) → LawfulTables meaning desk (frame_lost t (answer, frames)).1
  losing_lawful (Ok _) frames = other_frames_lawful frames
  losing_lawful (Err refusal) frames = lawful

  lost_lawful : (slot : ℕ) (answer : Result (Unit {0}) Fault) → LawfulTables meaning desk (losing t slot answer).1
  lost_lawful slot (Ok _) = losing_lawful (lost t.frames slot).0 (lost t.frames slot).1
  lost_lawful slot (Err fault) = lawful

  pub lose_keeps_lawful : (slot : ℕ) → LawfulTables meaning desk (lose_step desk t slot).1
  lose_keeps_lawful slot = lost_lawful slot (served desk t)

  given_up_lawful : (operation : ℕ) (answer : Result OperationRow Fault) → IfOk answer (LawfulOperation meaning) → LawfulTables meaning desk (giving_up t operation answer).1
  given_up_lawful operation (Ok row) row_lawful = record {
    nodes_lawful = lawful.nodes_lawful;
    operations_lawful = row_replaced (LawfulOperation meaning) desk.operations_used t.operations lawful.operations_lawful _ (any_state_lawful meaning row row_lawful GivenUp) operation;
    proposals_lawful = lawful.proposals_lawful;
    nodes_counted = lawful.nodes_counted;
  }
  given_up_lawful operation (Err fault) row_lawful = lawful

  pub give_up_keeps_lawful : (operation : ℕ) → LawfulTables meaning desk (give_up_step desk t operation).1
  give_up_keeps_lawful operation =
      given_up_lawful operation (may_give_up desk t operation)
      (where_first (LawfulOperation meaning) (served desk t) _ (λ _.
      where_found (LawfulOperation meaning) (LawfulOperation meaning) (started desk t.operations operation) still_open (started_lawful operation) (λ row row_lawful.
      where_true (LawfulOperation meaning) (is_open row.state) (Ok row) NotOpen (λ _. row_lawful))))
