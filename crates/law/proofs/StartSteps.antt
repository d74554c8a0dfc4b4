-- A start on an open floor starts a row, or is refused.
use Rattle.std.proofs.Common.{◌≡◌, ℕ, ◌<◌, List, length, Result, Ok, Err, refl, ap, ◌∙◌, subst, slice_set}
use Rattle.std.specs.Prelude.{nat_lt}
use Rattle.std.specs.Result.{result_and}
use Rattle.std.proofs.lemmas.Bool.{ltb-true}
use Rattle.calls.specs.declared.call.Answer.{Answer}
use Rattle.calls.specs.declared.call.Answer.TheVariants.{Number}
use Rattle.calls.specs.declared.call.Call.{Call}
use Rattle.calls.specs.declared.call.Call.TheVariants as made
use Rattle.desk.specs.Asking.{served}
use Rattle.desk.specs.Lists.{is_lawful}
use Rattle.desk.specs.declared.desk.Desk.{Desk}
use Rattle.desk.specs.Tables.{Tables}
use Rattle.fault.specs.declared.Fault.{Fault}
use Rattle.fault.specs.declared.Fault.TheVariants.{OperationsUsed, Unlawful}
use Rattle.floor.specs.State.{State}
use Rattle.floor.specs.Steps.{leaving}
use Rattle.law.specs.Runs.{Parts, Step, telling, number_told}
use Rattle.law.proofs.Outcomes.{Outcome, answer_of, state_of, refused_by}
use Rattle.law.proofs.FramesFit.{BodyFits}
use Rattle.law.proofs.Passing.{and_then_passes, result_and_passes, test_passes}
use Rattle.law.proofs.Rows.{Begins, keeps_by, StartsRow, RowStep, Starts, refusal}
use Rattle.starts.specs.declared.start.Start.{Start}
use Rattle.starts.specs.Grounds.{row_left, slots_left, version_left, leading, taking_part, read_start, write_start, regroup_start, may_read, may_write, may_regroup}
use Rattle.starts.specs.Starts.{counted, begins, begins_at, reading, starting}
use Rattle.tables.specs.declared.members.Members.{Members}
use Rattle.tables.specs.declared.records.OperationRow.{OperationRow}
use Rattle.tables.specs.declared.records.OperationState.TheVariants.{Open}

-- a start that passed: a row is left, and it begins open
pub record MayStart {C : Type 0} (meaning : C → List ℕ) (desk : Desk) (t : Tables) (call : Call C) (start : Start) : Type 0 where
  pub room : desk.operations_used < length t.operations
  pub begins : Begins meaning call start.row
  pub is_open : start.row.state ≡ Open
  pub fits : BodyFits start.letter.body

has_room : (desk : Desk) (operations : List OperationRow) (nothing : Unit {0}) → row_left desk operations ≡ Ok nothing → desk.operations_used < length operations
has_room desk operations nothing left = ltb-true _ _ (test_passes (nat_lt desk.operations_used (length operations)) (Ok tt) OperationsUsed nothing left).0

-- what a start says last, where no ground stops it
last_passes : {A : Type 0} (ground : Result A Fault) (said start : Start) → result_and ground (Ok said) ≡ Ok start → said ≡ start
last_passes ground said start passes = let (_, _, is) = result_and_passes ground (Ok said) start passes in cc

module _ {C : Type 0} (meaning : C → List ℕ) (desk : Desk) (t : Tables) (node : ℕ) where
  -- A row was left, and the start is one that begins so.
  passed : (call : Call C) (start said : Start) → Begins meaning call said.row → said.row.state ≡ Open → BodyFits said.letter.body → said ≡ start → (nothing : Unit {0})
      → row_left desk t.operations ≡ Ok nothing
      → MayStart meaning desk t call start
  passed call start said begins is_open fits is nothing left =
      subst (λ s. MayStart meaning desk t call s) is (record { room = has_room desk t.operations nothing left; begins = begins; is_open = is_open; fits = fits })

  pub read_passes : (start : Start) → may_read desk t node ≡ Ok start → MayStart meaning desk t (made.Read node) start
  read_passes start passes =
      let (_, _, led) = result_and_passes (served desk t) _ start passes in
      let (found, _, rest) = and_then_passes (leading desk t.nodes node) _ start led in
      let (nothing, left, slots) = result_and_passes (row_left desk t.operations) _ start rest in
      passed (made.Read node) start (read_start desk node found) refl refl tt (last_passes (slots_left t.frames found) _ start slots) nothing left

  pub write_passes : (content : C) (start : Start) → may_write desk t node (meaning content) ≡ Ok start → MayStart meaning desk t (made.Write node content) start
  write_passes content start passes =
      let (_, _, led) = result_and_passes (served desk t) _ start passes in
      let (found, _, rest) = and_then_passes (leading desk t.nodes node) _ start led in
      let (nothing, left, version) = result_and_passes (row_left desk t.operations) _ start rest in
      let (_, _, slots) = result_and_passes (version_left found) _ start version in
      passed (made.Write node content) start (write_start desk node found (meaning content)) (refl, refl) refl tt (last_passes (slots_left t.frames found) _ start slots) nothing left

  pub regroup_passes : (members : Members) (start : Start) → may_regroup desk t node members ≡ Ok start → MayStart meaning desk t (made.Regroup node members) start
  regroup_passes members start passes =
      let (_, _, taking) = result_and_passes (served desk t) _ start passes in
      let (found, _, lawful) = and_then_passes (taking_part desk t.nodes node) _ start taking in
      let (_, rest) = test_passes (is_lawful members desk.node_count) _ Unlawful start lawful in
      let (nothing, left, slots) = result_and_passes (row_left desk t.operations) _ start rest in
      passed (made.Regroup node members) start (regroup_start desk node found members) refl refl tt (last_passes (slots_left t.frames found) _ start slots) nothing left

module _ {C Q S : Type 0} (parts : Parts C Q S) (before after : State Q S) (answer : Result Answer Fault) where
  abbrev desk : Desk
  desk = before.desk

  abbrev t : Tables
  t = before.t

  -- what a call leaves where no ground stops it
  begun : (call : Call C) (start : Start) (left : Tables) → left.operations ≡ slice_set t.operations desk.operations_used start.row → MayStart parts.meaning desk t call start
      → ◌≡◌ {A = Outcome Q S} (answer, after) (Ok (Number desk.operations_used), record before { desk = counted desk start; t = left }) → StartsRow parts before call answer after
  begun call start left placed may is = record {
    keeps = keeps_by before after _ (state_of is) refl refl refl;
    row = start.row;
    begins = may.begins;
    is_open = may.is_open;
    answered = answer_of is;
    counted = ap (λ (s : State Q S). s.desk.operations_used) (state_of is);
    has_room = may.room;
    placed = ap (λ (s : State Q S). s.t.operations) (state_of is) ∙ placed;
  }

  abbrev Rows : Call C → Type 0
  Rows call = RowStep parts before call answer after

  read_by : (node : ℕ) (may : Result Start Fault) → may_read desk t node ≡ may → ◌≡◌ {A = Outcome Q S} (answer, after) (telling number_told (leaving before (reading parts.width desk t may)))
      → Rows (made.Read node)
  read_by node (Ok start) passes is = Starts (begun (made.Read node) start (begins parts.width desk t start) refl (read_passes parts.meaning desk t node start passes) is)
  read_by node (Err fault) stops is = refusal parts before (made.Read node) answer after (refused_by before after answer fault is)

  -- a write or a regroup, which leave a record, too
  start_by : (call : Call C) (node : ℕ) (may : Result Start Fault) → ((start : Start) → may ≡ Ok start → MayStart parts.meaning desk t call start)
      → ◌≡◌ {A = Outcome Q S} (answer, after) (telling number_told (leaving before (starting parts.width desk t node may))) → Rows call
  start_by call node (Ok start) passes is = Starts (begun call start (begins_at parts.width desk t node start) refl (passes start refl) is)
  start_by call node (Err fault) passes is = refusal parts before call answer after (refused_by before after answer fault is)

  pub read_starts : (node : ℕ) → Step parts before (made.Read node) answer after → Rows (made.Read node)
  read_starts node step = read_by node (may_read desk t node) refl step

  pub write_starts : (node : ℕ) (content : C) → Step parts before (made.Write node content) answer after → Rows (made.Write node content)
  write_starts node content step = start_by (made.Write node content) node (may_write desk t node (parts.meaning content)) (write_passes parts.meaning desk t node content) step

  pub regroup_starts : (node : ℕ) (members : Members) → Step parts before (made.Regroup node members) answer after → Rows (made.Regroup node members)
  regroup_starts node members step = start_by (made.Regroup node members) node (may_regroup desk t node members) (regroup_passes parts.meaning desk t node members) step
