-- The calls read, write and regroup stop rightly.
use Rattle.std.proofs.Common.{◌≡◌, ℕ, ◌<◌, ◌≤◌, Bool, List, length, Some, Result, Ok, Err, refl, if◌then◌else◌, arith}
use Rattle.std.specs.Prelude.{IfErr, IsSomeAnd, nat_lt, option_map}
use Rattle.std.specs.Result.{result_and}
use Rattle.std.proofs.lemmas.Bool.Decides.{nat_tests}
use Rattle.calls.specs.declared.call.Answer.{Answer}
use Rattle.calls.specs.declared.call.Answer.TheVariants.{Number}
use Rattle.calls.specs.declared.call.Call.{Call}
use Rattle.calls.specs.declared.call.Call.TheVariants as call
use Rattle.desk.specs.Asking.{and_then, record_of}
use Rattle.desk.specs.Lists.{is_lawful}
use Rattle.desk.specs.declared.desk.Desk.{Desk}
use Rattle.fault.specs.declared.Fault.{Fault}
use Rattle.fault.specs.declared.Fault.TheVariants.{Closed, TableLength, NoNode, Stopped, Idle, Frozen, NotPrimary, Unlawful, OperationsUsed, LastVersion, TooFewSlots, Chooser}
use Rattle.floor.specs.State.{State}
use Rattle.floor.specs.Steps.{leaving}
use Rattle.frame.specs.Limits.{highest_version}
use Rattle.law.proofs.Outcomes.{Outcome, answer_of}
use Rattle.law.specs.Runs.{Parts, Step, telling, number_told}
use Rattle.slots.specs.Slots.{empty_count}
use Rattle.starts.specs.declared.start.Start.{Start}
use Rattle.starts.specs.Grounds.{taking_part, leading, row_left, slots_left, version_left, read_start, write_start, regroup_start, may_read, may_write, may_regroup}
use Rattle.starts.specs.Starts.{reading, starting}
use Rattle.tables.specs.declared.members.Members.{Members}
use Rattle.tables.specs.declared.records.NodeRecord.{NodeRecord}
use Rattle.tables.specs.declared.records.OperationRow.{OperationRow}
use Rattle.tables.specs.Members.{size}
use Rattle.stopping.specs.Grounds.{Holds, StopsRightly}
use Rattle.stopping.proofs.Chains.{UpTo, Stops, StopsUpTo, and_holds, if_holds, unless_holds, and_first_stops, and_next_stops, if_stops, unless_stops, unless_next_stops, of_found, at_found, of_mapped, at_mapped}
use Rattle.stopping.proofs.Judged.{Judged, StopsAtEach, stopped, went_on, rightly}
use Rattle.stopping.proofs.Nodes.{member_grounded, member_none, member_stopped, member_idle, member_rest, leader_grounded, leader_none, leader_stopped, leader_idle, leader_frozen, leader_other, leader_rest}
use Rattle.stopping.proofs.Serving.{all_grounded, stops_closed, stops_lengths, rest_stops}

-- What starts ask of the tables

module _ (P : Fault → Type 0) where
  row_left_holds : (desk : Desk) (operations : List OperationRow) → (length operations ≤ desk.operations_used → P OperationsUsed) → IfErr (row_left desk operations) P
  row_left_holds desk operations used = unless_holds P (nat_lt desk.operations_used (length operations)) (Ok tt) OperationsUsed (λ test. used (grind (arith, nat_tests))) (λ _. tt)

  slots_left_holds : (frames : List ℕ) (found : NodeRecord) → (empty_count frames < size found.configuration.members → P TooFewSlots) → IfErr (slots_left frames found) P
  slots_left_holds frames found few = if_holds P (nat_lt (empty_count frames) (size found.configuration.members)) (Ok tt) TooFewSlots (λ test. few (grind (arith, nat_tests))) (λ _. tt)

  version_left_holds : (found : NodeRecord) → (highest_version ≤ found.newest → P LastVersion) → IfErr (version_left found) P
  version_left_holds found last = unless_holds P (nat_lt found.newest highest_version) (Ok tt) LastVersion (λ test. last (grind (arith, nat_tests))) (λ _. tt)

-- and they stop where theirs holds
used_stops : (desk : Desk) (operations : List OperationRow) → length operations ≤ desk.operations_used → Stops 17 (row_left desk operations)
used_stops desk operations used = unless_stops (UpTo 17) (nat_lt desk.operations_used (length operations)) (Ok tt) OperationsUsed (grind (arith, nat_tests)) (omega arith)

last_stops : (found : NodeRecord) → highest_version ≤ found.newest → Stops 18 (version_left found)
last_stops found last = unless_stops (UpTo 18) (nat_lt found.newest highest_version) (Ok tt) LastVersion (grind (arith, nat_tests)) (omega arith)

few_stops : (frames : List ℕ) (found : NodeRecord) → empty_count frames < size found.configuration.members → Stops 19 (slots_left frames found)
few_stops frames found few = if_stops (UpTo 19) (nat_lt (empty_count frames) (size found.configuration.members)) (Ok tt) TooFewSlots (grind (arith, nat_tests)) (omega arith)

-- The row is the first of them that is asked for.
row_left_up_to : (desk : Desk) (operations : List OperationRow) (n : ℕ) → 17 ≤ n → StopsUpTo n (row_left desk operations)
row_left_up_to desk operations n low = row_left_holds (UpTo n) desk operations (λ _. low)

module _ {C Q S : Type 0} (parts : Parts C Q S) (before : State Q S) (answer : Result Answer Fault) (after : State Q S) (node : ℕ) where
  -- What all three ask of the tables

  abbrev row : Result (Unit {0}) Fault
  row = row_left before.desk before.t.operations

  abbrev enough : NodeRecord → Result (Unit {0}) Fault
  enough found = slots_left before.t.frames found

  -- the node has this record
  abbrev Here : NodeRecord → Type 0
  Here found = record_of before.t.nodes node ≡ Some found

  -- fewer slots are empty than frames are due to its group
  abbrev TooFew : Type 0
  TooFew = IsSomeAnd (option_map (λ found. size found.configuration.members) (record_of before.t.nodes node)) (λ due. empty_count before.t.frames < due)

  -- The record that is asked is the node's, so its group is the one that frames are due to.
  enough_holds : (P : Fault → Type 0) → (TooFew → P TooFewSlots) → (found : NodeRecord) → Here found → IfErr (enough found) P
  enough_holds P few found here =
      slots_left_holds P before.t.frames found (λ fewer. few (at_mapped (λ due. empty_count before.t.frames < due) (λ found. size found.configuration.members) (record_of before.t.nodes node) found here fewer))

  enough_stops : TooFew → (found : NodeRecord) → Here found → Stops 19 (enough found)
  enough_stops few found here =
      few_stops before.t.frames found (of_mapped (λ due. empty_count before.t.frames < due) (λ found. size found.configuration.members) (record_of before.t.nodes node) found here few)

  -- a row and slots, then the start: the last questions of a read and of a regroup
  abbrev row_and_slots : NodeRecord → Start → Result Start Fault
  row_and_slots found start = result_and row (result_and (enough found) (Ok start))

  row_and_slots_hold : (P : Fault → Type 0) → (length before.t.operations ≤ before.desk.operations_used → P OperationsUsed) → (TooFew → P TooFewSlots) → (found : NodeRecord) → Here found → (start : Start)
      → IfErr (row_and_slots found start) P
  row_and_slots_hold P used few found here start =
      and_holds P row (result_and (enough found) (Ok start)) (row_left_holds P before.desk before.t.operations used) (and_holds P (enough found) (Ok start) (enough_holds P few found here) tt)

  row_stops : {A : Type 0} → length before.t.operations ≤ before.desk.operations_used → (next : Result A Fault) → Stops 17 (result_and row next)
  row_stops used next = and_first_stops (UpTo 17) row next (used_stops before.desk before.t.operations used)

  slots_stop : TooFew → (found : NodeRecord) → Here found → (start : Start) → Stops 19 (row_and_slots found start)
  slots_stop few found here start =
      and_next_stops (UpTo 19) row (result_and (enough found) (Ok start)) (row_left_up_to before.desk before.t.operations 19 (omega arith))
      (and_first_stops (UpTo 19) (enough found) (Ok start) (enough_stops few found here))

  -- A read

  abbrev reads : Call C
  reads = call.Read node

  abbrev ReadGround : Fault → Type 0
  ReadGround = Holds parts before reads after.chooser

  abbrev read_next : NodeRecord → Result Start Fault
  read_next found = row_and_slots found (read_start before.desk node found)

  abbrev read_rest : Result Start Fault
  read_rest = and_then (leading before.desk before.t.nodes node) read_next

  -- Each question stops on its own ground.
  read_grounded : IfErr (may_read before.desk before.t node) ReadGround
  read_grounded =
      all_grounded parts before reads after.chooser refl read_rest
      (leader_grounded before.desk before.t.nodes node read_next ReadGround (λ none. none) (λ has. has) (λ idle. idle) (λ frozen. frozen) (λ other. other) (λ found here.
      row_and_slots_hold ReadGround (λ used. used) (λ few. few) found here (read_start before.desk node found)))

  -- It stops where a ground holds: what is asked before has a lower number.
  read_each : StopsAtEach parts before reads answer after (may_read before.desk before.t node)
  read_each Closed low holds = stops_closed parts before reads after.chooser refl read_rest holds
  read_each TableLength low holds = stops_lengths parts before reads after.chooser refl read_rest holds
  read_each NoNode low holds = rest_stops parts before reads after.chooser refl read_rest 7 (omega arith) (leader_none before.desk before.t.nodes node read_next holds)
  read_each Stopped low holds = rest_stops parts before reads after.chooser refl read_rest 8 (omega arith) (leader_stopped before.desk before.t.nodes node read_next holds)
  read_each Idle low holds = rest_stops parts before reads after.chooser refl read_rest 9 (omega arith) (leader_idle before.desk before.t.nodes node read_next holds)
  read_each Frozen low holds = rest_stops parts before reads after.chooser refl read_rest 10 (omega arith) (leader_frozen before.desk before.t.nodes node read_next holds)
  read_each NotPrimary low holds = rest_stops parts before reads after.chooser refl read_rest 11 (omega arith) (leader_other before.desk before.t.nodes node read_next holds)
  read_each OperationsUsed low holds =
      rest_stops parts before reads after.chooser refl read_rest 17 (omega arith)
      (leader_rest before.desk before.t.nodes node read_next 17 (omega arith) (λ found here. row_stops holds (result_and (enough found) (Ok (read_start before.desk node found)))))
  read_each TooFewSlots low holds =
      rest_stops parts before reads after.chooser refl read_rest 19 (omega arith)
      (leader_rest before.desk before.t.nodes node read_next 19 (omega arith) (λ found here. slots_stop holds found here (read_start before.desk node found)))
  read_each (Chooser refusal) low holds = absurd (cc)
  read_each _ low holds = absurd holds

  -- It answers the operation's number, or the fault.
  read_by : (may : Result Start Fault) → may_read before.desk before.t node ≡ may
      → ◌≡◌ {A = Outcome Q S} (answer, after) (telling number_told (leaving before (reading parts.width before.desk before.t may))) → Judged parts before reads answer after
  read_by (Ok start) is step = went_on parts before reads answer after (may_read before.desk before.t node) read_grounded read_each start is (Number before.desk.operations_used) (answer_of step) refl
  read_by (Err fault) is step = stopped parts before reads answer after (may_read before.desk before.t node) read_grounded read_each fault is step

  pub read_rightly : Step parts before reads answer after → StopsRightly parts before reads answer after
  read_rightly step = rightly parts before reads answer after (read_by (may_read before.desk before.t node) refl step)

  -- A write

  module _ (content : C) where
    abbrev writes : Call C
    writes = call.Write node content

    abbrev WriteGround : Fault → Type 0
    WriteGround = Holds parts before writes after.chooser

    abbrev may : Result Start Fault
    may = may_write before.desk before.t node (parts.meaning content)

    -- the version and the slots
    abbrev write_last : NodeRecord → Result Start Fault
    write_last found = result_and (version_left found) (result_and (enough found) (Ok (write_start before.desk node found (parts.meaning content))))

    abbrev write_next : NodeRecord → Result Start Fault
    write_next found = result_and row (write_last found)

    abbrev write_rest : Result Start Fault
    write_rest = and_then (leading before.desk before.t.nodes node) write_next

    -- the node's newest version is the last
    abbrev IsLast : Type 0
    IsLast = IsSomeAnd (record_of before.t.nodes node) (λ found. highest_version ≤ found.newest)

    -- The record that is asked is the node's.
    version_holds : (found : NodeRecord) → Here found → IfErr (version_left found) WriteGround
    version_holds found here = version_left_holds WriteGround found (λ last. at_found (λ found. highest_version ≤ found.newest) (record_of before.t.nodes node) found here last)

    version_stops : IsLast → (found : NodeRecord) → Here found → Stops 18 (write_last found)
    version_stops last found here =
        and_first_stops (UpTo 18) (version_left found) _ (last_stops found (of_found (λ found. highest_version ≤ found.newest) (record_of before.t.nodes node) found here last))

    -- Before the slots the version is asked, whose ground is lower.
    write_slots_stop : TooFew → (found : NodeRecord) → Here found → Stops 19 (write_last found)
    write_slots_stop few found here =
        and_next_stops (UpTo 19) (version_left found) _ (version_left_holds (UpTo 19) found (λ _. omega arith)) (and_first_stops (UpTo 19) (enough found) _ (enough_stops few found here))

    -- after the row
    row_first : (n : ℕ) → 17 ≤ n → (found : NodeRecord) → Stops n (write_last found) → Stops n (write_next found)
    row_first n low found stops = and_next_stops (UpTo n) row (write_last found) (row_left_up_to before.desk before.t.operations n low) stops

    -- Each question stops on its own ground.
    write_grounded : IfErr may WriteGround
    write_grounded =
        all_grounded parts before writes after.chooser refl write_rest
        (leader_grounded before.desk before.t.nodes node write_next WriteGround (λ none. none) (λ has. has) (λ idle. idle) (λ frozen. frozen) (λ other. other) (λ found here.
        and_holds WriteGround row (write_last found) (row_left_holds WriteGround before.desk before.t.operations (λ used. used))
        (and_holds WriteGround (version_left found) _ (version_holds found here) (and_holds WriteGround (enough found) _ (enough_holds WriteGround (λ few. few) found here) tt))))

    -- It stops where a ground holds.
    write_each : StopsAtEach parts before writes answer after may
    write_each Closed low holds = stops_closed parts before writes after.chooser refl write_rest holds
    write_each TableLength low holds = stops_lengths parts before writes after.chooser refl write_rest holds
    write_each NoNode low holds = rest_stops parts before writes after.chooser refl write_rest 7 (omega arith) (leader_none before.desk before.t.nodes node write_next holds)
    write_each Stopped low holds = rest_stops parts before writes after.chooser refl write_rest 8 (omega arith) (leader_stopped before.desk before.t.nodes node write_next holds)
    write_each Idle low holds = rest_stops parts before writes after.chooser refl write_rest 9 (omega arith) (leader_idle before.desk before.t.nodes node write_next holds)
    write_each Frozen low holds = rest_stops parts before writes after.chooser refl write_rest 10 (omega arith) (leader_frozen before.desk before.t.nodes node write_next holds)
    write_each NotPrimary low holds = rest_stops parts before writes after.chooser refl write_rest 11 (omega arith) (leader_other before.desk before.t.nodes node write_next holds)
    write_each OperationsUsed low holds =
        rest_stops parts before writes after.chooser refl write_rest 17 (omega arith)
        (leader_rest before.desk before.t.nodes node write_next 17 (omega arith) (λ found here. row_stops holds (write_last found)))
    write_each LastVersion low holds =
        rest_stops parts before writes after.chooser refl write_rest 18 (omega arith)
        (leader_rest before.desk before.t.nodes node write_next 18 (omega arith) (λ found here. row_first 18 (omega arith) found (version_stops holds found here)))
    write_each TooFewSlots low holds =
        rest_stops parts before writes after.chooser refl write_rest 19 (omega arith)
        (leader_rest before.desk before.t.nodes node write_next 19 (omega arith) (λ found here. row_first 19 (omega arith) found (write_slots_stop holds found here)))
    write_each (Chooser refusal) low holds = absurd (cc)
    write_each _ low holds = absurd holds

    -- It answers the operation's number, or the fault.
    write_by : (result : Result Start Fault) → may ≡ result → ◌≡◌ {A = Outcome Q S} (answer, after) (telling number_told (leaving before (starting parts.width before.desk before.t node result)))
        → Judged parts before writes answer after
    write_by (Ok start) is step = went_on parts before writes answer after may write_grounded write_each start is (Number before.desk.operations_used) (answer_of step) refl
    write_by (Err fault) is step = stopped parts before writes answer after may write_grounded write_each fault is step

    pub write_rightly : Step parts before writes answer after → StopsRightly parts before writes answer after
    write_rightly step = rightly parts before writes answer after (write_by may refl step)

  -- A regroup

  module _ (members : Members) where
    abbrev regroups : Call C
    regroups = call.Regroup node members

    abbrev RegroupGround : Fault → Type 0
    RegroupGround = Holds parts before regroups after.chooser

    abbrev lawful : Bool
    lawful = is_lawful members before.desk.node_count

    abbrev regroup_last : NodeRecord → Result Start Fault
    regroup_last found = row_and_slots found (regroup_start before.desk node found members)

    abbrev regroup_next : NodeRecord → Result Start Fault
    regroup_next found = if lawful then regroup_last found else Err Unlawful

    abbrev regroup_rest : Result Start Fault
    regroup_rest = and_then (taking_part before.desk before.t.nodes node) regroup_next

    -- after the members
    members_first : (n : ℕ) → 13 ≤ n → (found : NodeRecord) → Stops n (regroup_last found) → Stops n (regroup_next found)
    members_first n low found stops = unless_next_stops (UpTo n) lawful (regroup_last found) Unlawful low (λ _. stops)

    -- Each question stops on its own ground.
    regroup_grounded : IfErr (may_regroup before.desk before.t node members) RegroupGround
    regroup_grounded =
        all_grounded parts before regroups after.chooser refl regroup_rest
        (member_grounded before.desk before.t.nodes node regroup_next RegroupGround (λ none. none) (λ has. has) (λ idle. idle) (λ found here.
        unless_holds RegroupGround lawful (regroup_last found) Unlawful (λ fails. fails) (λ _.
        row_and_slots_hold RegroupGround (λ used. used) (λ few. few) found here (regroup_start before.desk node found members))))

    -- It stops where a ground holds.
    regroup_each : StopsAtEach parts before regroups answer after (may_regroup before.desk before.t node members)
    regroup_each Closed low holds = stops_closed parts before regroups after.chooser refl regroup_rest holds
    regroup_each TableLength low holds = stops_lengths parts before regroups after.chooser refl regroup_rest holds
    regroup_each NoNode low holds = rest_stops parts before regroups after.chooser refl regroup_rest 7 (omega arith) (member_none before.desk before.t.nodes node regroup_next holds)
    regroup_each Stopped low holds = rest_stops parts before regroups after.chooser refl regroup_rest 8 (omega arith) (member_stopped before.desk before.t.nodes node regroup_next holds)
    regroup_each Idle low holds = rest_stops parts before regroups after.chooser refl regroup_rest 9 (omega arith) (member_idle before.desk before.t.nodes node regroup_next holds)
    regroup_each Unlawful low holds =
        rest_stops parts before regroups after.chooser refl regroup_rest 13 (omega arith)
        (member_rest before.desk before.t.nodes node regroup_next 13 (omega arith) (λ found here. unless_stops (UpTo 13) lawful (regroup_last found) Unlawful holds (omega arith)))
    regroup_each OperationsUsed low holds =
        rest_stops parts before regroups after.chooser refl regroup_rest 17 (omega arith)
        (member_rest before.desk before.t.nodes node regroup_next 17 (omega arith) (λ found here.
        members_first 17 (omega arith) found (row_stops holds (result_and (enough found) (Ok (regroup_start before.desk node found members))))))
    regroup_each TooFewSlots low holds =
        rest_stops parts before regroups after.chooser refl regroup_rest 19 (omega arith)
        (member_rest before.desk before.t.nodes node regroup_next 19 (omega arith) (λ found here.
        members_first 19 (omega arith) found (slots_stop holds found here (regroup_start before.desk node found members))))
    regroup_each (Chooser refusal) low holds = absurd (cc)
    regroup_each _ low holds = absurd holds

    -- It answers the operation's number, or the fault.
    regroup_by : (may : Result Start Fault) → may_regroup before.desk before.t node members ≡ may
        → ◌≡◌ {A = Outcome Q S} (answer, after) (telling number_told (leaving before (starting parts.width before.desk before.t node may))) → Judged parts before regroups answer after
    regroup_by (Ok start) is step = went_on parts before regroups answer after (may_regroup before.desk before.t node members) regroup_grounded regroup_each start is (Number before.desk.operations_used) (answer_of step) refl
    regroup_by (Err fault) is step = stopped parts before regroups answer after (may_regroup before.desk before.t node members) regroup_grounded regroup_each fault is step

    pub regroup_rightly : Step parts before regroups answer after → StopsRightly parts before regroups answer after
    regroup_rightly step = rightly parts before regroups answer after (regroup_by (may_regroup before.desk before.t node members) refl step)
