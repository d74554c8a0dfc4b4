-- What each call leaves on an open floor has a system that stands for it, to which the protocol goes.
use Rattle.std.proofs.Common.{◌≡◌, ℕ, true, false, List, Bool, Option, Some, None, Result, Ok, Err, refl, sym, ap, subst, if◌then◌else◌}
use Rattle.calls.specs.declared.call.Answer.{Answer}
use Rattle.chooser.specs.Meaning.{Decisions}
use Rattle.delivery.proofs.KeptLawful.{deliver_keeps_lawful}
use Rattle.delivery.specs.Delivery.{number, may_deliver, delivering, deliver_step}
use Rattle.desk.proofs.KeptLawful.{give_up_keeps_lawful, stop_keeps_lawful, lose_keeps_lawful}
use Rattle.desk.proofs.LawfulLists.{taken_is_lawful}
use Rattle.desk.specs.declared.desk.Desk.{Desk}
use Rattle.desk.specs.Opening.{opened, open_step}
use Rattle.desk.specs.Tables.{Tables}
use Rattle.fault.specs.declared.Fault.{Fault}
use Rattle.fault.specs.declared.Fault.TheVariants.{AlreadyOpen}
use Rattle.floor.specs.State.{State}
use Rattle.floor.specs.Steps.{opens, reads, writes, regroups, Proposes, settles, Works, delivers, loses, gives_up, stops}
use Rattle.handover.proofs.KeptLawful.{propose_keeps_lawful, settle_keeps_lawful}
use Rattle.law.proofs.LeftStanding.{setting_in, LeftStanding, Goes, Lawful, left_standing, counts_kept, by_step}
use Rattle.law.proofs.Linked.{PartsLaws, Stands}
use Rattle.law.specs.Runs.{Parts, told, zero_told, number_told, telling}
use Rattle.link.proofs.Delivered.{deliver_goes}
use Rattle.link.proofs.Ending.{give_up_goes, stop_goes, lose_goes}
use Rattle.link.proofs.Proposing.{propose_goes, propose_keeps_counts}
use Rattle.link.proofs.RowsInside.{RowsInside, read_inside, write_inside, regroup_inside}
use Rattle.link.proofs.Settling.{settle_goes}
use Rattle.link.proofs.Starting.{read_goes, write_goes, regroup_goes}
use Rattle.link.proofs.Working.{work_goes}
use Rattle.node.specs.declared.plan.Plan.{Plan}
use Rattle.protocol.specs.Moves.{Now}
use Rattle.protocol.specs.State.{Content, System, Setting}
use Rattle.starts.proofs.KeptLawful.{read_keeps_lawful, write_keeps_lawful, regroup_keeps_lawful}
use Rattle.tables.specs.declared.members.Members.{Members}

-- A delivery adds no node and no operation.
deliver_keeps_counts : (width : ℕ) (desk : Desk) (t : Tables) (judged : Result (Option Plan) Fault)
    → let left = delivering width desk t judged in (left.1.node_count ≡ desk.node_count) × (left.1.operations_used ≡ desk.operations_used)
deliver_keeps_counts width desk t (Ok (Some plan)) = (refl, refl)
deliver_keeps_counts width desk t (Ok None) = (refl, refl)
deliver_keeps_counts width desk t (Err fault) = (refl, refl)

-- An open floor is not opened.
not_opened : (desk : Desk) (t : Tables) (count : ℕ) (members : Members) (content : List ℕ) → desk.is_open ≡ true → open_step desk t count members content ≡ (Err AlreadyOpen, desk, t)
not_opened desk t count members content is_open = ap (opened desk t count members content) (go desk.is_open _ is_open)
  where
    go : (test : Bool) (others : Result (Unit {0}) Fault) → test ≡ true → ◌≡◌ {A = Result (Unit {0}) Fault} (if test then Err AlreadyOpen else others) (Err AlreadyOpen)
    go true others is = refl
    go false others is = absurd (cc)

module _ {C Q S : Type 0} (parts : Parts C Q S) (laws : PartsLaws parts) (members : List ℕ) (content : Content) (before : State Q S) (system : System) (stands : Stands parts before system) where
  -- the setting, and what was decided before
  abbrev setting : Setting
  setting = setting_in parts laws before.rule members content

  abbrev decided : Decisions
  decided = parts.decided before.chooser

  -- what is to be shown of the state that a call left
  abbrev Left : State Q S → Type 0
  Left after = LeftStanding parts laws members content before system stands after

  -- the protocol goes to this state, whatever else holds of it
  abbrev Went : State Q S → Type 0
  Went after = Goes parts laws members content before system stands after

  -- A call answers and leaves what its step says: either it starts an operation,
  starts : {left : Result Answer Fault × State Q S} (answer : Result Answer Fault) (after : State Q S) → (answer, after) ≡ left
      → Went left.1 → Lawful parts laws members content before system stands left.1 → RowsInside left.1.desk left.1.t → Left after
  starts {left} answer after is goes lawful inside =
      by_step parts laws members content before system stands answer after is (left_standing parts laws members content before system stands left.1 goes lawful inside)

  -- or it leaves the counts of nodes and operations as they were.
  keeps : {left : Result Answer Fault × State Q S} (answer : Result Answer Fault) (after : State Q S) → (answer, after) ≡ left
      → Went left.1 → Lawful parts laws members content before system stands left.1 → left.1.desk.node_count ≡ before.desk.node_count → left.1.desk.operations_used ≡ before.desk.operations_used → Left after
  keeps {left} answer after is goes lawful same_nodes same_used =
      by_step parts laws members content before system stands answer after is (counts_kept parts laws members content before system stands left.1 goes lawful same_nodes same_used)

  -- where nothing changes
  pub as_before : Left before
  as_before = (system, Now, stands)

  pub open_stands : (answer : Result Answer Fault) (after : State Q S) (count : ℕ) (chosen : Members) (value : C) → before.desk.is_open ≡ true
      → (answer, after) ≡ telling zero_told (opens before count chosen (parts.meaning value)) → Left after
  open_stands answer after count chosen value is_open is =
      by_step parts laws members content before system stands answer after is
      (subst (λ (left : Result (Unit {0}) Fault × Desk × Tables). Left (record before { desk = left.1; t = left.2 }))
      (sym (not_opened before.desk before.t count chosen (parts.meaning value) is_open)) as_before)

  pub read_stands : (answer : Result Answer Fault) (after : State Q S) (node : ℕ) → (answer, after) ≡ telling number_told (reads parts.width before node) → Left after
  read_stands answer after node is =
      starts answer after is
      (read_goes parts.width parts.meaning parts.from_bytes laws.content_laws setting system decided before.desk before.t stands.represents stands.lawful node)
      (read_keeps_lawful parts.meaning before.desk before.t stands.lawful node parts.width)
      (read_inside parts.width before.desk before.t stands.inside node)

  pub write_stands : (answer : Result Answer Fault) (after : State Q S) (node : ℕ) (value : C) → (answer, after) ≡ telling number_told (writes parts.width before node (parts.meaning value)) → Left after
  write_stands answer after node value is =
      starts answer after is
      (write_goes parts.width parts.meaning parts.from_bytes laws.content_laws setting system decided before.desk before.t stands.represents stands.lawful node value)
      (write_keeps_lawful parts.meaning before.desk before.t stands.lawful node parts.width value)
      (write_inside parts.width before.desk before.t stands.inside node (parts.meaning value))

  pub regroup_stands : (answer : Result Answer Fault) (after : State Q S) (node : ℕ) (chosen : Members) → (answer, after) ≡ telling number_told (regroups parts.width before node chosen) → Left after
  regroup_stands answer after node chosen is =
      starts answer after is
      (regroup_goes parts.width parts.meaning parts.from_bytes laws.content_laws setting system decided before.desk before.t stands.represents stands.lawful node chosen)
      (regroup_keeps_lawful parts.meaning before.desk before.t stands.lawful node parts.width chosen (taken_is_lawful chosen before.desk.node_count))
      (regroup_inside parts.width before.desk before.t stands.inside node chosen)

  pub propose_stands : (answer : Result ℕ Fault) (after : State Q S) (operation : ℕ) → Proposes (parts.winning before.rule) parts.offering before operation answer after → Left after
  propose_stands answer after operation (step, same_rule) =
      let outcome : Result ℕ Fault × Desk × Tables = (answer, after.desk, after.t) in
      let counts = propose_keeps_counts (parts.winning before.rule) parts.offering before.desk before.t before.chooser after.chooser operation outcome step in
      counts_kept parts laws members content before system stands after
      (propose_goes parts.width parts.meaning parts.from_bytes (parts.winning before.rule) (laws.rule_laws before.rule) members content parts.decided parts.offering
      (λ s t number value told offers. (laws.offering_is_lawful s t number value told offers).deciding)
      system before.desk before.t before.chooser after.chooser stands.represents stands.lawful stands.inside operation outcome step)
      (propose_keeps_lawful parts.meaning before.desk before.t stands.lawful parts.decided laws.offers parts.offering laws.offering_is_lawful before.chooser after.chooser operation outcome
      (parts.winning before.rule) step)
      counts.0 counts.1

  pub settle_stands : (answer : Result Answer Fault) (after : State Q S) (node : ℕ) → (answer, after) ≡ telling number_told (settles parts.width decided before node) → Left after
  settle_stands answer after node is =
      keeps answer after is
      (settle_goes parts.width parts.meaning parts.from_bytes laws.content_laws setting system decided before.desk before.t stands.represents stands.lawful node)
      (settle_keeps_lawful parts.meaning before.desk before.t stands.lawful parts.width decided node)
      refl refl

  pub work_stands : (answer : Result (Unit {0}) Fault) (after : State Q S) (number step ballot set : ℕ) → Works parts.working before number step ballot set answer after → Left after
  work_stands answer after number step ballot set (works, same) =
      subst Left (sym same)
      (counts_kept parts laws members content before system stands (record before { chooser = after.chooser })
      (work_goes parts.width parts.meaning parts.from_bytes setting parts.decided parts.working
      (λ s t number step ballot set told does. (laws.working_is_lawful s t number step ballot set told does).deciding)
      system before.desk before.t before.chooser after.chooser stands.represents number step ballot set answer works)
      stands.lawful refl refl)

  pub deliver_stands : (answer : Result Answer Fault) (after : State Q S) (slot : ℕ)
      → (answer, after) ≡ telling (told number) (delivers parts.width parts.from_bytes (parts.winning before.rule) before slot) → Left after
  deliver_stands answer after slot is =
      let left = deliver_step parts.width parts.from_bytes (parts.winning before.rule) before.desk before.t slot in
      let counts = deliver_keeps_counts parts.width before.desk before.t (may_deliver parts.width parts.from_bytes (parts.winning before.rule) before.desk before.t slot) in
      keeps answer after is
      (deliver_goes parts.width parts.meaning parts.from_bytes laws.content_laws (parts.winning before.rule) (laws.rule_laws before.rule) members content decided
      before.desk before.t system stands.represents stands.lawful slot left.0 left.1 left.2 refl)
      (deliver_keeps_lawful parts.width parts.meaning parts.from_bytes laws.content_laws.fills laws.content_laws.bounded before.desk before.t stands.lawful (parts.winning before.rule) slot
      (stands.represents.frames_lawful slot))
      counts.0 counts.1

  pub lose_stands : (answer : Result Answer Fault) (after : State Q S) (slot : ℕ) → (answer, after) ≡ telling zero_told (loses before slot) → Left after
  lose_stands answer after slot is =
      keeps answer after is
      (lose_goes parts.width parts.meaning parts.from_bytes setting system decided before.desk before.t stands.represents slot)
      (lose_keeps_lawful parts.meaning before.desk before.t stands.lawful slot)
      refl refl

  pub give_up_stands : (answer : Result Answer Fault) (after : State Q S) (operation : ℕ) → (answer, after) ≡ telling zero_told (gives_up before operation) → Left after
  give_up_stands answer after operation is =
      keeps answer after is
      (give_up_goes parts.width parts.meaning parts.from_bytes setting system decided before.desk before.t stands.represents operation)
      (give_up_keeps_lawful parts.meaning before.desk before.t stands.lawful operation)
      refl refl

  pub stop_stands : (answer : Result Answer Fault) (after : State Q S) (node : ℕ) → (answer, after) ≡ telling zero_told (stops before node) → Left after
  stop_stands answer after node is =
      keeps answer after is
      (stop_goes parts.width parts.meaning parts.from_bytes setting system decided before.desk before.t stands.represents node)
      (stop_keeps_lawful parts.meaning before.desk before.t stands.lawful node)
      refl refl
