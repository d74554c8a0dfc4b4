-- What is planned for a message that is under way is a move.
use Rattle.std.proofs.Common.{◌≡◌, ◌≢◌, Bool, ℕ, List, take, Some, Option, refl, ◌∙◌}
use Rattle.std.proofs.lemmas.Option.{none-some}
use Rattle.frame.proofs.Laws.{Laws}
use Rattle.frame.specs.declared.message.Head.{Head}
use Rattle.frame.specs.declared.message.Tag.{Tag}
use Rattle.slots.specs.declared.letter.Body.TheVariants.{Update}
use Rattle.tables.specs.declared.copy.SheetCopy.{SheetCopy}
use Rattle.tables.specs.declared.members.Members.{Members}
use Rattle.frame.specs.Lawful.{Lawful, LawfulTag, LawfulContent}
use Rattle.frame.specs.Messages.{Said, get, get_ack, put, put_ack, freeze, held, update}
use Rattle.tables.specs.declared.records.NodeRecord.{NodeRecord}
use Rattle.tables.specs.declared.records.OperationRow.{OperationRow}
use Rattle.tables.specs.declared.records.Status.{Status}
use Rattle.tables.specs.declared.records.Status.TheVariants.{Idle, Active, Frozen}
use Rattle.tables.specs.Copies.{copy_of}
use Rattle.tables.specs.Lawful.{LawfulNode, LawfulSheetCopy}
use Rattle.tables.specs.Members.{list_of}
use Rattle.node.proofs.LawfulParts.{copy_from_frame}
use Rattle.node.specs.declared.plan.Plan.{Plan}
use Rattle.node.specs.Received.{head_said, body_said}
use Rattle.node.specs.Rules.{on_update, by_status}
use Rattle.protocol.specs.State as protocol
use Rattle.protocol.specs.State.{Content, System, UnderWay}
use Rattle.link.proofs.Counted.{get_ack_moves, put_ack_moves}
use Rattle.link.proofs.Counting.{RowsKnown}
use Rattle.link.proofs.HeldOut.{held_moves}
use Rattle.link.proofs.Joined.{update_moves}
use Rattle.link.proofs.Asked.{get_moves, put_moves, freeze_moves}
use Rattle.link.proofs.Receiving.{IsMove, Receives}
use Rattle.link.proofs.Settings.{RuleLaws, setting_of}
use Rattle.link.proofs.Terms.{status_said, frame_said}

module _ {C : Type 0} (width : ℕ) (meaning : C → List ℕ) (reads : List ℕ → Option C) (laws : Laws width meaning reads) (winning : ℕ → ℕ → Bool) (rule_laws : RuleLaws winning)
    (members : List ℕ) (content : Content) (before : System) (node : NodeRecord) (node_lawful : LawfulNode meaning node)
    (rows : List OperationRow) (known : RowsKnown meaning before rows) (moment : ℕ) (plan : Plan) where
  abbrev Moves : Type 0
  Moves = IsMove width (setting_of winning rule_laws members content) before plan

  -- a copy in a lawful frame
  held_copy_lawful : (tag : Tag) (bytes : List ℕ) → LawfulTag tag → LawfulContent meaning bytes → LawfulSheetCopy meaning (copy_of tag bytes)
  held_copy_lawful tag bytes tag_lawful content_lawful = copy_from_frame width meaning laws.fills laws.bounded tag bytes tag_lawful content_lawful

  -- a node that is active or frozen is not idle
  active_not_idle : node.status ≡ Active → status_said node.status ≢ protocol.Idle
  active_not_idle is idle = cc

  frozen_not_idle : node.status ≡ Frozen → status_said node.status ≢ protocol.Idle
  frozen_not_idle is idle = cc

  -- an update is taken whatever the status
  any_status : (status : Status) (next : Members) (copy : SheetCopy) (head : Head) → on_update node head next copy ≡ by_status status (Update next copy) winning node rows moment head
  any_status Idle next copy head = refl
  any_status Active next copy head = refl
  any_status Frozen next copy head = refl

  -- kind by kind, as far as a node of the status plans anything
  pub planned_moves : (message : Said) (status : Status) → node.status ≡ status → Receives before (head_said message) node → Lawful meaning message → UnderWay (frame_said message) before
      → by_status status (body_said message) winning node rows moment (head_said message) ≡ Some plan → Moves
  planned_moves (get head operation) Active is receives lawful there planned =
      get_moves width _ before head node receives operation plan is there planned
  planned_moves (get_ack head operation) Active is receives lawful there planned =
      get_ack_moves width meaning winning rule_laws members content before head node receives node_lawful is rows known operation moment plan there planned
  planned_moves (put head operation tag bytes) Active is receives lawful there planned =
      put_moves width _ before head node receives operation plan (copy_of tag bytes) node_lawful.stored_lawful.tag_lawful lawful.tag_lawful is there planned
  planned_moves (put_ack head operation) Active is receives lawful there planned =
      put_ack_moves width meaning winning rule_laws members content before head node receives node_lawful is rows known operation moment plan there planned
  planned_moves (freeze head operation) Active is receives lawful there planned =
      freeze_moves width _ before head node receives operation plan meaning reads laws node_lawful (active_not_idle is) there planned
  planned_moves (freeze head operation) Frozen is receives lawful there planned =
      freeze_moves width _ before head node receives operation plan meaning reads laws node_lawful (frozen_not_idle is) there planned
  planned_moves (held head operation tag bytes) Active is receives lawful there planned =
      held_moves width meaning _ before head node receives node_lawful (active_not_idle is) operation (copy_of tag bytes) (held_copy_lawful tag bytes lawful.tag_lawful lawful.content_lawful) there rows known plan planned
  planned_moves (held head operation tag bytes) Frozen is receives lawful there planned =
      held_moves width meaning _ before head node receives node_lawful (frozen_not_idle is) operation (copy_of tag bytes) (held_copy_lawful tag bytes lawful.tag_lawful lawful.content_lawful) there rows known plan planned
  planned_moves (update head count nodes tag bytes) status is receives lawful there planned =
      update_moves width _ before head node receives (list_of (take count nodes)) (copy_of tag bytes) plan node_lawful.stored_lawful.tag_lawful lawful.tag_lawful there
      (any_status status (list_of (take count nodes)) (copy_of tag bytes) head ∙ planned)
  planned_moves message status is receives lawful there planned = absurd (none-some plan planned)
