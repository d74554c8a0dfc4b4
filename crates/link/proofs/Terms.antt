-- What the host's records, rows and frames are in the words of the protocol.
use Rattle.std.proofs.Common.{◌≡◌, ℕ, suc, take}
use Rattle.quorum.specs.Sets.{member}
use Rattle.frame.specs.declared.message.Tag.{Tag}
use Rattle.frame.specs.Messages.{Said, get, get_ack, put, put_ack, freeze, held, update}
use Rattle.tables.specs.declared.copy.SheetCopy.{SheetCopy}
use Rattle.tables.specs.declared.records.NodeRecord.{NodeRecord}
use Rattle.tables.specs.declared.records.OperationKind.{OperationKind}
use Rattle.tables.specs.declared.records.OperationKind.TheVariants as kind
use Rattle.tables.specs.declared.records.OperationRow.{OperationRow}
use Rattle.tables.specs.declared.records.OperationState.{OperationState}
use Rattle.tables.specs.declared.records.OperationState.TheVariants as state
use Rattle.tables.specs.declared.records.ProposalRow.{ProposalRow}
use Rattle.tables.specs.declared.records.Status as record_status
use Rattle.tables.specs.declared.records.Status.TheVariants as status
use Rattle.tables.specs.Copies.{copy_of}
use Rattle.tables.specs.Members.{listed, list_of}
use Rattle.protocol.specs.State.{Copy, Configuration, Status, Idle, Active, Frozen, Node, Kind, Read, Write, Regroup, Stage, Open, Answered, GivenUp, Proposed, Operation, Frame, Get, GetAck, PutAck, Freeze, Put, Held, Update, tag_of}

abbrev pub tag_said : Tag → ℕ
tag_said tag = tag_of tag.version tag.node

-- a copy as it lies in a record: its tag, and the sixteen bytes of its content
abbrev pub copy_said : SheetCopy → Copy
copy_said copy = record { tag = tag_said copy.tag; content = copy.content }

abbrev pub status_said : record_status.Status → Status
status_said status.Idle = Idle
status_said status.Active = Active
status_said status.Frozen = Frozen

abbrev pub kind_said : OperationKind → Kind
kind_said kind.Read = Read
kind_said kind.Write = Write
kind_said kind.Regroup = Regroup

abbrev pub stage_said : OperationState → Stage
stage_said state.Open = Open
stage_said state.Answered = Answered
stage_said state.GivenUp = GivenUp
stage_said state.Proposed = Proposed

abbrev pub node_said : NodeRecord → Node
node_said node = record {
  status = status_said node.status;
  stopped = node.stopped;
  number = node.configuration.number;
  members = listed node.configuration.members;
  opening = tag_said node.configuration.opening;
  stored = copy_said node.stored;
  served = copy_said node.served;
  newest = node.newest;
}

-- A row stands for an operation: it has all of it but the moments, which the law over calls does not need. A set of places is a function there, and bits here.
pub record StandsFor (row : OperationRow) (operation : Operation) : Type 0 where
  pub same_kind : operation.kind ≡ kind_said row.kind
  pub same_node : operation.node ≡ row.node
  pub same_number : operation.number ≡ row.number
  pub same_copy : operation.copy ≡ copy_said row.copy
  pub same_members : operation.members ≡ listed row.members
  pub same_places : (place : ℕ) → operation.set place ≡ member place row.set
  pub same_stage : operation.stage ≡ stage_said row.state

-- a proposal has the number that it would get
abbrev pub configuration_said : ProposalRow → Configuration
configuration_said row = record { number = suc row.number; members = listed row.members; copy = copy_said row.copy }

-- what a frame says, with contents as they lie in records
abbrev pub frame_said : Said → Frame
frame_said (get head operation) = Get head.receiver head.sender head.number operation
frame_said (get_ack head operation) = GetAck head.receiver head.sender head.number operation
frame_said (put head operation tag content) = Put head.receiver head.sender head.number operation (copy_said (copy_of tag content))
frame_said (put_ack head operation) = PutAck head.receiver head.sender head.number operation
frame_said (freeze head operation) = Freeze head.receiver head.sender head.number operation
frame_said (held head operation tag content) = Held head.receiver head.sender head.number operation (copy_said (copy_of tag content))
frame_said (update head count members tag content) =
    Update head.receiver head.sender (record { number = head.number; members = listed (list_of (take count members)); copy = copy_said (copy_of tag content) })
