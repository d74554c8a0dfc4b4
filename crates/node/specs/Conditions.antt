-- The conditions that a frame meets or does not.
use Rattle.std.specs.Prelude.{Bool, true, false, ◌&&◌, ◌||◌, ◌==◌, nat_lt, is_some}
use Rattle.frame.specs.declared.message.Head.{Head}
use Rattle.tables.specs.declared.members.Members.{Members}
use Rattle.tables.specs.declared.records.NodeRecord.{NodeRecord}
use Rattle.tables.specs.declared.records.OperationKind.{OperationKind}
use Rattle.tables.specs.declared.records.OperationKind.TheVariants.{Read, Write, Regroup}
use Rattle.tables.specs.declared.records.OperationRow.{OperationRow}
use Rattle.tables.specs.declared.records.OperationState.{OperationState}
use Rattle.tables.specs.declared.records.OperationState.TheVariants.{Open, Answered, GivenUp, Proposed}
use Rattle.tables.specs.declared.records.Status.{Status}
use Rattle.tables.specs.declared.records.Status.TheVariants.{Idle, Active, Frozen}
use Rattle.tables.specs.Members.{primary, place_of}

-- the frame speaks of the configuration that the node is in
abbrev pub same_number : NodeRecord → Head → Bool
same_number node head = head.number == node.configuration.number

-- the node does what the sender asks of it: under its own number, and of its primary
abbrev pub obeys : NodeRecord → Head → Bool
obeys node head = same_number node head && head.sender == primary node.configuration.members

abbrev pub is_open : OperationState → Bool
is_open Open = true
is_open Answered = false
is_open GivenUp = false
is_open Proposed = false

abbrev pub same_kind : OperationKind → OperationKind → Bool
same_kind Read Read = true
same_kind Read Write = false
same_kind Read Regroup = false
same_kind Write Read = false
same_kind Write Write = true
same_kind Write Regroup = false
same_kind Regroup Read = false
same_kind Regroup Write = false
same_kind Regroup Regroup = true

-- an open operation of this kind, started at the frame's receiver under the frame's number, which the receiver is still under
abbrev pub waits_for : OperationKind → NodeRecord → Head → OperationRow → Bool
waits_for kind node head row =
    same_kind row.kind kind && is_open row.state && row.node == head.receiver && row.number == head.number && same_number node head

abbrev pub is_idle : Status → Bool
is_idle Idle = true
is_idle Active = false
is_idle Frozen = false

-- the receiver is one of the members, and in no group or under a lower number
abbrev pub may_join : NodeRecord → Head → Members → Bool
may_join node head members = is_some (place_of members head.receiver) && (is_idle node.status || nat_lt node.configuration.number head.number)
