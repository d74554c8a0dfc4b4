-- What a node does with a frame, kind by kind. Nothing (`None`) where the frame meets no condition: then it is ignored.
use Rattle.std.specs.Prelude.{ℕ, ◌^◌, Bool, max, List, Some, None, Option, ◌==◌, slice_get, if◌then◌else◌}
use Rattle.std.specs.Int.Bits.{bit_or}
use Rattle.std.specs.Option.{option_and_then, option_map}
use Rattle.frame.specs.declared.message.Head.{Head}
use Rattle.frame.specs.Messages.{Said}
use Rattle.slots.specs.declared.letter.Body.{Body}
use Rattle.slots.specs.declared.letter.Body.TheVariants.{Get, GetAck, Put, PutAck, Freeze, Held, Update}
use Rattle.tables.specs.declared.copy.SheetCopy.{SheetCopy}
use Rattle.tables.specs.declared.members.Members.{Members}
use Rattle.tables.specs.declared.records.NodeRecord.{NodeRecord}
use Rattle.tables.specs.declared.records.OperationKind.{OperationKind}
use Rattle.tables.specs.declared.records.OperationKind.TheVariants.{Read, Write, Regroup}
use Rattle.tables.specs.declared.records.OperationRow.{OperationRow}
use Rattle.tables.specs.declared.records.OperationState.TheVariants.{Answered}
use Rattle.tables.specs.declared.records.Status.{Status}
use Rattle.tables.specs.declared.records.Status.TheVariants.{Idle, Active, Frozen}
use Rattle.tables.specs.Copies.{newer}
use Rattle.tables.specs.Members.{size, place_of}
use Rattle.tables.specs.Moments.{next_moment}
use Rattle.node.specs.declared.plan.Plan.{Plan}
use Rattle.node.specs.Conditions.{same_number, obeys, waits_for, may_join}
use Rattle.node.specs.Received.{head_said, body_said}
use Rattle.node.specs.Plans.{plan_for, replying, counted_as}

-- What is asked of a node

-- a get is acknowledged
abbrev pub on_get : NodeRecord → Head → ℕ → Option Plan
on_get node head operation = if obeys node head then Some (replying head node (GetAck operation)) else None

-- a put's copy replaces a lower stored one, and is acknowledged either way
abbrev pub on_put : NodeRecord → Head → ℕ → SheetCopy → Option Plan
on_put node head operation copy =
    if obeys node head then Some (replying head (record node { stored = newer node.stored copy }) (PutAck operation)) else None

-- the node freezes, and holds out its stored copy, whoever asks
abbrev pub on_freeze : NodeRecord → Head → ℕ → Option Plan
on_freeze node head operation =
    if same_number node head then Some (replying head (record node { status = Frozen }) (Held operation node.stored)) else None

-- What a node waits for

-- the set with a place joined: its bit is 1
abbrev pub joined : ℕ → ℕ → ℕ
joined set place = bit_or set (2 ^ place)

-- The set of an operation as it will be, with the sender's place joined, where the sender is counted: the node waits for the operation, and the sender is a member.
abbrev pub counted_set : OperationKind → NodeRecord → Head → OperationRow → Option ℕ
counted_set kind node head row = if waits_for kind node head row then option_map (joined row.set) (place_of node.configuration.members head.sender) else None

-- what is planned for the operation's row, if it is used, and for the set that is counted
abbrev pub counting : OperationKind → NodeRecord → List OperationRow → Head → ℕ → (OperationRow → ℕ → Plan) → Option Plan
counting kind node rows head operation plan = option_and_then (λ row. option_map (plan row) (counted_set kind node head row)) (slice_get rows operation)

-- the places are enough to answer
abbrev pub enough : (ℕ → ℕ → Bool) → NodeRecord → ℕ → Bool
enough wins node set = wins (size node.configuration.members) set

abbrev pub with_set : OperationRow → ℕ → OperationRow
with_set row set = record row { set = set }

abbrev pub answered : OperationRow → ℕ → OperationRow
answered row moment = record row { state = Answered; answer = next_moment moment }

-- A read that has enough is answered with the copy that the node serves at this moment, not with the one that it has stored.
abbrev pub read_counted : (ℕ → ℕ → Bool) → NodeRecord → ℕ → Head → ℕ → OperationRow → ℕ → Plan
read_counted wins node moment head operation row set =
    if enough wins node set
    then counted_as head node operation (answered (record (with_set row set) { copy = node.served }) moment)
    else counted_as head node operation (with_set row set)

-- A write that has enough is answered, and served from now on unless what is served is higher. The row keeps its own copy.
abbrev pub write_counted : (ℕ → ℕ → Bool) → NodeRecord → ℕ → Head → ℕ → OperationRow → ℕ → Plan
write_counted wins node moment head operation row set =
    if enough wins node set
    then counted_as head (record node { served = newer node.served row.copy }) operation (answered (with_set row set) moment)
    else counted_as head node operation (with_set row set)

-- the copy of a regroup as it will be: the first that is held out to it, or a higher one than before
abbrev pub held_copy : OperationRow → SheetCopy → SheetCopy
held_copy row copy = if row.set == 0 then copy else newer row.copy copy

abbrev pub held_counted : NodeRecord → Head → ℕ → SheetCopy → OperationRow → ℕ → Plan
held_counted node head operation copy row set = counted_as head node operation (record (with_set row set) { copy = held_copy row copy })

abbrev pub on_get_ack : (ℕ → ℕ → Bool) → NodeRecord → List OperationRow → ℕ → Head → ℕ → Option Plan
on_get_ack wins node rows moment head operation = counting Read node rows head operation (read_counted wins node moment head operation)

abbrev pub on_put_ack : (ℕ → ℕ → Bool) → NodeRecord → List OperationRow → ℕ → Head → ℕ → Option Plan
on_put_ack wins node rows moment head operation = counting Write node rows head operation (write_counted wins node moment head operation)

abbrev pub on_held : NodeRecord → List OperationRow → Head → ℕ → SheetCopy → Option Plan
on_held node rows head operation copy = counting Regroup node rows head operation (held_counted node head operation copy)

-- The next configuration

-- The node takes number, members and opening tag, and is active. It keeps a higher stored copy, serves the opening copy, and gives out no version again.
abbrev pub joining : NodeRecord → Head → Members → SheetCopy → NodeRecord
joining node head members copy = record node {
  status = Active;
  configuration = record { number = head.number; members = members; opening = copy.tag };
  stored = newer node.stored copy;
  served = copy;
  newest = max node.newest copy.tag.version;
}

abbrev pub on_update : NodeRecord → Head → Members → SheetCopy → Option Plan
on_update node head members copy = if may_join node head members then Some (plan_for head (joining node head members copy)) else None

-- By status and kind

abbrev pub by_status : Status → Body → (ℕ → ℕ → Bool) → NodeRecord → List OperationRow → ℕ → Head → Option Plan
by_status Idle (Get operation) wins node rows moment head = None
by_status Idle (GetAck operation) wins node rows moment head = None
by_status Idle (Put operation copy) wins node rows moment head = None
by_status Idle (PutAck operation) wins node rows moment head = None
by_status Idle (Freeze operation) wins node rows moment head = None
by_status Idle (Held operation copy) wins node rows moment head = None
by_status Idle (Update members copy) wins node rows moment head = on_update node head members copy
by_status Active (Get operation) wins node rows moment head = on_get node head operation
by_status Active (GetAck operation) wins node rows moment head = on_get_ack wins node rows moment head operation
by_status Active (Put operation copy) wins node rows moment head = on_put node head operation copy
by_status Active (PutAck operation) wins node rows moment head = on_put_ack wins node rows moment head operation
by_status Active (Freeze operation) wins node rows moment head = on_freeze node head operation
by_status Active (Held operation copy) wins node rows moment head = on_held node rows head operation copy
by_status Active (Update members copy) wins node rows moment head = on_update node head members copy
by_status Frozen (Get operation) wins node rows moment head = None
by_status Frozen (GetAck operation) wins node rows moment head = None
by_status Frozen (Put operation copy) wins node rows moment head = None
by_status Frozen (PutAck operation) wins node rows moment head = None
by_status Frozen (Freeze operation) wins node rows moment head = on_freeze node head operation
by_status Frozen (Held operation copy) wins node rows moment head = on_held node rows head operation copy
by_status Frozen (Update members copy) wins node rows moment head = on_update node head members copy

-- What a node makes of a frame, by which sets win, its record, the rows that are used, the moment, and what the frame says.
abbrev pub planned : (ℕ → ℕ → Bool) → NodeRecord → List OperationRow → ℕ → Said → Option Plan
planned wins node rows moment message = by_status node.status (body_said message) wins node rows moment (head_said message)
