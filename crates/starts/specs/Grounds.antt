-- On which grounds starts stop, and how the operation starts where they do not.
use Rattle.std.specs.Prelude.{ℕ, suc, Bool, true, false, List, length, Result, Ok, Err, ◌==◌, nat_lt, if◌then◌else◌}
use Rattle.std.specs.Result.{result_and}
use Rattle.content.specs.Bytes.{padded}
use Rattle.fault.specs.declared.Fault.{Fault}
use Rattle.fault.specs.declared.Fault.TheVariants.{Idle, Frozen, NotPrimary, Unlawful, OperationsUsed, LastVersion, TooFewSlots}
use Rattle.frame.specs.Limits.{highest_version}
use Rattle.slots.specs.declared.letter.Body.{Body}
use Rattle.slots.specs.declared.letter.Body.TheVariants.{Get, Put, Freeze}
use Rattle.slots.specs.Slots.{empty_count}
use Rattle.tables.specs.declared.copy.SheetCopy.{SheetCopy}
use Rattle.tables.specs.declared.members.Members.{Members}
use Rattle.tables.specs.declared.records.NodeRecord.{NodeRecord}
use Rattle.tables.specs.declared.records.OperationKind.{OperationKind}
use Rattle.tables.specs.declared.records.OperationKind.TheVariants.{Read, Write, Regroup}
use Rattle.tables.specs.declared.records.OperationRow.{OperationRow}
use Rattle.tables.specs.declared.records.OperationState.TheVariants.{Open}
use Rattle.tables.specs.declared.records.Status.{Status}
use Rattle.tables.specs.declared.records.Status.TheVariants as status
use Rattle.tables.specs.Members.{size, primary}
use Rattle.tables.specs.Moments.{next_moment}
use Rattle.node.specs.Conditions.{is_idle}
use Rattle.desk.specs.declared.desk.Desk.{Desk}
use Rattle.desk.specs.Tables.{Tables}
use Rattle.desk.specs.Lists.{is_lawful}
use Rattle.desk.specs.Asking.{and_then, served, running}
use Rattle.starts.specs.declared.start.Start.{Start}

-- Of nodes

-- a node in a group, be it active or frozen
abbrev pub not_idle : NodeRecord → Result NodeRecord Fault
not_idle found = if is_idle found.status then Err Idle else Ok found

-- a running node in a group
abbrev pub taking_part : Desk → List NodeRecord → ℕ → Result NodeRecord Fault
taking_part desk nodes node = and_then (running desk nodes node) not_idle

abbrev pub is_frozen : Status → Bool
is_frozen status.Idle = false
is_frozen status.Active = false
is_frozen status.Frozen = true

-- the primary of a group that is not frozen
abbrev pub leads : ℕ → NodeRecord → Result NodeRecord Fault
leads node found =
    if is_frozen found.status then Err Frozen
    else if node == primary found.configuration.members then Ok found
    else Err NotPrimary

-- a running node that may start reads and writes
abbrev pub leading : Desk → List NodeRecord → ℕ → Result NodeRecord Fault
leading desk nodes node = and_then (taking_part desk nodes node) (leads node)

-- Of tables

-- an operation row is left
abbrev pub row_left : Desk → List OperationRow → Result (Unit {0}) Fault
row_left desk operations = if nat_lt desk.operations_used (length operations) then Ok tt else Err OperationsUsed

-- each member of the node's group gets its frame
abbrev pub slots_left : List ℕ → NodeRecord → Result (Unit {0}) Fault
slots_left frames found = if nat_lt (empty_count frames) (size found.configuration.members) then Err TooFewSlots else Ok tt

-- the node can give out a version more
abbrev pub version_left : NodeRecord → Result (Unit {0}) Fault
version_left found = if nat_lt found.newest highest_version then Ok tt else Err LastVersion

-- The operations as they start

-- A row as it begins: open, nobody has acknowledged it, and it keeps the next moment.
abbrev pub begun : Desk → ℕ → NodeRecord → OperationKind → SheetCopy → Members → OperationRow
begun desk node found kind copy members = record {
  kind = kind;
  node = node;
  number = found.configuration.number;
  copy = copy;
  members = members;
  set = 0;
  state = Open;
  start = next_moment desk.moment;
  answer = 0;
}

-- the row, and a letter with this body to each present member of the node's group
abbrev pub start_of : ℕ → NodeRecord → OperationRow → Body → Start
start_of node found row body =
    record { node = found; row = row; letter = record { sender = node; number = found.configuration.number; body = body } }

-- a read begins with the copy that the node serves
abbrev pub read_start : Desk → ℕ → NodeRecord → Start
read_start desk node found = start_of node found (begun desk node found Read found.served found.configuration.members) (Get desk.operations_used)

-- what a write writes: the content, under the version after the newest
abbrev pub written : ℕ → NodeRecord → List ℕ → SheetCopy
written node found content = record { tag = record { version = suc found.newest; node = node }; content = padded content }

-- a write gives out a version
abbrev pub write_start : Desk → ℕ → NodeRecord → List ℕ → Start
write_start desk node found content =
    start_of node (record found { newest = suc found.newest }) (begun desk node found Write (written node found content) found.configuration.members)
    (Put desk.operations_used (written node found content))

-- a regroup freezes its node, and begins with the copy that the node serves and with the new members
abbrev pub regroup_start : Desk → ℕ → NodeRecord → Members → Start
regroup_start desk node found members =
    start_of node (record found { status = status.Frozen }) (begun desk node found Regroup found.served members) (Freeze desk.operations_used)

-- What each start answers: the first ground on which it stops, or how the operation starts

abbrev pub may_read : Desk → Tables → ℕ → Result Start Fault
may_read desk t node =
    result_and (served desk t)
    (and_then (leading desk t.nodes node) (λ found.
    result_and (row_left desk t.operations)
    (result_and (slots_left t.frames found)
    (Ok (read_start desk node found)))))

abbrev pub may_write : Desk → Tables → ℕ → List ℕ → Result Start Fault
may_write desk t node content =
    result_and (served desk t)
    (and_then (leading desk t.nodes node) (λ found.
    result_and (row_left desk t.operations)
    (result_and (version_left found)
    (result_and (slots_left t.frames found)
    (Ok (write_start desk node found content))))))

abbrev pub may_regroup : Desk → Tables → ℕ → Members → Result Start Fault
may_regroup desk t node members =
    result_and (served desk t)
    (and_then (taking_part desk t.nodes node) (λ found.
    if is_lawful members desk.node_count
    then result_and (row_left desk t.operations)
    (result_and (slots_left t.frames found)
    (Ok (regroup_start desk node found members)))
    else Err Unlawful))
