-- The calls read, write and regroup: what each answers and leaves.
use Rattle.std.specs.Prelude.{ℕ, suc, List, Result, Ok, Err, slice_set}
use Rattle.fault.specs.declared.Fault.{Fault}
use Rattle.slots.specs.Slots.{sent_to_each}
use Rattle.tables.specs.declared.members.Members.{Members}
use Rattle.tables.specs.Members.{listed}
use Rattle.node.specs.Applying.{with_record}
use Rattle.desk.specs.declared.desk.Desk.{Desk}
use Rattle.desk.specs.Tables.{Tables}
use Rattle.starts.specs.declared.start.Start.{Start}
use Rattle.starts.specs.Grounds.{may_read, may_write, may_regroup}

-- the desk counts the row, and its moment is that of the start
abbrev pub counted : Desk → Start → Desk
counted desk start = record desk { operations_used = suc desk.operations_used; moment = start.row.start }

-- the row stands behind those that are used, and the letter goes to each present member
abbrev pub begins : ℕ → Desk → Tables → Start → Tables
begins width desk t start = record t {
  operations = slice_set t.operations desk.operations_used start.row;
  frames = sent_to_each width t.frames (listed start.node.configuration.members) start.letter;
}

-- the same, where the node's record changes, too
abbrev pub begins_at : ℕ → Desk → Tables → ℕ → Start → Tables
begins_at width desk t node start = record (begins width desk t start) { nodes = with_record t.nodes node start.node }

-- A start answers the number of its row. A read changes no record.
abbrev pub reading : ℕ → Desk → Tables → Result Start Fault → Result ℕ Fault × Desk × Tables
reading width desk t (Ok start) = (Ok desk.operations_used, counted desk start, begins width desk t start)
reading width desk t (Err fault) = (Err fault, desk, t)

abbrev pub starting : ℕ → Desk → Tables → ℕ → Result Start Fault → Result ℕ Fault × Desk × Tables
starting width desk t node (Ok start) = (Ok desk.operations_used, counted desk start, begins_at width desk t node start)
starting width desk t node (Err fault) = (Err fault, desk, t)

abbrev pub read_step : ℕ → Desk → Tables → ℕ → Result ℕ Fault × Desk × Tables
read_step width desk t node = reading width desk t (may_read desk t node)

abbrev pub write_step : ℕ → Desk → Tables → ℕ → List ℕ → Result ℕ Fault × Desk × Tables
write_step width desk t node content = starting width desk t node (may_write desk t node content)

abbrev pub regroup_step : ℕ → Desk → Tables → ℕ → Members → Result ℕ Fault × Desk × Tables
regroup_step width desk t node members = starting width desk t node (may_regroup desk t node members)
