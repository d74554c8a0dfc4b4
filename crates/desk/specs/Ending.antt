-- The calls that end something, and the look at an operation: what each answers and leaves.
use Rattle.std.specs.Prelude.{ℕ, true, List, slice_set, Result, Ok, Err, if◌then◌else◌}
use Rattle.std.specs.Result.{result_and}
use Rattle.fault.specs.declared.Fault.{Fault}
use Rattle.fault.specs.declared.Fault.TheVariants.{NotOpen}
use Rattle.fault.specs.Faults.{fault_of}
use Rattle.refusal.specs.declared.Refusal.{Refusal}
use Rattle.slots.specs.Slots.{lost}
use Rattle.tables.specs.declared.records.NodeRecord.{NodeRecord}
use Rattle.tables.specs.declared.records.OperationRow.{OperationRow}
use Rattle.tables.specs.declared.records.OperationState.TheVariants.{GivenUp}
use Rattle.node.specs.Applying.{with_record}
use Rattle.node.specs.Conditions.{is_open}
use Rattle.desk.specs.declared.desk.Desk.{Desk}
use Rattle.desk.specs.Tables.{Tables}
use Rattle.desk.specs.Asking.{and_then, served, running, started}

-- Losing a frame

abbrev pub frame_lost : Tables → Result (Unit {0}) Refusal × List ℕ → Result (Unit {0}) Fault × Tables
frame_lost t (Ok _, frames) = (Ok tt, record t { frames = frames })
frame_lost t (Err refusal, frames) = (Err (fault_of refusal), t)

abbrev pub losing : Tables → ℕ → Result (Unit {0}) Fault → Result (Unit {0}) Fault × Tables
losing t slot (Ok _) = frame_lost t (lost t.frames slot)
losing t slot (Err fault) = (Err fault, t)

abbrev pub lose_step : Desk → Tables → ℕ → Result (Unit {0}) Fault × Tables
lose_step desk t slot = losing t slot (served desk t)

-- Giving up an operation

abbrev pub still_open : OperationRow → Result OperationRow Fault
still_open row = if is_open row.state then Ok row else Err NotOpen

abbrev pub may_give_up : Desk → Tables → ℕ → Result OperationRow Fault
may_give_up desk t operation = result_and (served desk t) (and_then (started desk t.operations operation) still_open)

abbrev pub giving_up : Tables → ℕ → Result OperationRow Fault → Result (Unit {0}) Fault × Tables
giving_up t operation (Ok row) = (Ok tt, record t { operations = slice_set t.operations operation (record row { state = GivenUp }) })
giving_up t operation (Err fault) = (Err fault, t)

abbrev pub give_up_step : Desk → Tables → ℕ → Result (Unit {0}) Fault × Tables
give_up_step desk t operation = giving_up t operation (may_give_up desk t operation)

-- Stopping a node

abbrev pub may_stop : Desk → Tables → ℕ → Result NodeRecord Fault
may_stop desk t node = result_and (served desk t) (running desk t.nodes node)

abbrev pub stopping : Tables → ℕ → Result NodeRecord Fault → Result (Unit {0}) Fault × Tables
stopping t node (Ok found) = (Ok tt, record t { nodes = with_record t.nodes node (record found { stopped = true }) })
stopping t node (Err fault) = (Err fault, t)

abbrev pub stop_step : Desk → Tables → ℕ → Result (Unit {0}) Fault × Tables
stop_step desk t node = stopping t node (may_stop desk t node)

-- Looking at an operation: its row comes into the place that is handed along

abbrev pub may_look : Desk → Tables → ℕ → Result OperationRow Fault
may_look desk t operation = result_and (served desk t) (started desk t.operations operation)

abbrev pub looked : OperationRow → Result OperationRow Fault → Result (Unit {0}) Fault × OperationRow
looked place (Ok row) = (Ok tt, row)
looked place (Err fault) = (Err fault, place)

abbrev pub look_step : Desk → Tables → ℕ → OperationRow → Result (Unit {0}) Fault × OperationRow
look_step desk t operation place = looked place (may_look desk t operation)
