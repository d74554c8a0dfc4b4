-- What calls ask before they do anything, each with the fault that it stops on.
use Rattle.std.specs.Prelude.{ℕ, zero, suc, not, ◌&&◌, List, slice_get, Option, Some, None, Result, Ok, Err, ok_or, nat_le, nat_lt, if◌then◌else◌}
use Rattle.fault.specs.declared.Fault.{Fault}
use Rattle.fault.specs.declared.Fault.TheVariants.{Closed, TableLength, NoNode, Stopped, NotStarted}
use Rattle.tables.specs.declared.records.NodeRecord.{NodeRecord}
use Rattle.tables.specs.declared.records.OperationRow.{OperationRow}
use Rattle.desk.specs.declared.desk.Desk.{Desk}
use Rattle.desk.specs.Tables.{Tables, lengths_of, allowed_lengths, same_lengths}

-- go on with what was found, or stop
abbrev pub and_then : {A B : Type 0} → Result A Fault → (A → Result B Fault) → Result B Fault
and_then (Ok found) next = next found
and_then (Err fault) next = Err fault

-- the floor is open, and the tables have the lengths that they had at the opening
abbrev pub served : Desk → Tables → Result (Unit {0}) Fault
served desk t =
    if not desk.is_open then Err Closed
    else if allowed_lengths t && same_lengths (lengths_of t.operations t.frames t.proposals) desk.lengths then Ok tt
    else Err TableLength

-- the record of a node; the first is node 1's
abbrev pub record_of : List NodeRecord → ℕ → Option NodeRecord
record_of nodes zero = None
record_of nodes (suc place) = slice_get nodes place

abbrev pub not_stopped : Option NodeRecord → Result NodeRecord Fault
not_stopped None = Err NoNode
not_stopped (Some node) = if node.stopped then Err Stopped else Ok node

-- the record of a node of the floor that is running
abbrev pub running : Desk → List NodeRecord → ℕ → Result NodeRecord Fault
running desk nodes node = if nat_le node desk.node_count then not_stopped (record_of nodes node) else Err NoNode

-- the row of an operation that was started
abbrev pub started : Desk → List OperationRow → ℕ → Result OperationRow Fault
started desk operations operation = if nat_lt operation desk.operations_used then ok_or (slice_get operations operation) NotStarted else Err NotStarted
