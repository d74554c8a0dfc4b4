-- Opening a floor.
use Rattle.std.specs.Prelude.{ℕ, suc, true, false, not, List, ◌++◌, map, drop, length, replicate, is_some, Result, Ok, Err, if◌then◌else◌}
use Rattle.std.specs.List.{range_with_len}
use Rattle.content.specs.Bytes.{padded}
use Rattle.fault.specs.declared.Fault.{Fault}
use Rattle.fault.specs.declared.Fault.TheVariants.{AlreadyOpen, TableLength, NodeCount, Unlawful}
use Rattle.frame.specs.declared.message.Tag.{Tag}
use Rattle.tables.specs.declared.copy.SheetCopy.{SheetCopy}
use Rattle.tables.specs.declared.members.Members.{Members}
use Rattle.tables.specs.declared.records.NodeRecord.{NodeRecord}
use Rattle.tables.specs.declared.records.Status.TheVariants.{Idle, Active}
use Rattle.tables.specs.Members.{place_of}
use Rattle.desk.specs.declared.desk.Desk.{Desk}
use Rattle.desk.specs.declared.desk.Lengths.{Lengths}
use Rattle.desk.specs.Limits.{node_records}
use Rattle.desk.specs.Tables.{Tables, one_to, lengths_of, allowed_lengths}
use Rattle.desk.specs.Lists.{is_lawful}

-- the first ground on which the opening stops, if there is one
abbrev pub may_open : Desk → Tables → ℕ → Members → Result (Unit {0}) Fault
may_open desk t count members =
    if desk.is_open then Err AlreadyOpen
    else if not (allowed_lengths t) then Err TableLength
    else if not (one_to node_records count) then Err NodeCount
    else if not (is_lawful members count) then Err Unlawful
    else Ok tt

abbrev pub opening_tag : Tag
opening_tag = record { version = 0; node = 0 }

-- the copy that a sheet begins with
abbrev pub opening_copy : List ℕ → SheetCopy
opening_copy content = record { tag = opening_tag; content = padded content }

-- the record of a node at the opening
abbrev pub opening_record : Members → SheetCopy → ℕ → NodeRecord
opening_record members copy node = record {
  status = if is_some (place_of members node) then Active else Idle;
  stopped = false;
  configuration = record { number = 0; members = members; opening = copy.tag };
  stored = copy;
  served = copy;
  newest = 0;
}

-- the records with those of nodes 1 to the count as they are at the opening
abbrev pub opened_nodes : List NodeRecord → ℕ → Members → SheetCopy → List NodeRecord
opened_nodes nodes count members copy = map (λ place. opening_record members copy (suc place)) (range_with_len 0 count) ++ drop count nodes

abbrev pub opened_desk : ℕ → Lengths → Desk
opened_desk count lengths = record { is_open = true; node_count = count; lengths = lengths; operations_used = 0; proposals_used = 0; moment = 0 }

-- what the opening answers and leaves, where it stops or does not
abbrev pub opened : Desk → Tables → ℕ → Members → List ℕ → Result (Unit {0}) Fault → Result (Unit {0}) Fault × Desk × Tables
opened desk t count members content (Err fault) = (Err fault, desk, t)
opened desk t count members content (Ok _) = (
  Ok tt,
  opened_desk count (lengths_of t.operations t.frames t.proposals),
  record t { nodes = opened_nodes t.nodes count members (opening_copy content); frames = replicate (length t.frames) 0 },
)

abbrev pub open_step : Desk → Tables → ℕ → Members → List ℕ → Result (Unit {0}) Fault × Desk × Tables
open_step desk t count members content = opened desk t count members content (may_open desk t count members)
