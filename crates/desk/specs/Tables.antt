-- The host's tables as every call is handed them, and the desk.
use Rattle.std.specs.Prelude.{ℕ, ◌*◌, Bool, false, ◌&&◌, List, length, ◌==◌, nat_le}
use Rattle.frame.specs.Limits.{slot_size}
use Rattle.writer.specs.Table.{slots}
use Rattle.tables.specs.declared.records.NodeRecord.{NodeRecord}
use Rattle.tables.specs.declared.records.OperationRow.{OperationRow}
use Rattle.tables.specs.declared.records.ProposalRow.{ProposalRow}
use Rattle.desk.specs.declared.desk.Desk.{Desk}
use Rattle.desk.specs.declared.desk.Lengths.{Lengths}
use Rattle.desk.specs.Limits.{node_records, most_operations, most_slots, most_proposals}

-- The four tables. Frames are bytes, 32 to a slot.
pub record Tables : Type 0 where
  pub nodes : List NodeRecord
  pub operations : List OperationRow
  pub frames : List ℕ
  pub proposals : List ProposalRow

abbrev pub tables : List NodeRecord → List OperationRow → List ℕ → List ProposalRow → Tables
tables nodes operations frames proposals = record { nodes = nodes; operations = operations; frames = frames; proposals = proposals }

abbrev pub lengths_of : List OperationRow → List ℕ → List ProposalRow → Lengths
lengths_of operations frames proposals = record { operations = length operations; frames = length frames; proposals = length proposals }

-- from one to a highest
abbrev pub one_to : ℕ → ℕ → Bool
one_to highest n = nat_le 1 n && nat_le n highest

-- whether tables may have these lengths
abbrev pub allowed_lengths : Tables → Bool
allowed_lengths t =
    length t.nodes == node_records && one_to most_operations (length t.operations)
    && (slots t.frames * slot_size == length t.frames && one_to most_slots (slots t.frames))
    && one_to most_proposals (length t.proposals)

abbrev pub same_lengths : Lengths → Lengths → Bool
same_lengths one other = one.operations == other.operations && one.frames == other.frames && one.proposals == other.proposals

-- the desk of a floor that was not opened yet
abbrev pub closed : Desk
closed = record {
  is_open = false;
  node_count = 0;
  lengths = record { operations = 0; frames = 0; proposals = 0 };
  operations_used = 0;
  proposals_used = 0;
  moment = 0;
}
