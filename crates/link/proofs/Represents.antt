-- When a system of the protocol stands for a floor's desk, tables and decisions.
use Rattle.std.proofs.Common.{◌≡◌, ℕ, ◌<◌, ◌≤◌, List, Some, Ok, Option, slice_get}
use Rattle.chooser.specs.Meaning.{Decisions, decision_at}
use Rattle.frame.specs.Lawful.{Lawful}
use Rattle.frame.specs.Messages.{Said, reading}
use Rattle.writer.specs.Table.{slot_of}
use Rattle.tables.specs.declared.records.NodeRecord.{NodeRecord}
use Rattle.tables.specs.declared.records.OperationRow.{OperationRow}
use Rattle.tables.specs.declared.records.ProposalRow.{ProposalRow}
use Rattle.desk.specs.declared.desk.Desk.{Desk}
use Rattle.desk.specs.Tables.{Tables}
use Rattle.desk.specs.Asking.{record_of}
use Rattle.protocol.specs.State.{System, Setting, UnderWay}
use Rattle.protocol.specs.Moves.{Later}
use Rattle.link.proofs.Terms.{StandsFor, node_said, configuration_said, frame_said}

-- What can be read of the frame table is lawful. (A host's bytes always are such that this holds; here a table is any list of numbers.)
abbrev pub LawfulFrames : {C : Type 0} → ℕ → (C → List ℕ) → (List ℕ → Option C) → List ℕ → Type 0
LawfulFrames width meaning reads frames = (slot : ℕ) (message : Said) → reading width reads (slot_of frames slot) ≡ Ok message → Lawful meaning message

-- Nodes above the count are not spoken of: no call reaches them. Every frame that can be read is under way; others may be, too, for the protocol loses none.
pub record Represents {C : Type 0} (width : ℕ) (meaning : C → List ℕ) (reads : List ℕ → Option C) (decided : Decisions) (desk : Desk) (t : Tables) (system : System) : Type 0 where
  pub nodes : (node : ℕ) (found : NodeRecord) → node ≤ desk.node_count → record_of t.nodes node ≡ Some found → system.nodes node ≡ node_said found
  pub operations_counted : system.operations.count ≡ desk.operations_used
  pub operations : (operation : ℕ) → operation < desk.operations_used → (row : OperationRow) × (slice_get t.operations operation ≡ Some row) × StandsFor row (system.operations.row operation)
  pub proposals_counted : system.proposals.count ≡ desk.proposals_used
  pub proposals : (proposal : ℕ) → proposal < desk.proposals_used → (row : ProposalRow) × (slice_get t.proposals proposal ≡ Some row) × (system.proposals.row proposal ≡ configuration_said row)
  pub decisions : (number : ℕ) → system.decisions number ≡ decision_at decided number
  pub frames : (slot : ℕ) (message : Said) → reading width reads (slot_of t.frames slot) ≡ Ok message → UnderWay (frame_said message) system
  pub frames_lawful : LawfulFrames width meaning reads t.frames

-- the protocol goes, in some moves, from a system to one that stands for what a call left
abbrev pub GoesTo : {C : Type 0} → ℕ → (C → List ℕ) → (List ℕ → Option C) → Setting → System → Decisions → Desk → Tables → Type 0
GoesTo width meaning reads setting before decided desk t = (after : System) × Later setting before after × Represents width meaning reads decided desk t after
