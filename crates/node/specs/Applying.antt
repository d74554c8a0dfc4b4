-- What the host's tables become when a plan is applied.
use Rattle.std.specs.Prelude.{ℕ, zero, suc, List, [], ◌∷◌, Some, None, Ok, Option, Result, slice_set}
use Rattle.refusal.specs.declared.Refusal.{Refusal}
use Rattle.slots.specs.Slots.{may_send, sent_to_each}
use Rattle.tables.specs.declared.records.NodeRecord.{NodeRecord}
use Rattle.tables.specs.declared.records.OperationRow.{OperationRow}
use Rattle.node.specs.declared.plan.Reply.{Reply}
use Rattle.node.specs.declared.plan.RowPlan.{RowPlan}

-- The records with that of a node replaced. The first is node 1's; one that the table does not have is left out.
abbrev pub with_record : List NodeRecord → ℕ → NodeRecord → List NodeRecord
with_record nodes zero node = nodes
with_record nodes (suc place) node = slice_set nodes place node

-- the rows with that of an operation replaced, if one is planned and the table has it
abbrev pub with_row : List OperationRow → Option RowPlan → List OperationRow
with_row rows (Some change) = slice_set rows change.operation change.row
with_row rows None = rows

-- the frame table with the reply in its lowest empty slot, if one is due
abbrev pub with_reply : ℕ → List ℕ → Option Reply → List ℕ
with_reply width frames (Some reply) = sent_to_each width frames (reply.receiver ∷ []) reply.letter
with_reply width frames None = frames

-- whether a reply, if one is due, finds an empty slot
abbrev pub may_apply : Option Reply → List ℕ → Result (Unit {0}) Refusal
may_apply (Some reply) frames = may_send frames 1
may_apply None frames = Ok tt
