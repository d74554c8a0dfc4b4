-- Plans: what a node makes of a frame.
use Rattle.std.specs.Prelude.{ℕ, Bool, true, false, Some, None, Option}
use Rattle.frame.specs.declared.message.Head.{Head}
use Rattle.slots.specs.declared.letter.Body.{Body}
use Rattle.tables.specs.declared.records.NodeRecord.{NodeRecord}
use Rattle.tables.specs.declared.records.OperationRow.{OperationRow}
use Rattle.tables.specs.declared.records.OperationState.{OperationState}
use Rattle.tables.specs.declared.records.OperationState.TheVariants.{Open, Answered, GivenUp, Proposed}
use Rattle.node.specs.declared.plan.Plan.{Plan}
use Rattle.node.specs.declared.plan.RowPlan.{RowPlan}

-- the frame's receiver has this record, and that is all
abbrev pub plan_for : Head → NodeRecord → Plan
plan_for head node = record { receiver = head.receiver; node = node; row = None; reply = None }

-- the same, and this goes back to the sender, under the frame's number
abbrev pub replying : Head → NodeRecord → Body → Plan
replying head node body = record (plan_for head node) {
  reply = Some (record { receiver = head.sender; letter = record { sender = head.receiver; number = head.number; body = body } });
}

-- the receiver's record, and the operation's row
abbrev pub counted_as : Head → NodeRecord → ℕ → OperationRow → Plan
counted_as head node operation row = record (plan_for head node) { row = Some (record { operation = operation; row = row }) }

abbrev pub is_answered : OperationState → Bool
is_answered Open = false
is_answered Answered = true
is_answered GivenUp = false
is_answered Proposed = false

-- whether the operation's row, if one changes, is answered
abbrev pub answers : Option RowPlan → Bool
answers (Some change) = is_answered change.row.state
answers None = false
