-- Lawful stays lawful: what a plan leaves lies within the bounds of the tables and of frames, if what it was made of did.
use Rattle.std.specs.Prelude.{ℕ, List, slice_get, Option}
use Rattle.std.specs.Option.{IfSome}
use Rattle.frame.specs.Lawful.{Lawful}
use Rattle.frame.specs.Messages.{Said}
use Rattle.slots.specs.Letters.{addressed}
use Rattle.tables.specs.declared.records.NodeRecord.{NodeRecord}
use Rattle.tables.specs.declared.records.OperationRow.{OperationRow}
use Rattle.tables.specs.Lawful.{LawfulNode, LawfulOperation}
use Rattle.node.specs.declared.plan.Plan.{Plan}

-- record, row and reply are lawful; the latter two where there are such
pub record LawfulPlan {C : Type 0} (width : ℕ) (meaning : C → List ℕ) (plan : Plan) : Type 0 where
  pub node_lawful : LawfulNode meaning plan.node
  pub row_lawful : IfSome plan.row (λ change. LawfulOperation meaning change.row)
  pub reply_lawful : IfSome plan.reply (λ reply. Lawful meaning (addressed width reply.letter reply.receiver))

abbrev pub AllLawful : {C : Type 0} → (C → List ℕ) → List OperationRow → Type 0
AllLawful meaning rows = (operation : ℕ) → IfSome (slice_get rows operation) (LawfulOperation meaning)

-- of a lawful record, lawful rows and a lawful message
abbrev pub LawfulStays : {C : Type 0} → ℕ → (C → List ℕ) → NodeRecord → List OperationRow → Said → Option Plan → Type 0
LawfulStays width meaning node rows message answer =
    LawfulNode meaning node → AllLawful meaning rows → Lawful meaning message → IfSome answer (LawfulPlan width meaning)
