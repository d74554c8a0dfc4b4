use Rattle.std.proofs.Common.{refl, ◌∙◌}
use Rattle.frame.specs.Bytes.{plain_bytes}
use Rattle.writer.proofs.Laying.{copy_behind}
use Rattle.writer.proofs.layout.with_copy.Goals as goal

-- the copy is laid right behind the operation
pub returns : goal.returns
returns c = c.lay_copy.ensures ∙ copy_behind _ (plain_bytes c.args.kind c.args.head c.args.operation) c.args.content.now c.args.tag 6 c.plain-slot.ensures refl
