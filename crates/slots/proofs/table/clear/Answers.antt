use Rattle.slots.proofs.Replaced.{zeros_written}
use Rattle.slots.proofs.table.clear.Goals as goal

-- `fill` writes as many zeros as the part is long
pub returns : goal.returns
returns c = zeros_written c.args.frames.now c.fill.new.self c.args.slot c.requires (c.fill.ensures.after (λ byte same. same))
