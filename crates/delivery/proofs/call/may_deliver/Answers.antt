-- What was read is lawful, so what is planned for it is.
use Rattle.std.proofs.Common.{rules}
use Rattle.frame.specs.Messages.{says}
use Rattle.desk.specs.Tables.{tables}
use Rattle.delivery.proofs.KeptLawful.{received_lawful}
use Rattle.delivery.proofs.call.may_deliver.Goals as goal

pub returns-clause-lawful : goal.returns-clause-lawful
returns-clause-lawful g c lawful =
    let kind = g.C.Content in
    let laws = g.met.C.Content in
    let message = says c.in_ok-message.message in
    let t = tables c.args.nodes.now c.args.operations.now c.args.frames.now c.args.proposals.now in
    rw c.received.ensures
    (received_lawful kind.width kind.meaning kind.reads laws.meaning_fills_width laws.width_bounded c.args.desk.now t lawful (g.Q.QuorumRule.winning c.args.rule.now)
    message (c.in_ok-message.ensures.lawful_and_written message (search rules)).0)
