use Rattle.std.proofs.Common.{rules}
use Rattle.frame.specs.Messages.{says}
use Rattle.node.proofs.LawfulKept.{lawful_stays}
use Rattle.node.proofs.judging.judge.Goals as goal

pub returns-clause-lawful_stays : goal.returns-clause-lawful_stays
returns-clause-lawful_stays g c =
    let kind = g.C.Content in
    let laws = g.met.C.Content in
    let winning = g.Q.QuorumRule.winning c.args.rule.now in
    lawful_stays kind.width kind.meaning laws.meaning_fills_width laws.width_bounded winning c.args.node.now c.args.rows.now c.args.moment (says c.args.message) c.by_status.result (search rules)
