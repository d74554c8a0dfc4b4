-- A lawful plan was applied, at the moment as it was or at the next one.
use Rattle.std.proofs.Common.{rules}
use Rattle.desk.specs.Tables.{tables}
use Rattle.node.specs.LawfulPlans.{LawfulPlan}
use Rattle.delivery.proofs.KeptLawful.{applied_lawful}
use Rattle.delivery.proofs.call.deliver.Goals as goal

pub returns-clause-lawful_stays : goal.returns-clause-lawful_stays
returns-clause-lawful_stays g c lawful =
    let kind = g.C.Content in
    let laws = g.met.C.Content in
    let t = tables c.args.nodes.now c.args.operations.now c.args.frames.now c.args.proposals.now in
    let plan_lawful : LawfulPlan kind.width kind.meaning c.in-Some.plan = search rules in
    rw (c.apply.ensures.nodes, c.apply.ensures.rows, c.apply.ensures.frames)
    (applied_lawful kind.width kind.meaning kind.reads laws.meaning_fills_width laws.width_bounded c.args.desk.now t lawful c.in-Some.plan plan_lawful c.args.desk.now.moment)

pub returns-then-answers-clause-lawful_stays : goal.returns-then-answers-clause-lawful_stays
returns-then-answers-clause-lawful_stays g c lawful =
    let kind = g.C.Content in
    let laws = g.met.C.Content in
    let t = tables c.args.nodes.now c.args.operations.now c.args.frames.now c.args.proposals.now in
    let plan_lawful : LawfulPlan kind.width kind.meaning c.in-Some.plan = search rules in
    rw (c.apply.ensures.nodes, c.apply.ensures.rows, c.apply.ensures.frames)
    (applied_lawful kind.width kind.meaning kind.reads laws.meaning_fills_width laws.width_bounded c.args.desk.now t lawful c.in-Some.plan plan_lawful c.next_moment-desk.result)
