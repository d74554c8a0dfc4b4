-- An opening that goes on has a record for each of its nodes, and what it leaves is lawful.
use Rattle.std.proofs.Common.{Ok, refl, rules}
use Rattle.desk.specs.Tables.{tables}
use Rattle.desk.proofs.MayOpen.{opened_have_records}
use Rattle.desk.proofs.OpenedLawful.{open_makes_lawful}
use Rattle.desk.proofs.opening.open.Goals as goal

pub open_nodes-requires : goal.open_nodes-requires
open_nodes-requires g c =
    let t = tables c.args.nodes.now c.args.operations.now c.args.frames.now c.args.proposals.now in
    opened_have_records c.args.desk.now t c.args.count c.args.members (rw c.may_open.ensures.answer at c.in_ok-may_open.was)

pub returns-clause-lawful : goal.returns-clause-lawful
returns-clause-lawful g c taken =
    let t = tables c.args.nodes.now c.args.operations.now c.args.frames.now c.args.proposals.now in
    open_makes_lawful g.C.Content.meaning c.args.desk.now t c.args.count c.args.members (λ bounded _. c.in_ok-may_open.ensures.lawful taken bounded) c.args.content.now
    (Ok tt, c.opened_desk.result, tables c.open_nodes.new.nodes c.args.operations.now c.fill.new.self c.args.proposals.now) (search rules) taken

pub returns-clause-lawful_stays : goal.returns-clause-lawful_stays
returns-clause-lawful_stays g c _ = returns-clause-lawful g c refl
