-- Giving up is a step that keeps lawful tables lawful.
use Rattle.desk.specs.Ending.{give_up_step}
use Rattle.desk.specs.Tables.{tables}
use Rattle.desk.proofs.KeptLawful.{give_up_keeps_lawful}
use Rattle.desk.proofs.LawfulLeft.{lawful_tables_left}
use Rattle.floor.proofs.floor.Floor.give_up.Goals as goal

pub returns-clause-lawful_stays : goal.returns-clause-lawful_stays
returns-clause-lawful_stays g c lawful =
    let meaning = g.C.Content.meaning in
    let desk = c.args.self.now.desk in
    let t = tables c.args.nodes.now c.args.operations.now c.args.frames.now c.args.proposals.now in
    lawful_tables_left meaning desk {left = (c.give_up.result, tables c.args.nodes.now c.give_up.new.operations c.args.frames.now c.args.proposals.now)}
    {step = give_up_step desk t c.args.operation} c.give_up.ensures (give_up_keeps_lawful meaning desk t lawful c.args.operation)
