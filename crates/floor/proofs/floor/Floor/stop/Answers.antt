-- A stop is a step that keeps lawful tables lawful.
use Rattle.desk.specs.Ending.{stop_step}
use Rattle.desk.specs.Tables.{tables}
use Rattle.desk.proofs.KeptLawful.{stop_keeps_lawful}
use Rattle.desk.proofs.LawfulLeft.{lawful_tables_left}
use Rattle.floor.proofs.floor.Floor.stop.Goals as goal

pub returns-clause-lawful_stays : goal.returns-clause-lawful_stays
returns-clause-lawful_stays g c lawful =
    let meaning = g.C.Content.meaning in
    let desk = c.args.self.now.desk in
    let t = tables c.args.nodes.now c.args.operations.now c.args.frames.now c.args.proposals.now in
    lawful_tables_left meaning desk {left = (c.stop.result, tables c.stop.new.nodes c.args.operations.now c.args.frames.now c.args.proposals.now)}
    {step = stop_step desk t c.args.node} c.stop.ensures (stop_keeps_lawful meaning desk t lawful c.args.node)
