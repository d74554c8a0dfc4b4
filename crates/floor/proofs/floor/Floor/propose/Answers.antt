-- A proposal is a step that keeps lawful tables lawful, for the chooser keeps to the rules of offers.
use Rattle.desk.specs.Tables.{tables}
use Rattle.handover.proofs.KeptLawful.{propose_keeps_lawful}
use Rattle.floor.proofs.floor.Floor.propose.Goals as goal

pub returns-clause-lawful_stays : goal.returns-clause-lawful_stays
returns-clause-lawful_stays g c lawful =
    let chooser = g.S.Chooser in
    let floor = c.args.self.now in
    let t = tables c.args.nodes.now c.args.operations.now c.args.frames.now c.args.proposals.now in
    propose_keeps_lawful g.C.Content.meaning floor.desk t lawful chooser.decided chooser.offers chooser.offering g.met.S.Chooser.offering_is_lawful floor.chooser c.propose.new.chooser
    c.args.operation (c.propose.result, c.propose.new.desk, tables c.args.nodes.now c.propose.new.operations c.args.frames.now c.propose.new.proposals)
    (g.Q.QuorumRule.winning floor.rule) c.propose.ensures
