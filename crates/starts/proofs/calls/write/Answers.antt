-- What a write leaves is what its step leaves, so it stays lawful.
use Rattle.std.proofs.Common.{Ok, rules}
use Rattle.desk.specs.Tables.{tables}
use Rattle.desk.proofs.LawfulLeft.{lawful_left}
use Rattle.starts.specs.Starts.{write_step}
use Rattle.starts.proofs.KeptLawful.{write_keeps_lawful}
use Rattle.starts.proofs.calls.write.Goals as goal

pub returns-clause-lawful_stays : goal.returns-clause-lawful_stays
returns-clause-lawful_stays g c lawful =
    let kind = g.C.Content in
    let desk = c.args.desk.now in
    let t = tables c.args.nodes.now c.args.operations.now c.args.frames.now c.args.proposals.now in
    lawful_left kind.meaning {left = (Ok c.begin.result, c.begin.new.desk, tables c.write_record.new.nodes c.begin.new.operations c.begin.new.frames c.args.proposals.now)}
    {step = write_step kind.width desk t c.args.node (kind.meaning c.args.content.now)} (search rules)
    (write_keeps_lawful kind.meaning desk t lawful c.args.node kind.width c.args.content.now)
