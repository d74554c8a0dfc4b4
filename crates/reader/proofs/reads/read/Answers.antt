-- The answer is what reading answers; so it is lawful and was written so.
use Rattle.std.proofs.Common.{Ok, arith}
use Rattle.content.proofs.Slices.{bytes_from_fits}
use Rattle.frame.specs.Messages.{answers}
use Rattle.frame.proofs.ReadWritten.{answer_was_written}
use Rattle.reader.proofs.reads.read.Goals as goal

pub returns-clause-lawful_and_written : goal.returns-clause-lawful_and_written
returns-clause-lawful_and_written g c =
    let slot = c.args.slot.now in
    let kind = g.C.Content in
    answer_was_written kind.width kind.meaning kind.reads (assumption g.met.C.Content) slot (answers (Ok c.told.result)) (bytes_from_fits slot c.type_inv.slot) (grind arith)
