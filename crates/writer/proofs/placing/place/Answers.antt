-- The answer and the table are what the definition says; so the slot is read as `ReadsBack` says.
use Rattle.std.proofs.Common.{arith}
use Rattle.content.proofs.Slices.{bytes_from_fits}
use Rattle.frame.specs.Messages.{says}
use Rattle.writer.proofs.PlacedReads.{placed_so, placed_reads_back}
use Rattle.writer.proofs.placing.place.Goals as goal

pub returns-clause-reads_back : goal.returns-clause-reads_back
returns-clause-reads_back g c =
    let kind = g.C.Content in
    placed_reads_back kind.width kind.meaning kind.reads (assumption g.met.C.Content) c.args.frames.now _ c.args.slot (says c.args.message) _ (grind (arith, placed_so)) c.fits.ensures.words (bytes_from_fits _ c.type_inv.frames)
