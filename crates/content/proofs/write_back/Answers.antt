-- The meaning of what was read is the bytes that it was read from.
use Rattle.std.proofs.Common.{arith}
use Rattle.content.proofs.Slices.{bytes_from_fits}
use Rattle.content.proofs.write_back.Goals as goal

pub returns : goal.returns
returns g c = let bytes = bytes_from_fits c.args.bytes.now c.type_inv.bytes in grind (arith, g.met.C.Content.writes_read)
