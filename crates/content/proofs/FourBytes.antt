-- The four bytes of a number of 32 bits, in the middle of a list of bytes.
use Rattle.std.proofs.Common.{◌≡◌, ℕ, ◌+◌, ◌^◌, ◌<◌, ◌≤◌, List, ◌++◌, length, drop, arith}
use Rattle.std.proofs.lemmas.Grind.{common_steps}
use Rattle.content.specs.Bytes.{AllBytes, four_bytes, number_at}

pub number_at_fits : (bs : List ℕ) (k : ℕ) → k + 4 ≤ length bs → AllBytes bs → number_at bs k < 2 ^ 32
number_at_fits bs k inside h = grind (arith, common_steps)

-- from place k on a list is the four bytes of the number there, then the rest
pub bytes_at_place : (bs : List ℕ) (k : ℕ) → k + 4 ≤ length bs → AllBytes bs → drop k bs ≡ four_bytes (number_at bs k) ++ drop (k + 4) bs
bytes_at_place bs k inside h = grind (arith, common_steps)
