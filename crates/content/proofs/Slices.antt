-- What a slice of bytes holds.
use Rattle.std.proofs.Common.{ℕ, List, take, drop, get_or, w8, Fits}
use Rattle.std.proofs.lemmas.List.Elements.{All-from_get_or, All-from_recursion, All-take, All-drop, recursion_from_All}
use Rattle.content.specs.Bytes.{Byte, AllBytes}

pub bytes_from_fits : (bs : List ℕ) → ((i : ℕ) → Fits w8 (get_or bs i 0)) → AllBytes bs
bytes_from_fits bs fits = recursion_from_All Byte bs (All-from_get_or Byte bs 0 (λ i inside. (fits i).fits))

-- the n numbers from place i on are bytes where all are
pub part_is_bytes : (i n : ℕ) (bs : List ℕ) → AllBytes bs → AllBytes (take n (drop i bs))
part_is_bytes i n bs bytes = recursion_from_All Byte _ (All-take Byte n _ (All-drop Byte i bs (All-from_recursion Byte bs bytes)))
