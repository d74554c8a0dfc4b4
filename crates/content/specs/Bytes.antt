-- Bytes as numbers, and the four bytes of a number of 32 bits.
use Rattle.std.specs.Prelude.{ℕ, ◌+◌, ◌-◌, ◌*◌, ◌/◌, ◌%◌, ◌^◌, ◌<◌, List, [], ◌∷◌, ◌++◌, length, replicate, slice_index}
use Rattle.std.specs.List.{AllByRecursion}

-- a number that is a byte
abbrev pub Byte : ℕ → Type 0
Byte b = b < 256

-- each number of the list is a byte
abbrev pub AllBytes : List ℕ → Type 0
AllBytes bs = AllByRecursion Byte bs

-- the most bytes that a content may take
abbrev pub widest : ℕ
widest = 16

-- bytes, then zeros up to 16
abbrev pub padded : List ℕ → List ℕ
padded bs = bs ++ replicate (widest - length bs) 0

-- a number of 32 bits as four bytes, the highest first
abbrev pub four_bytes : ℕ → List ℕ
four_bytes n = (n / 2 ^ 24 % 256) ∷ (n / 2 ^ 16 % 256) ∷ (n / 2 ^ 8 % 256) ∷ (n % 256) ∷ []

-- the number whose four bytes stand from place i on, the highest first
abbrev pub number_at : List ℕ → ℕ → ℕ
number_at bs i = slice_index bs i * 2 ^ 24 + slice_index bs (i + 1) * 2 ^ 16 + slice_index bs (i + 2) * 2 ^ 8 + slice_index bs (i + 3)
