-- Bytes laid into a slot, a part of a frame at a time.
use Rattle.std.specs.Prelude.{ℕ, ◌+◌, List, ◌++◌, length, take, drop}

-- a slot with the bytes from a place on replaced
abbrev pub laid : List ℕ → ℕ → List ℕ → List ℕ
laid slot at bytes = take at slot ++ (bytes ++ drop (at + length bytes) slot)
