-- The frame table, a list of bytes: slot k is the 32 bytes from byte 32 k on.
use Rattle.std.specs.Prelude.{ℕ, ◌+◌, ◌*◌, ◌/◌, List, ◌++◌, length, take, drop, Option, Some, None, Ok, Err, Result, nat_lt, if◌then◌else◌}
use Rattle.refusal.specs.declared.Refusal.{Refusal}
use Rattle.refusal.specs.declared.Refusal.TheVariants.{NoSlot, Unlawful}
use Rattle.frame.specs.Bytes.{bytes_of, fits}
use Rattle.frame.specs.Limits.{slot_size}
use Rattle.frame.specs.Messages.{Said}

-- how many slots the table has
abbrev pub slots : List ℕ → ℕ
slots table = length table / slot_size

-- the bytes of a slot
abbrev pub slot_of : List ℕ → ℕ → List ℕ
slot_of table slot = take slot_size (drop (slot * slot_size) table)

-- the table with one slot's bytes replaced
abbrev pub replaced : List ℕ → ℕ → List ℕ → List ℕ
replaced table slot bytes = take (slot * slot_size) table ++ (bytes ++ drop (slot * slot_size + slot_size) table)

-- the bytes of a message whose parts have the lengths of their fields
abbrev pub frame_of : ℕ → Said → Option (List ℕ)
frame_of width message = if fits width message then Some (bytes_of message) else None

-- What placing a message answers, and the table that it leaves.
abbrev pub placed : ℕ → List ℕ → ℕ → Said → Result (Unit {0}) Refusal × List ℕ
placed width table slot message =
    if nat_lt slot (slots table)
    then if fits width message then (Ok tt, replaced table slot (bytes_of message)) else (Err Unlawful, table)
    else (Err NoSlot, table)
