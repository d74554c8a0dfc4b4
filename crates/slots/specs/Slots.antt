-- Which slots of the frame table are empty, what sending makes of the table, and losing a frame.
use Rattle.std.specs.Prelude.{◌≡◌, ℕ, ◌*◌, ◌<◌, Bool, false, ◌&&◌, not, List, [], ◌∷◌, length, filter, take, drop, replicate, slice_index, slice_get, Option, Some, None, Ok, Err, Result, ◌==◌, nat_lt, if◌then◌else◌}
use Rattle.std.specs.List.{range_with_len}
use Rattle.std.specs.Borrow.{Bor}
use Rattle.refusal.specs.declared.Refusal.{Refusal}
use Rattle.refusal.specs.declared.Refusal.TheVariants.{NoSlot, TooFewSlots}
use Rattle.frame.specs.Bytes.{bytes_of}
use Rattle.frame.specs.Fields.{among}
use Rattle.frame.specs.Limits.{slot_size}
use Rattle.writer.specs.Table.{slots, slot_of, replaced}
use Rattle.slots.specs.declared.letter.Letter.{Letter}
use Rattle.slots.specs.Letters.{addressed}

-- A slot is empty if its first byte is 0, whatever follows.
abbrev pub is_empty : List ℕ → ℕ → Bool
is_empty table slot = slice_index (slot_of table slot) 0 == 0

-- the empty slots by their numbers, the lowest first
abbrev pub empty_slots : List ℕ → List ℕ
empty_slots table = filter (is_empty table) (range_with_len 0 (slots table))

abbrev pub empty_count : List ℕ → ℕ
empty_count table = length (empty_slots table)

abbrev pub lowest_empty : List ℕ → Option ℕ
lowest_empty table = slice_get (empty_slots table) 0

-- no slot below a place is empty
abbrev pub NoneBelow : List ℕ → ℕ → Type 0
NoneBelow table place = (slot : ℕ) → slot < place → slot < slots table → is_empty table slot ≡ false

-- whether this many frames find empty slots
abbrev pub may_send : List ℕ → ℕ → Result (Unit {0}) Refusal
may_send table count = if nat_lt (empty_count table) count then Err TooFewSlots else Ok tt

-- the table with these bytes in a slot, and as it is where there is none
abbrev pub filled_at : List ℕ → Option ℕ → List ℕ → List ℕ
filled_at table (Some slot) bytes = replaced table slot bytes
filled_at table None bytes = table

-- a frame into the lowest empty slot; one that finds none is not sent
abbrev pub sent : ℕ → List ℕ → Letter → ℕ → List ℕ
sent width table letter receiver = filled_at table (lowest_empty table) (bytes_of (addressed width letter receiver))

-- a frame to each receiver, in their order: the next one is sent on the table that the one before leaves
abbrev pub sent_to_each : ℕ → List ℕ → List ℕ → Letter → List ℕ
sent_to_each width table [] letter = table
sent_to_each width table (receiver ∷ receivers) letter = sent_to_each width (sent width table letter receiver) receivers letter

-- the bytes of a slot that is not empty; refused where there is no such slot, or an empty one
abbrev pub occupied : List ℕ → ℕ → Result (List ℕ) Refusal
occupied table slot = if nat_lt slot (slots table) && not (is_empty table slot) then Ok (slot_of table slot) else Err NoSlot

-- an answer, with the bytes that it borrows as they stand
abbrev pub as_it_stands : Result (Bor (List ℕ)) Refusal → Result (List ℕ) Refusal
as_it_stands (Ok bytes) = Ok bytes.now
as_it_stands (Err refusal) = Err refusal

-- What losing a frame answers, and the table that it leaves: its slot is all zeros.
abbrev pub lost : List ℕ → ℕ → Result (Unit {0}) Refusal × List ℕ
lost table slot = if nat_lt slot (slots table) && not (is_empty table slot) then (Ok tt, replaced table slot (replicate slot_size 0)) else (Err NoSlot, table)

-- What sending promises beside: the frame to the first receiver stands in the lowest empty slot, that to the second in the next, and so on, as far as there are empty slots;
abbrev pub InOrder : ℕ → List ℕ → List ℕ → Letter → List ℕ → Type 0
InOrder width before receivers letter after =
    (place : ℕ) → place < length receivers → place < empty_count before
    → slot_of after (slice_index (empty_slots before) place) ≡ bytes_of (addressed width letter (slice_index receivers place))

-- and every slot stays that is not among so many lowest empty ones, the bytes behind the last whole slot, and the table's length.
pub record OthersStay (before : List ℕ) (count : ℕ) (after : List ℕ) : Type 0 where
  pub slots_stay : (slot : ℕ) → among slot (take count (empty_slots before)) ≡ false → slot_of after slot ≡ slot_of before slot
  pub rest_stays : drop (slots before * slot_size) after ≡ drop (slots before * slot_size) before
  pub same_length : length after ≡ length before
