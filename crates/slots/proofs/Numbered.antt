-- The slots of a table, as code cuts it, are its slots by their numbers; so counting and finding the empty ones there is what the definitions say.
use Rattle.std.proofs.Common.{◌≡◌, ℕ, zero, suc, ◌+◌, ◌-◌, ◌*◌, ◌<◌, ◌≤◌, Bool, true, false, cond, eqb, ltb, List, [], ◌∷◌, length, map, get_or, drop, filter, Some, None, refl, arith}
use Rattle.std.specs.List.{range_with_len, position, position_or_len, slice_get}
use Rattle.std.specs.Simd.{first_chunks}
use Rattle.std.proofs.lemmas.List.{drop-drop}
use Rattle.std.proofs.lemmas.List.FromFn.{length-map-range_with_len}
use Rattle.std.proofs.lemmas.Bool.{cases_Bool}
use Rattle.std.proofs.lemmas.Bool.Decides.{nat_tests}
use Rattle.frame.specs.Limits.{slot_size}
use Rattle.writer.specs.Table.{slots, slot_of}
use Rattle.slots.specs.Slots.{is_empty, empty_count, lowest_empty}

-- the table cut into slots
abbrev pub chunks : List ℕ → List (List ℕ)
chunks table = first_chunks slot_size (slots table) table

-- whether a slot's first byte is 0
abbrev pub begins_zero : List ℕ → Bool
begins_zero bytes = eqb (get_or bytes 0 0) 0

-- So many slots from a first one on. The cut behind a slot is the cut before the next.
chunks_are_numbered : (table : List ℕ) (count first : ℕ) → first_chunks slot_size count (drop (first * slot_size) table) ≡ map (slot_of table) (range_with_len first count)
chunks_are_numbered table zero first = refl
chunks_are_numbered table (suc count) first =
    let next : first * slot_size + slot_size ≡ (first + 1) * slot_size = omega arith in
    rw (drop-drop slot_size (first * slot_size) table, next, chunks_are_numbered table count (first + 1))

chunks_are_slots : (table : List ℕ) → chunks table ≡ map (slot_of table) (range_with_len 0 (slots table))
chunks_are_slots table = chunks_are_numbered table (slots table) 0

-- as many values pass a test as there are arguments whose value does
as_many_pass : {X Y : Type 0} (test : Y → Bool) (f : X → Y) (xs : List X) → length (filter test (map f xs)) ≡ length (filter (λ x. test (f x)) xs)
as_many_pass test f [] = refl
as_many_pass test f (x ∷ xs) = grind (arith, cases_Bool (test (f x)), as_many_pass test f xs)

-- The first number whose value passes is as far from the first of all as the first value that passes stands among the values.
first_to_pass : {Y : Type 0} (test : Y → Bool) (f : ℕ → Y) (count first : ℕ) → let place = position_or_len test (map f (range_with_len first count))
    in slice_get (filter (λ n. test (f n)) (range_with_len first count)) 0 ≡ cond (ltb place count) (Some (first + place)) None
first_to_pass test f zero first = refl
first_to_pass test f (suc count) first = grind (arith, nat_tests, cases_Bool (test (f first)), first_to_pass test f count (first + 1))

pub count_in_chunks : (table : List ℕ) → length (filter begins_zero (chunks table)) ≡ empty_count table
count_in_chunks table = rw chunks_are_slots (as_many_pass begins_zero (slot_of table) (range_with_len 0 (slots table)))

pub first_in_chunks : (table : List ℕ) → position begins_zero (chunks table) ≡ lowest_empty table
first_in_chunks table =
    let place = position_or_len begins_zero (map (slot_of table) (range_with_len 0 (slots table))) in
    let from_start : 0 + place ≡ place = omega arith in
    rw (chunks_are_slots, length-map-range_with_len, first_to_pass begins_zero (slot_of table) (slots table) 0, from_start)

-- how many slots are empty from one on
abbrev pub empty_from : List ℕ → ℕ → ℕ
empty_from table slot = length (filter (is_empty table) (range_with_len slot (slots table - slot)))

-- one that is empty is counted, and then those behind it
pub counted_here : (table : List ℕ) (slot : ℕ) → slot < slots table → is_empty table slot ≡ true → empty_from table slot ≡ suc (empty_from table (slot + 1))
counted_here table slot below empty = let more : slots table - slot ≡ suc (slots table - (slot + 1)) = omega arith in rw (more, empty) refl

-- one that is not is passed over
pub passed_here : (table : List ℕ) (slot : ℕ) → slot < slots table → is_empty table slot ≡ false → empty_from table slot ≡ empty_from table (slot + 1)
passed_here table slot below full = let more : slots table - slot ≡ suc (slots table - (slot + 1)) = omega arith in rw (more, full) refl

-- none stands behind the last
pub none_behind : (table : List ℕ) (slot : ℕ) → slots table ≤ slot → empty_from table slot ≡ 0
none_behind table slot past = let none : slots table - slot ≡ 0 = omega arith in rw none refl
