-- What a frame in the lowest empty slot leaves empty.
use Rattle.std.proofs.Common.{◌≡◌, ◌≢◌, ℕ, zero, suc, ◌+◌, ◌<◌, ◌≤◌, Bool, true, false, eqb, List, [], ◌∷◌, length, get_or, drop, filter, Some, refl, arith}
use Rattle.std.specs.List.{range_with_len, slice_get}
use Rattle.std.proofs.lemmas.Bool.{cases_Bool}
use Rattle.frame.specs.Bytes.{bytes_of}
use Rattle.frame.specs.Limits.{slot_size}
use Rattle.frame.specs.Messages.{Said}
use Rattle.writer.specs.Table.{slots, replaced}
use Rattle.slots.specs.Slots.{is_empty, empty_slots, lowest_empty}
use Rattle.slots.proofs.Replaced.{replaced_length, slot_replaced, others_stay}

-- a frame's first byte is its kind's number, so never 0
pub frame_is_not_empty : (message : Said) → eqb (get_or (bytes_of message) 0 0) 0 ≡ false
frame_is_not_empty message = grind arith

-- Tests that agree from the first number on let the same numbers through.
same_pass : (test other : ℕ → Bool) (count first : ℕ) → ((n : ℕ) → first ≤ n → other n ≡ test n) → filter other (range_with_len first count) ≡ filter test (range_with_len first count)
same_pass test other zero first agree = refl
same_pass test other (suc count) first agree =
    let later = same_pass test other count (first + 1) (λ n past. agree n (omega arith)) in
    let here = agree first (omega arith) in
    rw (here, later)

-- The first number let through is of the range, and passes: it is the first of all, or the first of the others.
first_passes : (test : ℕ → Bool) (count first n : ℕ) (rest : List ℕ) → filter test (range_with_len first count) ≡ n ∷ rest → ((first ≤ n) × (n < first + count)) × (test n ≡ true)
first_passes test zero first n rest is = absurd (cc)
first_passes test (suc count) first n rest is = grind (arith, cases_Bool (test first), first_passes test count (first + 1) n rest)

-- Where that number passes no more, the others are left: those before it did not pass, and those behind it are tested as before.
rest_passes : (test other : ℕ → Bool) (count first n : ℕ) (rest : List ℕ) → filter test (range_with_len first count) ≡ n ∷ rest
    → ((k : ℕ) → k ≢ n → other k ≡ test k) → other n ≡ false → filter other (range_with_len first count) ≡ rest
rest_passes test other zero first n rest is agree gone = absurd (cc)
rest_passes test other (suc count) first n rest is agree gone =
    let later = rest_passes test other count (first + 1) n rest in
    let past = first_passes test count (first + 1) n rest in
    let same : n ≡ first → filter other (range_with_len (first + 1) count) ≡ filter test (range_with_len (first + 1) count) = λ here.
    same_pass test other count (first + 1) (λ k past. agree k (omega arith)) in
    grind (arith, cases_Bool (test first), later, same, past, agree first)

-- a list whose element at place 0 is known
head_is_first : (xs : List ℕ) (x : ℕ) → slice_get xs 0 ≡ Some x → xs ≡ x ∷ drop 1 xs
head_is_first [] x is = absurd (cc)
head_is_first (y ∷ ys) x is = cc

-- the first of the empty slots is a slot, and empty
pub first_is_a_slot : (table : List ℕ) (slot : ℕ) (rest : List ℕ) → empty_slots table ≡ slot ∷ rest → (slot < slots table) × (is_empty table slot ≡ true)
first_is_a_slot table slot rest first =
    let passes = first_passes (is_empty table) (slots table) 0 slot rest first in
    (omega arith, passes.1)

-- the lowest empty slot is the first of them
pub lowest_is_a_slot : (table : List ℕ) (slot : ℕ) → lowest_empty table ≡ Some slot → slot < slots table
lowest_is_a_slot table slot is = (first_is_a_slot table slot (drop 1 (empty_slots table)) (head_is_first (empty_slots table) slot is)).0

-- Where bytes that do not begin with 0 are put into the lowest empty slot, the other empty slots are left: this one is empty no more, and every other is as before.
pub others_left : (table bytes : List ℕ) (slot : ℕ) (rest : List ℕ) → empty_slots table ≡ slot ∷ rest → length bytes ≡ slot_size → eqb (get_or bytes 0 0) 0 ≡ false
    → empty_slots (replaced table slot bytes) ≡ rest
others_left table bytes slot rest first whole frame =
    let (below, _) = first_is_a_slot table slot rest first in
    let after = replaced table slot bytes in
    let stands : is_empty after slot ≡ false = rw (slot_replaced table bytes slot below whole) frame in
    let agree : (k : ℕ) → k ≢ slot → is_empty after k ≡ is_empty table k = λ k different. rw (others_stay table bytes slot below whole k different) in
    rw (replaced_length table bytes slot below whole) (rest_passes (is_empty table) (is_empty after) (slots table) 0 slot rest first agree stands)
