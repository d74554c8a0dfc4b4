-- The lowest empty slot is the one that is found where none below it is empty.
use Rattle.std.proofs.Common.{◌≡◌, ℕ, zero, suc, ◌+◌, ◌-◌, ◌*◌, ◌<◌, ◌≤◌, Bool, true, false, List, [], length, get_or, eqb, filter, Some, None, inl, inr, refl, arith}
use borrow.Rule.Slice.PartMut.{put_mid}
use Rattle.std.proofs.lemmas.List.{drop-drop}
use Rattle.std.specs.List.{range_with_len, slice_get}
use Rattle.std.proofs.lemmas.Bool.{cases_eq}
use Rattle.frame.specs.Limits.{slot_size}
use Rattle.writer.specs.Table.{slots, replaced}
use Rattle.slots.specs.Slots.{is_empty, lowest_empty, NoneBelow}
use Rattle.slots.proofs.Replaced.{replaced_length, slot_replaced, others_stay}

-- The first number of a range that passes a test is the first that is let through.
first_at : (test : ℕ → Bool) (count first n : ℕ) → ((k : ℕ) → first ≤ k → k < n → test k ≡ false) → first ≤ n → n < first + count → test n ≡ true
    → slice_get (filter test (range_with_len first count)) 0 ≡ Some n
first_at test zero first n none from below passes = absurd (omega arith)
first_at test (suc count) first n none from below passes = elim (cases_eq first n) [
  | inl same ↦ let here : test first ≡ true = rw same passes in grind (arith, here, same)
  | inr other ↦
      let here : test first ≡ false = none first (omega arith) (omega arith) in
      let later = first_at test count (first + 1) n (λ k past under. none k (omega arith) under) (omega arith) (omega arith) passes in
      rw here later
]

-- Where no number of a range passes, none is let through.
none_at : (test : ℕ → Bool) (count first : ℕ) → ((k : ℕ) → first ≤ k → k < first + count → test k ≡ false) → filter test (range_with_len first count) ≡ []
none_at test zero first none = refl
none_at test (suc count) first none =
    let here : test first ≡ false = none first (omega arith) (omega arith) in
    rw here (none_at test count (first + 1) (λ k past under. none k (omega arith) (omega arith)))

pub lowest_at : (table : List ℕ) (slot : ℕ) → NoneBelow table slot → slot < slots table → is_empty table slot ≡ true → lowest_empty table ≡ Some slot
lowest_at table slot none below empty = first_at (is_empty table) (slots table) 0 slot (λ k past under. none k under (omega arith)) (omega arith) (omega arith) empty

pub none_empty : (table : List ℕ) (end : ℕ) → NoneBelow table end → slots table ≤ end → lowest_empty table ≡ None
none_empty table end none past = rw (none_at (is_empty table) (slots table) 0 (λ k from under. none k (omega arith) (omega arith))) refl

-- A frame written over the lowest empty slot leaves none empty up to it.
pub none_below_next : (table frame written : List ℕ) (slot : ℕ) → NoneBelow table slot → slot < slots table → written ≡ frame → length frame ≡ slot_size → eqb (get_or frame 0 0) 0 ≡ false
    → NoneBelow (put_mid (slot * slot_size) (slot * slot_size + slot_size - slot * slot_size) table written) (slot + 1)
none_below_next table frame written slot none below same whole begins k under inside =
    let start = slot * slot_size in
    let size : start + slot_size - start ≡ slot_size = omega arith in
    let is : put_mid start (start + slot_size - start) table written ≡ replaced table slot frame = rw (same, size, drop-drop slot_size start table) refl in
    let same_length = replaced_length table frame slot below whole in
    let still : k < slots table = rw (is, same_length) at inside in
    rw is (elim (cases_eq k slot) [
      | inl here ↦ rw (here, slot_replaced table frame slot below whole) begins
      | inr other ↦ rw (others_stay table frame slot below whole k other) (none k (omega arith) still)
    ])
