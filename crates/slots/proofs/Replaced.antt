-- What a table holds of which one slot's bytes were replaced.
use Rattle.std.proofs.Common.{◌≡◌, ◌≢◌, ℕ, ◌+◌, ◌-◌, ◌*◌, ◌<◌, ◌≤◌, List, length, take, drop, replicate, sym, ap, ◌∙◌, inl, inr, arith}
use borrow.Rule.Slice.PartMut.{put_mid}
use Rattle.std.proofs.lemmas.Bool.{cases_order}
use Rattle.std.proofs.lemmas.List.{drop-drop, drop-take, drop_at, take_at, length-append, length-take, length-take-le, length-drop}
use Rattle.std.proofs.lemmas.Slice.{take-put_mid_below, drop-put_mid}
use Rattle.frame.specs.Limits.{slot_size}
use Rattle.writer.specs.Table.{slots, slot_of, replaced}

-- As many zeros as the slot's part of the table is long, written to it, leave zeros in the slot.
pub zeros_written : (table part : List ℕ) (slot : ℕ) → slot < slots table → let start = slot * slot_size in
    part ≡ replicate (length (take (start + slot_size - start) (drop start table))) 0 → put_mid start (start + slot_size - start) table part ≡ replaced table slot (replicate slot_size 0)
zeros_written table part slot below zeros =
    let start = slot * slot_size in
    let size : start + slot_size - start ≡ slot_size = omega arith in
    let long : length (take slot_size (drop start table)) ≡ slot_size = simp (length-take, length-drop) (omega arith) in
    rw (zeros, size, long, drop-drop slot_size start table)

-- a slot of the table, and as many bytes as a slot has
module _ (table bytes : List ℕ) (slot : ℕ) (below : slot < slots table) (whole : length bytes ≡ slot_size) where
  -- the table is at least as long as what stands before the slot
  length_before : length (take (slot * slot_size) table) ≡ slot * slot_size
  length_before = length-take-le (slot * slot_size) table (omega arith)

  -- in the words of the lemmas on a write to a part of a list
  replaced_is : replaced table slot bytes ≡ put_mid (slot * slot_size) slot_size table bytes
  replaced_is = rw (drop-drop slot_size (slot * slot_size) table)

  -- nothing behind the slot is changed
  same_behind : (place : ℕ) → slot * slot_size + slot_size ≤ place → drop place (replaced table slot bytes) ≡ drop place table
  same_behind place past = rw replaced_is (drop-put_mid (slot * slot_size) slot_size table bytes place past (omega arith) whole)

  -- the bytes in the slot are as many as before
  pub replaced_length : length (replaced table slot bytes) ≡ length table
  replaced_length =
      let before = length_before in
      simp (length-append, length-drop) (omega arith)

  -- what stands before the slot is as long as before
  pub slot_replaced : slot_of (replaced table slot bytes) slot ≡ bytes
  slot_replaced = rw (drop_at (take (slot * slot_size) table) _ (slot * slot_size) length_before, take_at bytes _ slot_size whole)

  -- Another slot ends before this one begins, or begins behind its end.
  pub others_stay : (other : ℕ) → other ≢ slot → slot_of (replaced table slot bytes) other ≡ slot_of table other
  others_stay other different =
      let first = other * slot_size in
      let front : other < slot → take (first + slot_size) (replaced table slot bytes) ≡ take (first + slot_size) table = λ before.
      rw replaced_is (take-put_mid_below (slot * slot_size) slot_size table bytes (first + slot_size) (omega arith) (omega arith)) in
      elim (cases_order other slot) [
        | inl same ↦ absurd (different same)
        | inr (inl before) ↦ sym (drop-take first slot_size _) ∙ ap (drop first) (front before) ∙ drop-take first slot_size table
        | inr (inr after) ↦ ap (take slot_size) (same_behind first (omega arith))
      ]

  -- Bytes behind the last whole slot lie behind this slot.
  pub rest_stays : drop (slots table * slot_size) (replaced table slot bytes) ≡ drop (slots table * slot_size) table
  rest_stays = same_behind (slots table * slot_size) (omega arith)
