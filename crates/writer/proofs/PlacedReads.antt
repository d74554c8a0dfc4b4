-- What was placed is read back if it is lawful, else as a fault.
use Rattle.std.proofs.Common.{◌≡◌, ℕ, ◌+◌, ◌-◌, ◌*◌, ◌<◌, true, List, take, Ok, Option, Result, arith}
use borrow.Rule.Slice.PartMut.{put_mid}
use Rattle.std.proofs.lemmas.List.{drop_at, drop-drop, take_at, length-take-le}
use Rattle.std.proofs.lemmas.Bool.{lt-ltb}
use Rattle.std.proofs.lemmas.Bool.Decides.{nat_tests}
use Rattle.content.specs.Bytes.{AllBytes}
use Rattle.content.proofs.Slices.{part_is_bytes}
use Rattle.refusal.specs.declared.Refusal.{Refusal}
use Rattle.frame.specs.Bytes.{bytes_of, fits, WordsFit}
use Rattle.frame.specs.Lawful.{ReadsBack}
use Rattle.frame.specs.Limits.{slot_size}
use Rattle.frame.specs.Messages.{Said}
use Rattle.frame.proofs.Laws.{Laws}
use Rattle.frame.proofs.WrittenReads.{slot_reads_back, bytes_fill_a_slot}
use Rattle.writer.specs.Table.{slots, slot_of, replaced, placed}

-- an answer, and the table after it
abbrev Outcome : Type 0
Outcome = Result (Unit {0}) Refusal × List ℕ

-- a message that fits, written into a slot that there is
pub placed_so : (width : ℕ) (table written : List ℕ) (slot : ℕ) (message : Said) → slot < slots table → fits width message ≡ true → written ≡ bytes_of message
    → ◌≡◌ {A = Outcome} (Ok tt, put_mid (slot * slot_size) (slot * slot_size + slot_size - slot * slot_size) table written) (placed width table slot message)
placed_so width table written slot message below fitting same =
    let size : slot * slot_size + slot_size - slot * slot_size ≡ slot_size = omega arith in
    rw (lt-ltb slot (slots table) below, fitting, same, size, drop-drop slot_size (slot * slot_size) table)

-- so the slot is read as `ReadsBack` says
pub placed_reads_back : {C : Type 0} (width : ℕ) (meaning : C → List ℕ) (reads : List ℕ → Option C) → Laws width meaning reads → (table after : List ℕ) (slot : ℕ) (message : Said)
    (r : Result (Unit {0}) Refusal) → ◌≡◌ {A = Outcome} (r, after) (placed width table slot message) → WordsFit message → AllBytes after → r ≡ Ok tt → ReadsBack width meaning reads message (slot_of after slot)
placed_reads_back width meaning reads laws table after slot message r is small bytes taken =
    let (below, (fitting, left)) : (slot < slots table) × ((fits width message ≡ true) × (after ≡ replaced table slot (bytes_of message))) = grind (arith, nat_tests) in
    let before = length-take-le (slot * slot_size) table (omega arith) in
    let long = bytes_fill_a_slot width meaning reads laws message fitting in
    slot_reads_back width meaning reads laws message (slot_of after slot) fitting small (part_is_bytes (slot * slot_size) slot_size after bytes)
    (rw (left, drop_at (take (slot * slot_size) table) _ (slot * slot_size) before, take_at (bytes_of message) _ slot_size long))
