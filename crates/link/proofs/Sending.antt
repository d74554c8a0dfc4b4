-- What can be read of a frame table after frames were sent, and after one was lost.
use Rattle.std.proofs.Common.{◌≡◌, ℕ, ◌<◌, ◌⊎◌, true, List, [], ◌∷◌, length, replicate, Ok, Option, refl, inl, inr, arith}
use Rattle.std.specs.List.{slice_index}
use Rattle.std.proofs.lemmas.Bool.{cases_eq}
use Rattle.frame.specs.declared.message.Head.{Head}
use Rattle.frame.specs.Bytes.{fits}
use Rattle.frame.specs.Fields.{byte_at}
use Rattle.frame.specs.Lawful.{Lawful}
use Rattle.frame.specs.Limits.{slot_size}
use Rattle.frame.specs.Messages.{Said, reading}
use Rattle.frame.proofs.Laws.{Laws}
use Rattle.frame.proofs.Passing.{told_from_read}
use Rattle.frame.proofs.WrittenReads.{bytes_fill_a_slot, lawful_fits, written_reads_back}
use Rattle.writer.specs.Table.{slots, slot_of, replaced}
use Rattle.slots.specs.declared.letter.Body.{Body}
use Rattle.slots.specs.declared.letter.Body.TheVariants.{Get}
use Rattle.slots.specs.declared.letter.Letter.{Letter}
use Rattle.slots.specs.Letters.{said, addressed}
use Rattle.slots.specs.Slots.{sent_to_each}
use Rattle.slots.proofs.Replaced.{slot_replaced, others_stay}
use Rattle.slots.proofs.Sending.{Fills, sent_or_same}

-- Nothing is read of a slot that begins with 0: no kind has that number.
pub nothing_read : {C : Type 0} (width : ℕ) (reads : List ℕ → Option C) (slot : List ℕ) (message : Said) → byte_at slot 0 ≡ 0 → reading width reads slot ≡ Ok message → ⊥
nothing_read width reads slot message zero is =
    let (kind, (holds, tells)) = told_from_read width reads slot message is in
    cc (rw zero at holds.first)

-- So nothing is read of a slot of zeros, and of the other slots what was read before.
pub read_before_loss : {C : Type 0} (width : ℕ) (reads : List ℕ → Option C) (frames : List ℕ) (slot other : ℕ) (message : Said) → slot < slots frames
    → reading width reads (slot_of (replaced frames slot (replicate slot_size 0)) other) ≡ Ok message → reading width reads (slot_of frames other) ≡ Ok message
read_before_loss width reads frames slot other message below is =
    let zeros : List ℕ = replicate slot_size 0 in
    elim (cases_eq other slot) [
      | inl same ↦ absurd (nothing_read width reads zeros message refl (rw (same, slot_replaced frames zeros slot below refl) at is))
      | inr apart ↦ rw (others_stay frames zeros slot below refl other apart) at is
    ]

-- whether the parts of a letter have their lengths, whomever it goes to
same_fit : (width : ℕ) (head other : Head) (body : Body) → fits width (said width head body) ≡ true → fits width (said width other body) ≡ true
same_fit width head other (Get operation) fit = fit
same_fit width head other body fit = fit

module _ {C : Type 0} (width : ℕ) (meaning : C → List ℕ) (reads : List ℕ → Option C) (laws : Laws width meaning reads) where
  -- a letter that is lawful to one receiver fills a slot, whomever it goes to
  letter_fills : (letter : Letter) (receiver : ℕ) → Lawful meaning (addressed width letter receiver) → Fills width letter
  letter_fills letter receiver lawful other =
      bytes_fill_a_slot width meaning reads laws (addressed width letter other)
      (same_fit width _ _ letter.body (lawful_fits width meaning reads laws (addressed width letter receiver) lawful))

  -- What is read after sending was read before, or is the letter to one of the receivers.
  pub sent_under_way : (frames receivers : List ℕ) (letter : Letter) (slot : ℕ) (message : Said)
      → ((place : ℕ) → place < length receivers → Lawful meaning (addressed width letter (slice_index receivers place)))
      → reading width reads (slot_of (sent_to_each width frames receivers letter) slot) ≡ Ok message
      → (reading width reads (slot_of frames slot) ≡ Ok message) ⊎ ((place : ℕ) × (place < length receivers) × (message ≡ addressed width letter (slice_index receivers place)))
  sent_under_way frames [] letter slot message lawful is = inl is
  sent_under_way frames (receiver ∷ receivers) letter slot message lawful is =
      elim (sent_or_same width letter (letter_fills letter receiver (lawful 0 (omega arith))) (receiver ∷ receivers) frames slot) [
        | inl same ↦ inl (rw same at is)
        | inr (empty, (place, (inside, holds))) ↦ inr (place, inside, cc (written_reads_back width meaning reads laws _ (lawful place inside)))
      ]
