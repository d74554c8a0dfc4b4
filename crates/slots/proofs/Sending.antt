-- What sending a letter to each receiver makes of the table.
use Rattle.std.proofs.Common.{◌≡◌, ℕ, zero, suc, ◌*◌, ◌<◌, ◌⊎◌, true, false, eqb, List, [], ◌∷◌, length, take, drop, Some, Result, refl, ap, ◌∙◌, inl, inr, arith}
use Rattle.std.specs.List.{slice_index}
use Rattle.std.proofs.lemmas.Bool.{lt-ltb, cases_eq, cases_Bool}
use Rattle.std.proofs.Math.Seq.{take-nil}
use Rattle.std.proofs.lemmas.Bool.Decides.{nat_tests}
use Rattle.std.proofs.lemmas.List.{drop_all}
use Rattle.refusal.specs.declared.Refusal.{Refusal}
use Rattle.frame.specs.Bytes.{bytes_of, fits}
use Rattle.frame.specs.Fields.{among}
use Rattle.frame.specs.Limits.{slot_size}
use Rattle.frame.specs.Messages.{Said}
use Rattle.writer.specs.Table.{slots, slot_of, replaced, placed}
use Rattle.slots.specs.declared.letter.Letter.{Letter}
use Rattle.slots.specs.Letters.{addressed}
use Rattle.slots.specs.Slots.{is_empty, empty_slots, lowest_empty, sent, sent_to_each, InOrder, OthersStay}
use Rattle.slots.proofs.Replaced.{replaced_length, slot_replaced, others_stay, rest_stays}
use Rattle.slots.proofs.Filled.{frame_is_not_empty, first_is_a_slot, lowest_is_a_slot, others_left}

-- an answer, and the table after it
abbrev Outcome : Type 0
Outcome = Result (Unit {0}) Refusal × List ℕ

-- A letter placed in the lowest empty slot is sent: the table has that slot, so a message that fits is not refused.
pub sent_by_placing : (width : ℕ) (table after : List ℕ) (letter : Letter) (receiver slot : ℕ) (message : Said) (answer : Result (Unit {0}) Refusal) → lowest_empty table ≡ Some slot
    → message ≡ addressed width letter receiver → fits width message ≡ true → ◌≡◌ {A = Outcome} (answer, after) (placed width table slot message) → after ≡ sent width table letter receiver
sent_by_placing width table after letter receiver slot message answer lowest says fitting is =
    let below = lt-ltb slot (slots table) (lowest_is_a_slot table slot lowest) in
    rw (lowest, ← says) (ap (λ (outcome : Outcome). outcome.1) (simp (below, fitting) at is))

-- what one frame that is sent makes of the table
record OneSent (before after frame : List ℕ) : Type 0 where
  one_less : empty_slots after ≡ drop 1 (empty_slots before)
  each_slot : (slot : ℕ) → (slot_of after slot ≡ slot_of before slot) ⊎ ((is_empty before slot ≡ true) × (slot_of after slot ≡ frame))
  others_same : (slot : ℕ) → among slot (take 1 (empty_slots before)) ≡ false → slot_of after slot ≡ slot_of before slot
  lowest_holds_it : (slot : ℕ) (rest : List ℕ) → empty_slots before ≡ slot ∷ rest → slot_of after slot ≡ frame
  rest_same : drop (slots before * slot_size) after ≡ drop (slots before * slot_size) before
  same_length : length after ≡ length before

-- A letter's frames fill their slots, whomever they go to.
abbrev pub Fills : ℕ → Letter → Type 0
Fills width letter = (receiver : ℕ) → length (bytes_of (addressed width letter receiver)) ≡ slot_size

-- A slot after sending is as it was, or it was empty and holds the frame to one of the receivers.
abbrev pub SentOrSame : ℕ → List ℕ → List ℕ → Letter → List ℕ → ℕ → Type 0
SentOrSame width before receivers letter after slot =
    (slot_of after slot ≡ slot_of before slot)
    ⊎ ((is_empty before slot ≡ true) × ((place : ℕ) × ((place < length receivers) × (slot_of after slot ≡ bytes_of (addressed width letter (slice_index receivers place))))))

-- one more is left out
drop_next : (n : ℕ) (xs : List ℕ) → drop n (drop 1 xs) ≡ drop (suc n) xs
drop_next n [] = drop_all n [] (omega arith)
drop_next n (x ∷ xs) = refl

-- a letter whose frames fill their slots
module _ (width : ℕ) (letter : Letter) (fills : Fills width letter) where
  -- With no empty slot nothing is changed; else the lowest one holds the frame, which does not begin with 0, and the others are left.
  one_sent_at : (before : List ℕ) (receiver : ℕ) (empties : List ℕ) → empty_slots before ≡ empties → OneSent before (sent width before letter receiver) (bytes_of (addressed width letter receiver))
  one_sent_at before receiver [] none =
      let same : sent width before letter receiver ≡ before = rw none in
      rw same (record { one_less = rw none; each_slot = λ slot. inl refl; others_same = λ slot other. refl; lowest_holds_it = λ slot rest first. absurd (cc); rest_same = refl; same_length = refl })
  one_sent_at before receiver (lowest ∷ rest) first =
      let frame = bytes_of (addressed width letter receiver) in
      let is : sent width before letter receiver ≡ replaced before lowest frame = rw first in
      let (below, empty) = first_is_a_slot before lowest rest first in
      let whole = fills receiver in
      rw is (record {
        one_less = rw first (others_left before frame lowest rest first whole (frame_is_not_empty (addressed width letter receiver)));
        each_slot = λ slot. elim (cases_eq slot lowest) [ inl here ↦ rw here (inr (empty, slot_replaced before frame lowest below whole)) | inr other ↦ inl (others_stay before frame lowest below whole slot other) ];
        others_same = λ slot other. others_stay before frame lowest below whole slot (grind (arith, nat_tests, rw first at other));
        lowest_holds_it = λ slot others head. let same : slot ≡ lowest = cc in rw same (slot_replaced before frame lowest below whole);
        rest_same = rest_stays before frame lowest below whole;
        same_length = replaced_length before frame lowest below whole;
      })

  one_sent : (before : List ℕ) (receiver : ℕ) → OneSent before (sent width before letter receiver) (bytes_of (addressed width letter receiver))
  one_sent before receiver = one_sent_at before receiver (empty_slots before) refl

  -- no frame changes the length
  pub sent_length : (receivers before : List ℕ) → length (sent_to_each width before receivers letter) ≡ length before
  sent_length [] before = refl
  sent_length (receiver ∷ receivers) before =
      let one = one_sent before receiver in
      sent_length receivers (sent width before letter receiver) ∙ one.same_length

  -- no frame changes the bytes behind the last whole slot
  sent_rest : (receivers before : List ℕ) → let behind = slots before * slot_size in drop behind (sent_to_each width before receivers letter) ≡ drop behind before
  sent_rest [] before = refl
  sent_rest (receiver ∷ receivers) before =
      let one = one_sent before receiver in
      rw one.same_length at (sent_rest receivers (sent width before letter receiver)) ∙ one.rest_same

  -- each frame takes the first of the empty slots, and leaves the others
  pub left_empty : (receivers before : List ℕ) → empty_slots (sent_to_each width before receivers letter) ≡ drop (length receivers) (empty_slots before)
  left_empty [] before = refl
  left_empty (receiver ∷ receivers) before =
      let one = one_sent before receiver in
      left_empty receivers (sent width before letter receiver) ∙ ap (drop (length receivers)) one.one_less ∙ drop_next (length receivers) (empty_slots before)

  -- A later frame leaves a slot as an earlier one left it, or found it empty; and what is empty after a frame was empty before.
  pub sent_or_same : (receivers before : List ℕ) (slot : ℕ) → SentOrSame width before receivers letter (sent_to_each width before receivers letter) slot
  sent_or_same [] before slot = inl refl
  sent_or_same (receiver ∷ receivers) before slot =
      let one = one_sent before receiver in
      let found = one.each_slot slot in
      elim (sent_or_same receivers (sent width before letter receiver) slot) [
        | inl kept ↦ elim found [ inl same ↦ inl (kept ∙ same) | inr here ↦ inr (here.0, (0, (omega arith, kept ∙ here.1))) ]
        | inr later ↦ inr (elim found [ inl same ↦ rw same at later.0 | inr here ↦ here.0 ], (suc later.1.0, (omega arith, later.1.1.1)))
      ]

  -- only empty slots are changed
  frames_stay : (receivers before : List ℕ) (slot : ℕ) → is_empty before slot ≡ false → slot_of (sent_to_each width before receivers letter) slot ≡ slot_of before slot
  frames_stay receivers before slot frame = elim (sent_or_same receivers before slot) [ inl same ↦ same | inr empty ↦ absurd (cc (empty.0)) ]

  -- The first frame takes the first empty slot and stays there, and the next ones find the others.
  in_order_from : (receivers before empties : List ℕ) → empty_slots before ≡ empties → (place : ℕ) → place < length receivers → place < length empties
      → slot_of (sent_to_each width before receivers letter) (slice_index empties place) ≡ bytes_of (addressed width letter (slice_index receivers place))
  in_order_from [] before empties is place inside room = absurd (omega arith)
  in_order_from (receiver ∷ receivers) before [] is place inside room = absurd (omega arith)
  in_order_from (receiver ∷ receivers) before (slot ∷ rest) is zero inside room =
      let holds = (one_sent_at before receiver (slot ∷ rest) is).lowest_holds_it slot rest is in
      let frame : is_empty (sent width before letter receiver) slot ≡ false = rw holds (frame_is_not_empty (addressed width letter receiver)) in
      frames_stay receivers (sent width before letter receiver) slot frame ∙ holds
  in_order_from (receiver ∷ receivers) before (slot ∷ rest) is (suc place) inside room =
      let left = (one_sent_at before receiver (slot ∷ rest) is).one_less ∙ ap (drop 1) is in
      in_order_from receivers (sent width before letter receiver) rest left place (omega arith) (omega arith)

  pub sent_in_order : (receivers before : List ℕ) → InOrder width before receivers letter (sent_to_each width before receivers letter)
  sent_in_order receivers before = in_order_from receivers before (empty_slots before) refl

  -- A slot that is not among those taken is neither the one of the first frame nor one of the next.
  others_from : (receivers before empties : List ℕ) → empty_slots before ≡ empties → (slot : ℕ) → among slot (take (length receivers) empties) ≡ false
      → slot_of (sent_to_each width before receivers letter) slot ≡ slot_of before slot
  others_from [] before empties is slot other = refl
  others_from (receiver ∷ receivers) before [] is slot other =
      let one = one_sent_at before receiver [] is in
      others_from receivers (sent width before letter receiver) [] (one.one_less ∙ ap (drop 1) is) slot (rw (take-nil {A = ℕ} (length receivers)) refl) ∙ one.others_same slot (rw is refl)
  others_from (receiver ∷ receivers) before (lowest ∷ rest) is slot other =
      let one = one_sent_at before receiver (lowest ∷ rest) is in
      others_from receivers (sent width before letter receiver) rest (one.one_less ∙ ap (drop 1) is) slot (grind (arith, cases_Bool (eqb lowest slot), other)) ∙ one.others_same slot (rw is (grind (arith, cases_Bool (eqb lowest slot), other)))

  pub sent_keeps : (receivers before : List ℕ) → OthersStay before (length receivers) (sent_to_each width before receivers letter)
  sent_keeps receivers before = record {
    slots_stay = λ slot other. others_from receivers before (empty_slots before) refl slot other;
    rest_stays = sent_rest receivers before;
    same_length = sent_length receivers before;
  }
