-- Sending under way: what holds after each frame, and what it gives at the end.
use Rattle.std.proofs.Common.{◌≡◌, ℕ, ◌<◌, ◌≤◌, List, [], ◌∷◌, length, drop, sym, ◌∙◌, refl, arith}
use Rattle.std.proofs.lemmas.List.{at_drop_all}
use Rattle.slots.specs.declared.letter.Letter.{Letter}
use Rattle.slots.specs.Slots.{sent_to_each, empty_slots, InOrder, OthersStay}
use Rattle.slots.proofs.Sending.{Fills, left_empty, sent_in_order, sent_keeps}

-- Sending to those from place i on gives what sending to all does; and once a frame was sent, each is known to fill its slot.
pub record UnderWay (width : ℕ) (before receivers : List ℕ) (letter : Letter) (i : ℕ) (now : List ℕ) : Type 0 where
  pub left : sent_to_each width now (drop i receivers) letter ≡ sent_to_each width before receivers letter
  pub filled : 0 < i → Fills width letter

-- with no receiver nothing is changed, and with one the letter fills its slots
kept : (width : ℕ) (letter : Letter) (receivers before : List ℕ) → (0 < length receivers → Fills width letter) → OthersStay before (length receivers) (sent_to_each width before receivers letter)
kept width letter [] before filled = record { slots_stay = λ slot other. refl; rest_stays = refl; same_length = refl }
kept width letter (receiver ∷ receivers) before filled = sent_keeps width letter (filled (omega arith)) (receiver ∷ receivers) before

-- the same of the slots that are left empty
left_after : (width : ℕ) (letter : Letter) (receivers before : List ℕ) → (0 < length receivers → Fills width letter)
    → empty_slots (sent_to_each width before receivers letter) ≡ drop (length receivers) (empty_slots before)
left_after width letter [] before filled = refl
left_after width letter (receiver ∷ receivers) before filled = left_empty width letter (filled (omega arith)) (receiver ∷ receivers) before

-- the end, where place i is behind the last receiver
module _ {width : ℕ} {before receivers : List ℕ} {letter : Letter} {i : ℕ} {now : List ℕ} (so_far : UnderWay width before receivers letter i now) (past : length receivers ≤ i) where
  -- none are left to send to
  all_sent : now ≡ sent_to_each width before receivers letter
  all_sent = sym (at_drop_all (λ rest. sent_to_each width now rest letter) receivers i past) ∙ so_far.left

  pub all_in_order : InOrder width before receivers letter now
  all_in_order place inside room =
      let filled = so_far.filled (omega arith) in
      rw all_sent (sent_in_order width letter filled receivers before place inside room)

  pub all_left_empty : empty_slots now ≡ drop (length receivers) (empty_slots before)
  all_left_empty = rw all_sent (left_after width letter receivers before (λ some. so_far.filled (omega arith)))

  pub all_kept : OthersStay before (length receivers) now
  all_kept = rw all_sent (kept width letter receivers before (λ some. so_far.filled (omega arith)))
