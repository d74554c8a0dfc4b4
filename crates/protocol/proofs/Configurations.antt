-- After a step the invariant still says what it says of configurations, and of the copies that were held out for them.
use Rattle.std.proofs.Common.{◌≡◌, ℕ, ◌*◌, ◌<◌, ◌≤◌, true, ◌⊎◌, inr, ⊎_elim, sym, ap, arith}
use mathlib.Core.Logic.{⊎_map}
use Rattle.protocol.specs.State.{Tag, Copy, Configuration, Setting, first_of}
use Rattle.protocol.proofs.History.{Request, WasAcknowledged, WasHeld, WasProposed, WasDecided, History, position, HeldBelow, NewHeld, NewProposal, NewDecision, Step}
use Rattle.protocol.proofs.Invariant.{LeftBelow, SoundProposal, SoundHeld, Invariant}
use Rattle.protocol.proofs.Lasting.{quorum_map, genuine_lasts, old_or_new, old_or_new_or_same, acknowledged_before}

module _ {setting : Setting} {h h' : History} (invariant : Invariant setting h) (step : Step setting h h') where
  -- A new decision is under a number that none was decided under.
  pub one_for_each_number_kept : (one other : Configuration) → h'.known (WasDecided one) → h'.known (WasDecided other) → one.number ≡ other.number → one ≡ other
  one_for_each_number_kept one other decided decided_other same_number =
      old_or_new_or_same step (WasDecided one) (WasDecided other) decided decided_other
      (λ old old_other. invariant.one_for_each_number one other old old_other same_number)
      (λ old (new : NewDecision h other). absurd (new.none_yet one old same_number))
      (λ (new : NewDecision h one) old. absurd (new.none_yet other old (sym same_number)))
      (λ same. cc)

  -- A new decision is of something proposed.
  pub decided_was_proposed_kept : (configuration : Configuration) → h'.known (WasDecided configuration) → (configuration ≡ first_of setting) ⊎ h'.known (WasProposed configuration)
  decided_was_proposed_kept configuration decided =
      ⊎_map (λ first. first) (step.grows (WasProposed configuration))
      (⊎_elim (invariant.decided_was_proposed configuration) (λ (new : NewDecision h configuration). inr new.proposed) (old_or_new step (WasDecided configuration) decided))

  -- A node acknowledges nothing new under a number that it has left behind.
  left_below_lasts : {number : ℕ} {tag : Tag} (node : ℕ) → LeftBelow h number tag node → LeftBelow h' number tag node
  left_below_lasts {number} {tag} node left = record { past = past; below = below }
    where
      past : 2 * number < position (h'.nodes node)
      past = omega (arith, left.past, (step.node node).position_grows)

      below : (write : Request) → h'.known (WasAcknowledged write node) → write.writes ≡ true → write.configuration.number ≡ number → write.copy.tag ≤ tag
      below write acknowledged writes under = left.below write (acknowledged_before step write node (omega (arith, under, past)) acknowledged) writes under

  -- All that it says lasts.
  sound_proposal_lasts : (next : Configuration) → SoundProposal setting h next → SoundProposal setting h' next
  sound_proposal_lasts next old =
      record {
        previous = old.previous;
        decided = step.grows (WasDecided old.previous) old.decided;
        follows = old.follows;
        opening_grows = old.opening_grows;
        genuine = genuine_lasts step.grows setting old.genuine;
        left = quorum_map left_below_lasts old.left;
      }

  -- Who held out a copy has acknowledged no write of that number above it, so none above the proposed one.
  new_proposal_is_sound : (next : Configuration) → NewProposal setting h next → SoundProposal setting h next
  new_proposal_is_sound next new =
      record {
        previous = new.previous;
        decided = new.decided;
        follows = new.follows;
        opening_grows = new.above_opening;
        genuine = new.genuine;
        left = quorum_map left new.held;
      }
    where
      left : (node : ℕ) → HeldBelow h new.previous next.copy.tag node → LeftBelow h new.previous.number next.copy.tag node
      left node held =
          let sound = invariant.held new.previous node held.copy held.held in
          record { past = sound.left.past; below = λ write acknowledged writes under. omega (arith, held.below, sound.left.below write acknowledged writes under) }

  -- So a proposal is sound before the step, be it old or new, and stays so.
  pub proposals_kept : (next : Configuration) → h'.known (WasProposed next) → SoundProposal setting h' next
  proposals_kept next proposed =
      sound_proposal_lasts next (⊎_elim (invariant.proposals next) (new_proposal_is_sound next) (old_or_new step (WasProposed next) proposed))

  -- All that it says lasts.
  sound_held_lasts : (configuration : Configuration) (node : ℕ) (copy : Copy) → SoundHeld setting h configuration node copy → SoundHeld setting h' configuration node copy
  sound_held_lasts configuration node copy old =
      record { above_opening = old.above_opening; genuine = genuine_lasts step.grows setting old.genuine; left = left_below_lasts node old.left }

  -- A node holds out what it has stored, which is no lower than what it has acknowledged; and it has left its configuration.
  new_held_is_sound : (configuration : Configuration) (node : ℕ) (copy : Copy) → NewHeld h h' configuration node copy → SoundHeld setting h' configuration node copy
  new_held_is_sound configuration node copy new =
      let sound = invariant.nodes node in
      record {
        above_opening = omega (arith, ap (λ c. c.copy.tag) new.under, ap (λ c. c.tag) new.stored, sound.stored_above_opening);
        genuine = rw new.stored (genuine_lasts step.grows setting sound.stored_genuine);
        left = record { past = new.past; below = below };
      }
    where
      below : (write : Request) → h'.known (WasAcknowledged write node) → write.writes ≡ true → write.configuration.number ≡ configuration.number → write.copy.tag ≤ copy.tag
      below write acknowledged writes under =
          let before = acknowledged_before step write node (omega (arith, under, new.past)) acknowledged in
          omega (arith, (invariant.acks write node before).stored writes, ap (λ c. c.tag) new.stored)

  -- An old copy stays sound, and a new one is.
  pub held_kept : (configuration : Configuration) (node : ℕ) (copy : Copy) → h'.known (WasHeld configuration node copy) → SoundHeld setting h' configuration node copy
  held_kept configuration node copy held =
      ⊎_elim (λ old. sound_held_lasts configuration node copy (invariant.held configuration node copy old)) (new_held_is_sound configuration node copy)
      (old_or_new step (WasHeld configuration node copy) held)
