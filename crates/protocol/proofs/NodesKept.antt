-- After a step the invariant still says what it says of nodes.
use Rattle.std.proofs.Common.{◌≡◌, ℕ, ◌≤◌, ◌⊎◌, inl, inr, ⊎_elim, refl, sym, ◌∙◌, ap, arith}
use mathlib.Core.Logic.{⊎_map}
use Rattle.protocol.specs.State.{Configuration, Setting, version_of}
use Rattle.protocol.proofs.History.{WasDecided, History, Genuine, AnsweredWrite, OwnAnswer, Stays, Joins, Step}
use Rattle.protocol.proofs.Invariant.{SoundNode, Invariant}
use Rattle.protocol.proofs.Lasting.{genuine_lasts, answered_write_lasts, decided_is_genuine}

-- what the invariant says of the copy that a node serves
record SoundServed (setting : Setting) (h : History) (node : ℕ) : Type 0 where
  genuine : Genuine setting h (h.nodes node).served
  above_opening : (h.joined node).copy.tag ≤ (h.nodes node).served.tag
  below_newest : version_of (h.nodes node).served.tag ≤ (h.nodes node).newest
  was_answered : ((h.nodes node).served.tag ≡ (h.joined node).copy.tag) ⊎ AnsweredWrite h (h.joined node).number (h.nodes node).served.tag

module _ {setting : Setting} {h h' : History} (invariant : Invariant setting h) (step : Step setting h h') (node : ℕ) where
  -- The node stays, and serves what it served.
  unchanged_served_is_sound : Stays h h' node → (h'.nodes node).served ≡ (h.nodes node).served → SoundServed setting h' node
  unchanged_served_is_sound stays same = record { genuine = genuine; above_opening = above_opening; below_newest = below_newest; was_answered = was_answered }
    where
      old : SoundNode setting h node
      old = invariant.nodes node

      genuine : Genuine setting h' (h'.nodes node).served
      genuine = rw same (genuine_lasts step.grows setting old.served_genuine)

      above_opening : (h'.joined node).copy.tag ≤ (h'.nodes node).served.tag
      above_opening = omega (arith, ap (λ c. c.copy.tag) stays.joined, old.served_above_opening, stays.served_grows)

      below_newest : version_of (h'.nodes node).served.tag ≤ (h'.nodes node).newest
      below_newest = omega (arith, ap (λ c. c.tag) same, old.served_below_newest, (step.node node).newest_grows)

      was_answered : ((h'.nodes node).served.tag ≡ (h'.joined node).copy.tag) ⊎ AnsweredWrite h' (h'.joined node).number (h'.nodes node).served.tag
      was_answered = rw (same, stays.joined) (⊎_map (λ opening. opening) (answered_write_lasts step.grows) old.served_was_answered)

  -- The node stays, and serves a write of its own that was answered: the node gave out its version.
  answered_write_is_sound : Stays h h' node → OwnAnswer h h' node (h'.nodes node).served → SoundServed setting h' node
  answered_write_is_sound stays serves =
      record {
        genuine = genuine_lasts step.grows setting (inr (serves.write, serves.written));
        above_opening = omega (arith, ap (λ c. c.copy.tag) stays.joined, (invariant.nodes node).served_above_opening, stays.served_grows);
        below_newest = below_newest;
        was_answered =
            inr
            (record {
              write = serves.write;
              copy = (h'.nodes node).served;
              moment = serves.moment;
              answered = serves.answered;
              writes = serves.written.writes;
              under = serves.under ∙ sym (ap (λ c. c.number) stays.joined);
              same = refl;
            });
      }
    where
      below_newest : version_of (h'.nodes node).served.tag ≤ (h'.nodes node).newest
      below_newest =
          let sound = (invariant.requests serves.write serves.written.started).write serves.written.writes in
          omega (arith, ap (λ c. c.tag) serves.written.same, sound.given_out, ap (λ n. (h.nodes n).newest) serves.at, (step.node node).newest_grows)

  -- The node joins a configuration, and serves the copy that this opens with.
  joined_served_is_sound : (next : Configuration) → Joins h h' node next → SoundServed setting h' node
  joined_served_is_sound next joins =
      record {
        genuine = rw joins.served (genuine_lasts step.grows setting (decided_is_genuine setting h invariant next joins.decided));
        above_opening = omega (arith, joined, served);
        below_newest = omega (arith, served, joins.newest);
        was_answered = inl (omega (arith, joined, served));
      }
    where
      joined : (h'.joined node).copy.tag ≡ next.copy.tag
      joined = ap (λ c. c.copy.tag) joins.joined

      served : (h'.nodes node).served.tag ≡ next.copy.tag
      served = ap (λ c. c.tag) joins.served

  -- A node keeps its stored copy, or takes a genuine one.
  stored_is_genuine : Genuine setting h' (h'.nodes node).stored
  stored_is_genuine =
      ⊎_elim (λ same. rw same (genuine_lasts step.grows setting (invariant.nodes node).stored_genuine)) (genuine_lasts step.grows setting) (step.node node).stored

  -- What is left to show of each node: its configuration, and the copy that it serves.
  sound_node : h'.known (WasDecided (h'.joined node)) → (h'.joined node).copy.tag ≤ (h'.nodes node).stored.tag → SoundServed setting h' node → SoundNode setting h' node
  sound_node decided above_opening served =
      record {
        decided = decided;
        matches = (step.node node).matches;
        stored_genuine = stored_is_genuine;
        served_genuine = served.genuine;
        stored_above_opening = above_opening;
        served_above_opening = served.above_opening;
        served_below_newest = served.below_newest;
        served_was_answered = served.was_answered;
      }

  -- A node stays in a decided configuration, or joins one with a stored copy no lower than the opening one.
  pub nodes_kept : SoundNode setting h' node
  nodes_kept = go (step.node node).move
    where
      go : Stays h h' node ⊎ ((next : Configuration) × Joins h h' node next) → SoundNode setting h' node
      go (inl stays) =
          let old = invariant.nodes node in
          sound_node (rw stays.joined (step.grows (WasDecided (h.joined node)) old.decided))
          (omega (arith, ap (λ c. c.copy.tag) stays.joined, old.stored_above_opening, (step.node node).stored_grows))
          (⊎_elim (unchanged_served_is_sound stays) (answered_write_is_sound stays) stays.served)
      go (inr (next, joins)) =
          sound_node (rw joins.joined (step.grows (WasDecided next) joins.decided))
          (omega (arith, ap (λ c. c.copy.tag) joins.joined, joins.stored))
          (joined_served_is_sound next joins)
