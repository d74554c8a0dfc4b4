-- What a move makes of a node is a step: the node keeps its place, or it joins a configuration.
use Rattle.std.proofs.Common.{◌≡◌, ℕ, ◌<◌, ◌≤◌, Bool, true, false, nat_lt, ◌⊎◌, sym, refl, ap, ◌∙◌, subst, subst₂, inl, inr, arith, ltb-false, ltb-true}
use Rattle.protocol.specs.State.{Copy, newer, Configuration, Node, Idle, Setting}
use Rattle.protocol.specs.Conditions.{MayJoin}
use Rattle.protocol.specs.Changes.{frozen, joining}
use Rattle.protocol.proofs.Lasting.{off_duty_at_most_1}
use Rattle.protocol.proofs.History.{WasDecided, History, off_duty, position, Genuine, Matches, OwnAnswer, NodeStep}

-- the newer of two copies is one of them, by their tags
abbrev pub NewerIs : Copy → Copy → Type 0
NewerIs old new = ((newer old new ≡ old) × (new.tag ≤ old.tag)) ⊎ ((newer old new ≡ new) × (old.tag < new.tag))

pub newer_is : (old new : Copy) → NewerIs old new
newer_is old new = go (nat_lt old.tag new.tag) refl
  where
    go : (lower : Bool) → nat_lt old.tag new.tag ≡ lower → NewerIs old new
    go true lower = inr (rw lower refl, ltb-true old.tag new.tag lower)
    go false higher = inl (rw higher refl, ltb-false old.tag new.tag higher)

-- both copies are at most the newer one
pub newer_is_above : (old new : Copy) → (old.tag ≤ (newer old new).tag) × (new.tag ≤ (newer old new).tag)
newer_is_above old new = go (newer_is old new)
  where
    go : NewerIs old new → (old.tag ≤ (newer old new).tag) × (new.tag ≤ (newer old new).tag)
    go (inl (is_old, above)) = (omega (arith, ap (λ c. c.tag) is_old), omega (arith, ap (λ c. c.tag) is_old))
    go (inr (is_new, below)) = (omega (arith, ap (λ c. c.tag) is_new), omega (arith, ap (λ c. c.tag) is_new))

-- of a genuine copy, the newer one is the old copy or genuine
pub newer_is_genuine : (setting : Setting) (h : History) (old new : Copy) → Genuine setting h new → (newer old new ≡ old) ⊎ Genuine setting h (newer old new)
newer_is_genuine setting h old new genuine = go (newer_is old new)
  where
    go : NewerIs old new → (newer old new ≡ old) ⊎ Genuine setting h (newer old new)
    go (inl (is_old, above)) = inl is_old
    go (inr (is_new, below)) = inr (subst (λ c. Genuine setting h c) (sym is_new) genuine)

-- The node stays in its configuration, and does not go back on duty.
pub record KeepsPlace (old new : Node) : Type 0 where
  pub number : new.number ≡ old.number
  pub members : new.members ≡ old.members
  pub opening : new.opening ≡ old.opening
  pub duty : off_duty old.status ≤ off_duty new.status
  pub idle : new.status ≡ Idle → old.status ≡ Idle
  pub newest : old.newest ≤ new.newest

-- A node does, of which only the stopped mark, the copies and the newest version change, where that does not fall.
pub keeps_status : {old : Node} {stopped : Bool} {stored served : Copy} {newest : ℕ} → old.newest ≤ newest → KeepsPlace old (record old { stopped = stopped; stored = stored; served = served; newest = newest })
keeps_status newest = record { number = refl; members = refl; opening = refl; duty = omega arith; idle = λ idle. idle; newest = newest }

module _ (setting : Setting) (h h' : History) (node : ℕ) (new : Node) (here : h'.nodes node ≡ new) where
  -- A node that keeps its place may store a genuine copy that is no lower, and serve a write of its own that is answered.
  pub keeps_place : Matches (h.nodes node) (h.joined node) → h'.joined node ≡ h.joined node → KeepsPlace (h.nodes node) new
      → (h.nodes node).stored.tag ≤ new.stored.tag → (new.stored ≡ (h.nodes node).stored) ⊎ Genuine setting h new.stored
      → (h.nodes node).served.tag ≤ new.served.tag → (new.served ≡ (h.nodes node).served) ⊎ OwnAnswer h h' node new.served
      → NodeStep setting h h' node
  keeps_place matches joined place stored_grows stored served_grows served = record {
    matches = subst₂ (λ n c. Matches n c) (sym here) (sym joined) matches_new;
    position_grows = omega (arith, ap position here, place.number, place.duty);
    stored_grows = omega (arith, ap (λ n. n.stored.tag) here, stored_grows);
    newest_grows = omega (arith, ap (λ n. n.newest) here, place.newest);
    stored = stored_step stored;
    move = inl (record { joined = joined; served_grows = omega (arith, ap (λ n. n.served.tag) here, served_grows); served = served_step served });
  }
    where
      matches_new : Matches new (h.joined node)
      matches_new = record {
        number = matches.number ∙ sym place.number;
        members = matches.members ∙ sym place.members;
        opening = matches.opening ∙ sym place.opening;
        idle_at_0 = λ idle. place.number ∙ matches.idle_at_0 (place.idle idle);
      }

      stored_step : (new.stored ≡ (h.nodes node).stored) ⊎ Genuine setting h new.stored → ((h'.nodes node).stored ≡ (h.nodes node).stored) ⊎ Genuine setting h (h'.nodes node).stored
      stored_step (inl same) = inl (ap (λ n. n.stored) here ∙ same)
      stored_step (inr genuine) = inr (subst (λ n. Genuine setting h n.stored) (sym here) genuine)

      served_step : (new.served ≡ (h.nodes node).served) ⊎ OwnAnswer h h' node new.served → ((h'.nodes node).served ≡ (h.nodes node).served) ⊎ OwnAnswer h h' node (h'.nodes node).served
      served_step (inl same) = inl (ap (λ n. n.served) here ∙ same)
      served_step (inr own) = inr (subst (λ n. OwnAnswer h h' node n.served) (sym here) own)

-- A node that freezes keeps its place.
pub freezes_in_place : (setting : Setting) (h h' : History) (node : ℕ) → h'.nodes node ≡ frozen (h.nodes node) → Matches (h.nodes node) (h.joined node) → h'.joined node ≡ h.joined node → NodeStep setting h h' node
freezes_in_place setting h h' node here matches joined =
    keeps_place setting h h' node (frozen (h.nodes node)) here matches joined
    (record { number = refl; members = refl; opening = refl; duty = omega (arith, off_duty_at_most_1 (h.nodes node).status); idle = λ idle. cc; newest = omega arith })
    (omega arith) (inl refl) (omega arith) (inl refl)

-- An idle node holds number 0, so a node that joins takes a higher number.
number_rises : (node : ℕ) (old : Node) (configuration next : Configuration) → Matches old configuration → 0 < next.number → MayJoin node old next → old.number < next.number
number_rises node old configuration next matches above_0 may_join =
    elim may_join.idle_or_lower [ inl idle ↦ omega (arith, matches.idle_at_0 idle, above_0) | inr lower ↦ omega (arith, lower) ]

-- A node that is idle or under a lower number may join a decided configuration, whose copy it serves from then on.
pub joins_next : (setting : Setting) (h h' : History) (node : ℕ) (next : Configuration) → h'.nodes node ≡ joining (h.nodes node) next → h'.joined node ≡ next
    → Matches (h.nodes node) (h.joined node) → h.known (WasDecided next) → Genuine setting h next.copy → 0 < next.number
    → MayJoin node (h.nodes node) next
    → NodeStep setting h h' node
joins_next setting h h' node next here joined matches decided genuine above_0 may_join = record {
  matches = subst₂ (λ n c. Matches n c) (sym here) (sym joined) (record { number = refl; members = refl; opening = refl; idle_at_0 = λ idle. cc });
  position_grows = omega (arith, ap position here, rises, off_duty_at_most_1 (h.nodes node).status);
  stored_grows = omega (arith, ap (λ n. n.stored.tag) here, newer_is_above (h.nodes node).stored next.copy);
  newest_grows = omega (arith, ap (λ n. n.newest) here);
  stored = stored_step (newer_is_genuine setting h (h.nodes node).stored next.copy genuine);
  move =
      inr (
        next,
        record {
          decided = decided;
          joined = joined;
          higher = omega (arith, rises, matches.number);
          stored = omega (arith, ap (λ n. n.stored.tag) here, newer_is_above (h.nodes node).stored next.copy);
          served = ap (λ n. n.served) here;
          newest = omega (arith, ap (λ n. n.newest) here);
        },
      );
}
  where
    rises : (h.nodes node).number < next.number
    rises = number_rises node (h.nodes node) (h.joined node) next matches above_0 may_join

    stored_step : (newer (h.nodes node).stored next.copy ≡ (h.nodes node).stored) ⊎ Genuine setting h (newer (h.nodes node).stored next.copy)
        → ((h'.nodes node).stored ≡ (h.nodes node).stored) ⊎ Genuine setting h (h'.nodes node).stored
    stored_step (inl same) = inl (ap (λ n. n.stored) here ∙ same)
    stored_step (inr new) = inr (subst (λ n. Genuine setting h n.stored) (sym here) new)
