-- What stays true when facts grow, what a step may add, and what follows from the invariant at one point.
use Rattle.std.proofs.Common.{◌≡◌, ℕ, zero, suc, ◌+◌, ◌-◌, ◌*◌, ◌<◌, ◌≤◌, Bool, ◌⊎◌, inl, inr, ⊎_elim, sym, ap, subst, arith}
use mathlib.Core.Logic.{⊎_map}
use Rattle.protocol.specs.State.{Tag, Copy, Places, Configuration, Node, Status, Idle, Active, Frozen, Setting, first_of, node_at}
use Rattle.protocol.proofs.History.{Request, Fact, WasStarted, WasAcknowledged, WasAnswered, WasProposed, WasDecided, History, off_duty, position, WrittenBy, Genuine, AnsweredWrite, Quorum, Justified, Matches, Stays, Joins, Step}
use Rattle.protocol.proofs.Invariant.{LeftBelow, SoundProposal, Invariant}

-- A quorum also stands for whatever follows from what it stands for.
pub quorum_map : {wins : ℕ → Places → Bool} {configuration : Configuration} {Each Other : ℕ → Type 0} → ((node : ℕ) → Each node → Other node)
    → Quorum wins configuration Each → Quorum wins configuration Other
quorum_map {configuration = configuration} follows quorum =
    record { set = quorum.set; winning = quorum.winning; each = λ place chosen. follows (node_at configuration.members place) (quorum.each place chosen) }

-- These say that facts are known, and no more, so they last when facts grow.
module _ {h h' : History} (grows : (old : Fact) → h.known old → h'.known old) where
  pub written_by_lasts : {write : Request} {copy : Copy} → WrittenBy h write copy → WrittenBy h' write copy
  written_by_lasts {write = write} written = record { started = grows (WasStarted write) written.started; writes = written.writes; same = written.same }

  pub genuine_lasts : (setting : Setting) {copy : Copy} → Genuine setting h copy → Genuine setting h' copy
  genuine_lasts setting (inl opening) = inl opening
  genuine_lasts setting (inr (write, written)) = inr (write, written_by_lasts written)

  pub answered_write_lasts : {number : ℕ} {tag : Tag} → AnsweredWrite h number tag → AnsweredWrite h' number tag
  answered_write_lasts old =
      record {
        write = old.write;
        copy = old.copy;
        moment = old.moment;
        answered = grows (WasAnswered old.write old.copy old.moment) old.answered;
        writes = old.writes;
        under = old.under;
        same = old.same;
      }

pub off_duty_at_most_1 : (status : Status) → off_duty status ≤ 1
off_duty_at_most_1 Idle = omega arith
off_duty_at_most_1 Active = omega arith
off_duty_at_most_1 Frozen = omega arith

-- A node's position is that of the configuration that it is in, or the one after.
pub position_is_near : {node : Node} {configuration : Configuration} → Matches node configuration
    → (2 * configuration.number ≤ position node) × (position node ≤ suc (2 * configuration.number))
position_is_near {node = node} matches =
    let off = off_duty_at_most_1 node.status in
    (omega (arith, matches.number), omega (arith, matches.number))

-- What a step may add
module _ {setting : Setting} {h h' : History} (step : Step setting h h') where
  -- All that is known after the step was known before, but for one fact, which is justified.
  new_is_justified : (some : Fact) → some ≡ step.fact → Justified setting h h' some
  new_is_justified some new = subst (λ fact. Justified setting h h' fact) (sym new) step.justified

  pub old_or_new : (some : Fact) → h'.known some → h.known some ⊎ Justified setting h h' some
  old_or_new some known = ⊎_map (λ old. old) (new_is_justified some) (step.only some known)

  -- So what nothing justifies was known before.
  pub known_before : (some : Fact) → (Justified setting h h' some → ⊥) → h'.known some → h.known some
  known_before some not_justified known = ⊎_elim (λ old. old) (λ new. absurd (not_justified new)) (old_or_new some known)

  -- And of two facts at most one is new, or they are the same.
  pub old_or_new_or_same : {Goal : Type 0} (one other : Fact) → h'.known one → h'.known other
      → (h.known one → h.known other → Goal) → (h.known one → Justified setting h h' other → Goal) → (Justified setting h h' one → h.known other → Goal) → (one ≡ other → Goal)
      → Goal
  old_or_new_or_same {Goal} one other known_one known_other both_old new_other new_one same = go (step.only one known_one) (step.only other known_other)
    where
      go : h.known one ⊎ (one ≡ step.fact) → h.known other ⊎ (other ≡ step.fact) → Goal
      go (inl old) (inl old_other) = both_old old old_other
      go (inl old) (inr new) = new_other old (new_is_justified other new)
      go (inr new) (inl old) = new_one (new_is_justified one new) old
      go (inr new) (inr new_too) = same cc

  -- Who acknowledges is active under the number after the step, so who has left the number by then acknowledged before.
  pub acknowledged_before : (request : Request) (node : ℕ) → 2 * request.configuration.number < position (h'.nodes node)
      → h'.known (WasAcknowledged request node) → h.known (WasAcknowledged request node)
  acknowledged_before request node past = known_before (WasAcknowledged request node) (λ new. omega (arith, new.still_active))

  -- Who joins comes under a higher number, so who does not has stayed.
  pub stays_unless_higher : (node : ℕ) → (h'.joined node).number ≤ (h.joined node).number → Stays h h' node
  stays_unless_higher node not_higher = go (step.node node).move
    where
      go : Stays h h' node ⊎ ((next : Configuration) × Joins h h' node next) → Stays h h' node
      go (inl stays) = stays
      go (inr (next, joins)) = absurd (omega (arith, ap (λ c. c.number) joins.joined, joins.higher))

-- what the proposal of the next configuration says of the previous one
pub record Follows (setting : Setting) (h : History) (previous next : Configuration) : Type 0 where
  pub opening_grows : previous.copy.tag ≤ next.copy.tag
  pub left : Quorum setting.freezes previous (LeftBelow h previous.number next.copy.tag)

-- What follows from the invariant at one point
module _ {setting : Setting} {h : History} (invariant : Invariant setting h) where
  -- Only the first configuration was not proposed, and its number is 0.
  pub decided_above_0_is_sound : (next : Configuration) → h.known (WasDecided next) → 0 < next.number → SoundProposal setting h next
  decided_above_0_is_sound next decided above_0 = go (invariant.decided_was_proposed next decided)
    where
      go : (next ≡ first_of setting) ⊎ h.known (WasProposed next) → SoundProposal setting h next
      go (inl first) = absurd (omega (arith, ap (λ c. c.number) first))
      go (inr proposed) = invariant.proposals next proposed

  -- A decided configuration follows one of the number below, down to 0.
  pub every_lower_number_is_decided : (number : ℕ) (configuration : Configuration) → h.known (WasDecided configuration) → number ≤ configuration.number
      → (lower : Configuration) × h.known (WasDecided lower) × (lower.number ≡ number)
  every_lower_number_is_decided number configuration decided lower_number = go (configuration.number - number) configuration decided (omega arith)
    where
      go : (distance : ℕ) (from : Configuration) → h.known (WasDecided from) → from.number ≡ number + distance
          → (lower : Configuration) × h.known (WasDecided lower) × (lower.number ≡ number)
      go zero from decided far = (from, decided, omega arith)
      go (suc distance) from decided far =
          let proposal = decided_above_0_is_sound from decided (omega arith) in
          go distance proposal.previous proposal.decided (omega (arith, proposal.follows))

  -- The configuration that the next one was proposed after is the previous one, as there is one for each number.
  pub next_follows : (previous next : Configuration) → h.known (WasDecided previous) → h.known (WasDecided next) → next.number ≡ suc previous.number → Follows setting h previous next
  next_follows previous next decided next_decided number =
      let proposal = decided_above_0_is_sound next next_decided (omega arith) in
      let same_previous : proposal.previous ≡ previous = invariant.one_for_each_number proposal.previous previous proposal.decided decided (omega (arith, proposal.follows)) in
      subst (λ c. Follows setting h c next) same_previous (record { opening_grows = proposal.opening_grows; left = proposal.left })

-- The first configuration opens with the first copy, and what is proposed is genuine.
pub decided_is_genuine : (setting : Setting) (h : History) → Invariant setting h → (configuration : Configuration) → h.known (WasDecided configuration) → Genuine setting h configuration.copy
decided_is_genuine setting h invariant configuration decided = go (invariant.decided_was_proposed configuration decided)
  where
    go : (configuration ≡ first_of setting) ⊎ h.known (WasProposed configuration) → Genuine setting h configuration.copy
    go (inl first) = inl (ap (λ c. c.copy) first)
    go (inr proposed) = (invariant.proposals configuration proposed).genuine
