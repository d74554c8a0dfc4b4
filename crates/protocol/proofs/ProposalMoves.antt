-- The moves that decide on a proposal, and that propose a configuration.
use Rattle.std.proofs.Common.{◌≡◌, ℕ, suc, ◌<◌, ◌≤◌, true, ◌⊎◌, length, Option, Some, None, sym, refl, ap, ◌∙◌, subst, inl, inr, arith}
use native.Mathlib.Decide.{ℕ_discrete, dec_lt}
use Rattle.protocol.specs.State.{Configuration, Proposed, Operation, System, Setting, first_of}
use Rattle.protocol.specs.Effects.{quiet, After}
use Rattle.protocol.specs.Conditions.{Undecided, IsDecided, Proposes}
use Rattle.protocol.specs.Changes.{proposal_of, regroup_proposed, proposal_decided}
use Rattle.protocol.proofs.History.{Request, Fact, WasProposed, WasDecided, NoFact, NewProposal, Justified, WasStarted}
use Rattle.protocol.proofs.Standing.{with_fact, history, history_after, RegroupStands, StandsAs, DecidedIn, ProposalsStand, Sound}
use Rattle.protocol.proofs.SoundAfter.{ShownMove, sound_after, fact_is_known}
use Rattle.protocol.proofs.Shared.{not_started, joined_is, ProposalsLast, proposals_stand, proposals_stay}
use Rattle.protocol.proofs.RowMoves.{row_at_stage_stands}

same_value : (one other : ℕ) → Some one ≡ Some other → one ≡ other
same_value one other same = cc

-- Where no proposal that is there was decided under the number, no configuration after it was decided.
none_after : {setting : Setting} {Earlier : Fact → Type 0} {before : System} (sound : Sound setting Earlier before) (number : ℕ)
    → ((proposal : ℕ) → before.decisions number ≡ Some proposal → proposal < before.proposals.count → ⊥)
    → (configuration : Configuration) → sound.known (WasDecided configuration) → configuration.number ≡ suc number → ⊥
none_after {setting} {Earlier} {before} sound number undecided configuration decided follows = go (sound.proposals.back configuration decided)
  where
    go : (configuration ≡ first_of setting) ⊎ DecidedIn before configuration → ⊥
    go (inl first) = omega (arith, ap (λ c. c.number) first, follows)
    go (inr found) =
        let same : found.number ≡ number = omega (arith, found.follows, follows) in
        undecided found.proposal (ap before.decisions (sym same) ∙ found.decision) found.is_there

module _ {setting : Setting} {Earlier : Fact → Type 0} {before : System} (sound : Sound setting Earlier before) (after : System) where
  -- What a decision under the number makes known: the proposal's configuration if the proposal is there and follows the number, and nothing otherwise.
  module _ (number proposal : ℕ) (none_yet : Undecided before number) (change : After (proposal_decided number proposal) before after) where
    last : ProposalsLast before after
    last = record { count = omega (arith, change.proposals.0); rows = λ p old. change.proposals.1 p; decisions = λ n p decision. stays n p decision (ℕ_discrete n number) }
      where
        stays : (n p : ℕ) → before.decisions n ≡ Some p → Dec (n ≡ number) → after.decisions n ≡ Some p
        stays n p decision (yes it) = let same = ap before.decisions it in absurd cc
        stays n p decision (no other) = change.decisions.elsewhere n other ∙ decision

    -- a decision after the move was one before it, or is this one
    old_or_this : (n p : ℕ) → IsDecided after n p → IsDecided before n p ⊎ ((n ≡ number) × (p ≡ proposal))
    old_or_this n p decides = go (ℕ_discrete n number)
      where
        go : Dec (n ≡ number) → IsDecided before n p ⊎ ((n ≡ number) × (p ≡ proposal))
        go (yes it) = inr (it, same_value p proposal (sym decides.decision ∙ ap after.decisions it ∙ change.decisions.here))
        go (no other) =
            inl
            (record {
              decision = sym (change.decisions.elsewhere n other) ∙ decides.decision;
              is_there = omega (arith, decides.is_there, change.proposals.0);
              follows = ap (λ c. c.number) (sym (change.proposals.1 p)) ∙ decides.follows;
            })

    decision_shown : (fact : Fact) → Justified setting (history sound) (history_after sound after fact) fact
        → ((new : Request) → WasStarted new ≡ fact → ⊥)
        → ProposalsStand setting after (history_after sound after fact) → ShownMove setting Earlier before after sound
    decision_shown fact justified no_start stand = record {
      effect = proposal_decided number proposal;
      change = change;
      fact = fact;
      joined = sound.joined;
      request = sound.request;
      justified = justified;
      nodes = λ node. refl;
      requests_kept = λ index old. refl;
      rows = tt;
      started = λ new same. absurd (no_start new same);
      frames = λ frame sent. absurd sent;
      proposals = stand;
    }

    -- The decision is on no proposal that is there and follows.
    decides_on_none : (IsDecided after number proposal → ⊥) → ShownMove setting Earlier before after sound
    decides_on_none not_decided =
        decision_shown NoFact tt (λ new same. cc)
        (proposals_stand sound after sound.joined NoFact last (λ p there is_new. absurd (omega (arith, change.proposals.0))) (λ n p decides. new_decisions n p decides (old_or_this n p decides))
        (λ c same. absurd cc))
      where
        new_decisions : (n p : ℕ) → IsDecided after n p → IsDecided before n p ⊎ ((n ≡ number) × (p ≡ proposal)) → IsDecided before n p ⊎ with_fact sound.known NoFact (WasDecided (after.proposals.row p))
        new_decisions n p decides (inl old) = inl old
        new_decisions n p decides (inr (is_number, is_proposal)) = absurd (not_decided (subst (λ k. IsDecided after k proposal) is_number (subst (λ k. IsDecided after n k) is_proposal decides)))

    -- It is on a proposal that is there and follows, whose configuration is decided by that.
    decides_on_this : proposal < before.proposals.count → (before.proposals.row proposal).number ≡ suc number → ShownMove setting Earlier before after sound
    decides_on_this there follows =
        decision_shown (WasDecided configuration)
        (record {
          proposed = sound.proposals.proposed proposal there;
          none_yet = λ other decided same. none_after sound number (λ p decision is_there. cc) other decided (same ∙ follows);
        })
        (λ new same. cc)
        (proposals_stand sound after sound.joined (WasDecided configuration) last (λ p is_there is_new. absurd (omega (arith, change.proposals.0)))
        (λ n p decides. new_decisions n p (old_or_this n p decides)) found)
      where
        configuration : Configuration
        configuration = before.proposals.row proposal

        new_decisions : (n p : ℕ) → IsDecided before n p ⊎ ((n ≡ number) × (p ≡ proposal)) → IsDecided before n p ⊎ with_fact sound.known (WasDecided configuration) (WasDecided (after.proposals.row p))
        new_decisions n p (inl old) = inl old
        new_decisions n p (inr (is_number, is_proposal)) = inr (inr (ap WasDecided (change.proposals.1 p ∙ ap before.proposals.row is_proposal)))

        found : (c : Configuration) → WasDecided c ≡ WasDecided configuration → DecidedIn after c
        found c same =
            let is_this : c ≡ configuration = cc in
            record {
              number = number;
              proposal = proposal;
              follows = ap (λ c. c.number) is_this ∙ follows;
              decision = change.decisions.here;
              is_there = omega (arith, there, change.proposals.0);
              here = change.proposals.1 proposal ∙ sym is_this;
            }

    pub decide : ShownMove setting Earlier before after sound
    decide = go (dec_lt proposal before.proposals.count) (ℕ_discrete (before.proposals.row proposal).number (suc number))
      where
        go : Dec (proposal < before.proposals.count) → Dec ((before.proposals.row proposal).number ≡ suc number) → ShownMove setting Earlier before after sound
        go (yes there) (yes follows) = decides_on_this there follows
        go (yes there) (no other) = decides_on_none (λ decides. other (sym (ap (λ c. c.number) (change.proposals.1 proposal)) ∙ decides.follows))
        go (no missing) _ = decides_on_none (λ decides. missing (omega (arith, decides.is_there, change.proposals.0)))

-- Proposing takes two steps: the configuration is known to be proposed first, while the system is as it was; then its row is added. If the number was decided on that row in advance, the configuration is decided by that.
module _ {setting : Setting} {Earlier : Fact → Type 0} {before : System} {operation : ℕ} (proposes : Proposes setting before operation) (sound : Sound setting Earlier before) where
  abbrev row : Operation
  row = before.operations.row operation

  abbrev next : Configuration
  next = proposal_of row

  stands_as_regroup : RegroupStands setting (history sound) row (sound.request operation)
  stands_as_regroup =
      subst (λ k. StandsAs setting (history sound) row (sound.request operation) k) proposes.is_regroup (sound.rows operation proposes.waits.is_started).by_kind

  -- A freezing set held out copies, and none is above the regroup's, which is proposed.
  may_propose : NewProposal setting (history sound) next
  may_propose = record {
    previous = configuration;
    decided = stands.decided;
    follows = ap suc (sym (sound.rows operation proposes.waits.is_started).same_number);
    held = record { set = row.set; winning = freezes; each = stands.each };
    genuine = stands.genuine;
    above_opening = stands.above_opening;
  }
    where
      configuration : Configuration
      configuration = (sound.request operation).configuration

      stands : RegroupStands setting (history sound) row (sound.request operation)
      stands = stands_as_regroup

      is_joined : configuration ≡ sound.joined row.node
      is_joined = joined_is sound row.node configuration stands.decided (omega (arith, (sound.rows operation proposes.waits.is_started).same_number, proposes.under))

      freezes : setting.freezes (length configuration.members) row.set ≡ true
      freezes =
          subst (λ members. setting.freezes (length members) row.set ≡ true) (sym (ap (λ c. c.members) is_joined ∙ (sound.invariant.nodes row.node).matches.members)) proposes.freezes

  -- The configuration is known to be proposed; nothing in the system has changed yet.
  proposed_first : ShownMove setting Earlier before before sound
  proposed_first = record {
    effect = quiet;
    change = record {
      nodes = λ node. refl;
      operations = (refl, λ index. refl);
      proposals = (refl, λ index. refl);
      decisions = λ number. refl;
      moment = refl;
      frames = λ frame there. inl there;
    };
    fact = WasProposed next;
    joined = sound.joined;
    request = sound.request;
    justified = may_propose;
    nodes = λ node. refl;
    requests_kept = λ index old. refl;
    rows = tt;
    started = not_started (WasProposed next) refl;
    frames = λ frame sent. absurd sent;
    proposals = proposals_stay sound before sound.joined (WasProposed next) refl (refl, λ index. refl) (λ number. refl);
  }

  module _ {after : System} (known_as_proposed : sound.known (WasProposed next)) (change : After (regroup_proposed before operation) before after) where
    added_last : ProposalsLast before after
    added_last = record { count = omega (arith, change.proposals.count); rows = change.proposals.elsewhere; decisions = λ number proposal decision. change.decisions number ∙ decision }

    proposal_shown : (fact : Fact) → Justified setting (history sound) (history_after sound after fact) fact
        → ((new : Request) → WasStarted new ≡ fact → ⊥)
        → ((number proposal : ℕ) → IsDecided after number proposal → IsDecided before number proposal ⊎ with_fact sound.known fact (WasDecided (after.proposals.row proposal)))
        → ((configuration : Configuration) → WasDecided configuration ≡ fact → DecidedIn after configuration)
        → ShownMove setting Earlier before after sound
    proposal_shown fact justified no_start new_decisions found = record {
      effect = regroup_proposed before operation;
      change = change;
      fact = fact;
      joined = sound.joined;
      request = sound.request;
      justified = justified;
      nodes = λ node. refl;
      requests_kept = λ index old. refl;
      rows = (refl, row_at_stage_stands sound after fact operation Proposed (λ same. cc) proposes.waits.is_started);
      started = λ new same. absurd (no_start new same);
      frames = λ frame sent. absurd sent;
      proposals = proposals_stand sound after sound.joined fact added_last new_rows new_decisions found;
    }
      where
        new_rows : (proposal : ℕ) → proposal < after.proposals.count → before.proposals.count ≤ proposal → with_fact sound.known fact (WasProposed (after.proposals.row proposal))
        new_rows proposal there is_new =
            let is_last : proposal ≡ before.proposals.count = omega (arith, change.proposals.count) in
            inl (subst (λ c. sound.known (WasProposed c)) (sym (ap after.proposals.row is_last ∙ change.proposals.here)) known_as_proposed)

    -- a decision after the move was one before it, or it is on the new row, under the number of the regroup
    old_or_in_advance : (number proposal : ℕ) → IsDecided after number proposal
        → IsDecided before number proposal ⊎ ((before.decisions row.number ≡ Some before.proposals.count) × (after.proposals.row proposal ≡ next))
    old_or_in_advance number proposal decides = go (ℕ_discrete proposal before.proposals.count)
      where
        go : Dec (proposal ≡ before.proposals.count) → IsDecided before number proposal ⊎ ((before.decisions row.number ≡ Some before.proposals.count) × (after.proposals.row proposal ≡ next))
        go (yes is_new) =
            let here : after.proposals.row proposal ≡ next = ap after.proposals.row is_new ∙ change.proposals.here in
            let same : number ≡ row.number = omega (arith, decides.follows, ap (λ c. c.number) here) in
            inr (sym (change.decisions row.number) ∙ ap after.decisions (sym same) ∙ decides.decision ∙ ap Some is_new, here)
        go (no other) =
            let old : proposal < before.proposals.count = omega (arith, decides.is_there, change.proposals.count) in
            inl
            (record {
              decision = sym (change.decisions number) ∙ decides.decision;
              is_there = old;
              follows = ap (λ c. c.number) (sym (change.proposals.elsewhere proposal old)) ∙ decides.follows;
            })

    -- nobody decided on the new row in advance
    not_in_advance : (before.decisions row.number ≡ Some before.proposals.count → ⊥) → ShownMove setting Earlier before after sound
    not_in_advance none = proposal_shown NoFact tt (λ new same. cc) (λ number proposal decides. go number proposal (old_or_in_advance number proposal decides)) (λ c same. absurd cc)
      where
        go : (number proposal : ℕ) → IsDecided before number proposal ⊎ ((before.decisions row.number ≡ Some before.proposals.count) × (after.proposals.row proposal ≡ next))
            → IsDecided before number proposal ⊎ with_fact sound.known NoFact (WasDecided (after.proposals.row proposal))
        go number proposal (inl old) = inl old
        go number proposal (inr (in_advance, here)) = absurd (none in_advance)

    -- somebody did
    in_advance : before.decisions row.number ≡ Some before.proposals.count → ShownMove setting Earlier before after sound
    in_advance decision =
        proposal_shown (WasDecided next) (record { proposed = known_as_proposed; none_yet = none_after sound row.number (λ proposal other there. undecided proposal other there) }) (λ new same. cc)
        (λ number proposal decides. go number proposal (old_or_in_advance number proposal decides)) found
      where
        undecided : (proposal : ℕ) → before.decisions row.number ≡ Some proposal → proposal < before.proposals.count → ⊥
        undecided proposal other there = let same = same_value proposal before.proposals.count (sym other ∙ decision) in omega arith

        go : (number proposal : ℕ) → IsDecided before number proposal ⊎ ((before.decisions row.number ≡ Some before.proposals.count) × (after.proposals.row proposal ≡ next))
            → IsDecided before number proposal ⊎ with_fact sound.known (WasDecided next) (WasDecided (after.proposals.row proposal))
        go number proposal (inl old) = inl old
        go number proposal (inr (advance, here)) = inr (inr (ap WasDecided here))

        found : (c : Configuration) → WasDecided c ≡ WasDecided next → DecidedIn after c
        found c same =
            let is_next : c ≡ next = cc in
            record {
              number = row.number;
              proposal = before.proposals.count;
              follows = ap (λ c. c.number) is_next;
              decision = change.decisions row.number ∙ decision;
              is_there = omega (arith, change.proposals.count);
              here = change.proposals.here ∙ sym is_next;
            }

    row_is_added : ShownMove setting Earlier before after sound
    row_is_added = go (before.decisions row.number) refl
      where
        go : (decision : Option ℕ) → before.decisions row.number ≡ decision → ShownMove setting Earlier before after sound
        go None none = not_in_advance (λ some. cc)
        go (Some proposal) some = at (ℕ_discrete proposal before.proposals.count)
          where
            at : Dec (proposal ≡ before.proposals.count) → ShownMove setting Earlier before after sound
            at (yes it) = in_advance (some ∙ ap Some it)
            at (no other) = not_in_advance (λ advance. other (same_value proposal before.proposals.count (sym some ∙ advance)))

-- First the configuration is known to be proposed, then its row is added.
pub propose : {setting : Setting} {Earlier : Fact → Type 0} {before after : System} {operation : ℕ} → Proposes setting before operation → Sound setting Earlier before → After (regroup_proposed before operation) before after
    → Sound setting Earlier after
unfolding proposed_first
propose proposes sound change =
    let first = sound_after (proposed_first proposes sound) in
    sound_after (row_is_added proposes first (fact_is_known (proposed_first proposes sound)) change)
