-- The invariant holds at an opening, and a step keeps it.
use Rattle.std.proofs.Common.{◌≡◌, ℕ, inl, sym, ◌∙◌, ap, arith}
use Rattle.protocol.specs.State.{Copy, Configuration, Setting, first_of}
use Rattle.protocol.proofs.History.{Request, Fact, WasStarted, WasAcknowledged, WasAnswered, WasHeld, WasProposed, WasDecided, History, Matches, Step}
use Rattle.protocol.proofs.Invariant.{SoundNode, Invariant}
use Rattle.protocol.proofs.Configurations.{one_for_each_number_kept, decided_was_proposed_kept, proposals_kept, held_kept}
use Rattle.protocol.proofs.NodesKept.{nodes_kept}
use Rattle.protocol.proofs.RequestsKept.{acks_kept, requests_kept, tags_differ_kept}
use Rattle.protocol.proofs.AnswersKept.{answers_kept}
use Rattle.protocol.proofs.LaterKept.{later_write_is_higher_kept, later_read_is_not_lower_kept, late_starts_are_left_out_kept, answers_have_other_tags_kept, openings_have_other_tags_kept}

pub invariant_kept : (setting : Setting) (h h' : History) → Invariant setting h → Step setting h h' → Invariant setting h'
invariant_kept setting h h' invariant step =
    record {
      one_for_each_number = one_for_each_number_kept invariant step;
      decided_was_proposed = decided_was_proposed_kept invariant step;
      proposals = proposals_kept invariant step;
      held = held_kept invariant step;
      acks = acks_kept invariant step;
      nodes = nodes_kept invariant step;
      requests = requests_kept invariant step;
      answers = answers_kept invariant step;
      tags_differ = tags_differ_kept invariant step;
      later_write_is_higher = later_write_is_higher_kept invariant step;
      later_read_is_not_lower = later_read_is_not_lower_kept invariant step;
      late_starts_are_left_out = late_starts_are_left_out_kept invariant step;
      answers_have_other_tags = answers_have_other_tags_kept invariant step;
      openings_have_other_tags = openings_have_other_tags_kept invariant step;
    }

-- No fact is known but that the first configuration is decided; all nodes are in it, and hold the first copy.
pub record Opening (setting : Setting) (h : History) : Type 0 where
  pub first_is_decided : h.known (WasDecided (first_of setting))
  pub nothing_else : (fact : Fact) → h.known fact → fact ≡ WasDecided (first_of setting)
  pub joined : (node : ℕ) → h.joined node ≡ first_of setting
  pub matches : (node : ℕ) → Matches (h.nodes node) (h.joined node)
  pub stored : (node : ℕ) → (h.nodes node).stored ≡ (first_of setting).copy
  pub served : (node : ℕ) → (h.nodes node).served ≡ (first_of setting).copy

module _ (setting : Setting) (h : History) (opening : Opening setting h) where
  -- Every tag is the first one, which is 0.
  node_at_opening : (node : ℕ) → SoundNode setting h node
  node_at_opening node =
      record {
        decided = rw (opening.joined node) opening.first_is_decided;
        matches = opening.matches node;
        stored_genuine = inl (opening.stored node);
        served_genuine = inl (opening.served node);
        stored_above_opening = omega (arith, joined);
        served_above_opening = omega (arith, joined);
        served_below_newest = omega (arith, served);
        served_was_answered = inl (omega (arith, joined, served));
      }
    where
      joined : (h.joined node).copy.tag ≡ 0
      joined = ap (λ c. c.copy.tag) (opening.joined node)

      served : (h.nodes node).served.tag ≡ 0
      served = ap (λ c. c.tag) (opening.served node)

  is_first : (configuration : Configuration) → h.known (WasDecided configuration) → configuration ≡ first_of setting
  is_first configuration decided = cc (opening.nothing_else (WasDecided configuration) decided)

  none_started : (request : Request) → h.known (WasStarted request) → ⊥
  none_started request started = cc (opening.nothing_else (WasStarted request) started)

  none_answered : (request : Request) (copy : Copy) (moment : ℕ) → h.known (WasAnswered request copy moment) → ⊥
  none_answered request copy moment answered = cc (opening.nothing_else (WasAnswered request copy moment) answered)

  -- All other clauses are about facts that are not known yet.
  pub invariant_at_opening : Invariant setting h
  invariant_at_opening =
      record {
        one_for_each_number = λ one other decided other_decided same_number. is_first one decided ∙ sym (is_first other other_decided);
        decided_was_proposed = λ configuration decided. inl (is_first configuration decided);
        proposals = λ next proposed. cc (opening.nothing_else (WasProposed next) proposed);
        held = λ configuration node copy held. cc (opening.nothing_else (WasHeld configuration node copy) held);
        acks = λ request node acknowledged. cc (opening.nothing_else (WasAcknowledged request node) acknowledged);
        nodes = node_at_opening;
        requests = λ request started. absurd (none_started request started);
        answers = λ request copy moment answered. absurd (none_answered request copy moment answered);
        tags_differ = λ one other started. absurd (none_started one started);
        later_write_is_higher = λ first copy moment second before. absurd (none_started second before.started);
        later_read_is_not_lower = λ first copy moment second copy' moment' answered. absurd (none_answered first copy moment answered);
        late_starts_are_left_out = λ first copy moment second before. absurd (none_started second before.started);
        answers_have_other_tags = λ first copy moment second before. absurd (none_started second before.started);
        openings_have_other_tags = λ first copy moment second before. absurd (none_started second before.started);
      }
