-- After a step the invariant still says what it says of requests and acknowledgements; and a new write has a tag that nothing had before.
use Rattle.std.proofs.Common.{◌≡◌, ℕ, suc, ◌%◌, true, ◌≢◌, inl, inr, ⊎_elim, sym, ◌∙◌, ap, arith}
use Rattle.protocol.specs.State.{Copy, Setting, version_of}
use Rattle.protocol.proofs.History.{Request, WasStarted, WasAcknowledged, WasDecided, History, Genuine, NewStart, NewAck, Step}
use Rattle.protocol.proofs.Invariant.{SoundAck, SoundNode, SoundWrite, SoundRequest, Invariant}
use Rattle.protocol.proofs.Lasting.{position_is_near, old_or_new, old_or_new_or_same}

module _ {setting : Setting} {h h' : History} (invariant : Invariant setting h) (step : Step setting h h') where
  -- Only what was started is acknowledged.
  pub acknowledged_was_started : (request : Request) (node : ℕ) → h'.known (WasAcknowledged request node) → h.known (WasStarted request)
  acknowledged_was_started request node acknowledged =
      ⊎_elim (λ old. (invariant.acks request node old).started) (λ (new : NewAck h h' request node). new.started) (old_or_new step (WasAcknowledged request node) acknowledged)

  -- Who acknowledges a write has stored it by then, and stored tags only grow.
  pub acks_kept : (request : Request) (node : ℕ) → h'.known (WasAcknowledged request node) → SoundAck h' request node
  acks_kept request node acknowledged =
      record {
        started = step.grows (WasStarted request) (acknowledged_was_started request node acknowledged);
        stored =
            ⊎_elim (λ old writes. omega (arith, (invariant.acks request node old).stored writes, (step.node node).stored_grows))
            (λ (new : NewAck h h' request node). new.stored)
            (old_or_new step (WasAcknowledged request node) acknowledged);
      }

  -- A new write takes the version after the newest of its node, and its node is below 32.
  pub new_write_takes_next_version : (request : Request) → NewStart h h' request → request.writes ≡ true
      → (version_of request.copy.tag ≡ suc (h.nodes request.node).newest) × (request.copy.tag % 32 ≡ request.node)
  new_write_takes_next_version request new writes = let below_32 = new.below_32 in let tag = new.tag writes in (omega arith, omega arith)

  -- Positions, moments and newest versions only grow.
  sound_request_lasts : (request : Request) → SoundRequest h request → SoundRequest h' request
  sound_request_lasts request old =
      record {
        decided = step.grows (WasDecided request.configuration) old.decided;
        by_primary = old.by_primary;
        joined = omega (arith, old.joined, (step.node request.node).position_grows);
        in_the_past = omega (arith, old.in_the_past, step.moment_grows);
        write = write;
      }
    where
      write : request.writes ≡ true → SoundWrite h' request
      write writes =
          let sound = old.write writes in
          record { given_out = omega (arith, sound.given_out, (step.node request.node).newest_grows); by_node = sound.by_node; above_opening = sound.above_opening }

  -- A node starts a request under the configuration that it is in, with a version above all that it serves.
  new_request_is_sound : (request : Request) → NewStart h h' request → SoundRequest h' request
  new_request_is_sound request new =
      record {
        decided = rw new.under (step.grows (WasDecided (h.joined request.node)) node.decided);
        by_primary = rw new.under new.is_primary;
        joined = omega (arith, ap (λ c. c.number) new.under, position_is_near node.matches, (step.node request.node).position_grows);
        in_the_past = omega (arith, new.now, new.ticks);
        write = write;
      }
    where
      node : SoundNode setting h request.node
      node = invariant.nodes request.node

      write : request.writes ≡ true → SoundWrite h' request
      write writes =
          let (version, by_node) = new_write_takes_next_version request new writes in
          record {
            given_out = omega (arith, version, new.newest writes);
            by_node = by_node;
            above_opening = omega (arith, version, ap (λ c. c.copy.tag) new.under, node.served_above_opening, node.served_below_newest);
          }

  -- An old request stays sound, and a new one is.
  pub requests_kept : (request : Request) → h'.known (WasStarted request) → SoundRequest h' request
  requests_kept request started =
      ⊎_elim (λ old. sound_request_lasts request (invariant.requests request old)) (new_request_is_sound request) (old_or_new step (WasStarted request) started)

  -- An old write with the tag of a new one would be of the same node, and have a version that this gave out.
  no_old_write_has_new_tag : (old new : Request) → h.known (WasStarted old) → old.writes ≡ true → NewStart h h' new → new.writes ≡ true → old.copy.tag ≢ new.copy.tag
  no_old_write_has_new_tag old new started writes starts new_writes same_tag =
      let sound = (invariant.requests old started).write writes in
      let (version, by_node) = new_write_takes_next_version new starts new_writes in
      let same_node : old.node ≡ new.node = omega (arith, sound.by_node, by_node, same_tag) in
      omega (arith, sound.given_out, version, same_tag, ap (λ n. (h.nodes n).newest) same_node)

  -- So no genuine copy has the tag of a new write.
  pub no_genuine_copy_has_new_tag : (copy : Copy) (new : Request) → Genuine setting h copy → NewStart h h' new → new.writes ≡ true → copy.tag ≢ new.copy.tag
  no_genuine_copy_has_new_tag copy new (inl opening) starts writes same_tag = omega (arith, new_write_takes_next_version new starts writes, ap (λ c. c.tag) opening, same_tag)
  no_genuine_copy_has_new_tag copy new (inr (write, written)) starts writes same_tag =
      no_old_write_has_new_tag write new written.started written.writes starts writes (ap (λ c. c.tag) written.same ∙ same_tag)

  -- Of two writes at most one is new.
  pub tags_differ_kept : (one other : Request) → h'.known (WasStarted one) → h'.known (WasStarted other) → one.writes ≡ true → other.writes ≡ true
      → one.copy.tag ≡ other.copy.tag → one ≡ other
  tags_differ_kept one other started other_started writes other_writes same_tag =
      old_or_new_or_same step (WasStarted one) (WasStarted other) started other_started
      (λ old old_other. invariant.tags_differ one other old old_other writes other_writes same_tag)
      (λ old (new : NewStart h h' other). absurd (no_old_write_has_new_tag one other old writes new other_writes same_tag))
      (λ (new : NewStart h h' one) old. absurd (no_old_write_has_new_tag other one old other_writes new writes (sym same_tag)))
      (λ same. cc)
