-- After a step the invariant still says what it says of answers.
use Rattle.std.proofs.Common.{◌≡◌, ℕ, ◌≤◌, false, ◌⊎◌, inr, ⊎_elim, sym, ap, arith}
use mathlib.Core.Logic.{⊎_map}
use Rattle.std.proofs.lemmas.Bool.{cases_Bool}
use Rattle.protocol.specs.State.{Copy, Setting}
use Rattle.protocol.proofs.History.{Request, WasStarted, WasAcknowledged, WasAnswered, History, Genuine, AnsweredWrite, NewAnswer, Step}
use Rattle.protocol.proofs.Invariant.{SoundNode, SoundAnswer, Invariant}
use Rattle.protocol.proofs.Lasting.{quorum_map, genuine_lasts, answered_write_lasts, position_is_near, old_or_new, stays_unless_higher}

module _ {setting : Setting} {h h' : History} (invariant : Invariant setting h) (step : Step setting h h') (request : Request) (copy : Copy) (moment : ℕ) where
  -- A node that is still under the request's number has stayed, and what it serves grows.
  served_lasts : SoundAnswer setting h request copy moment → request.configuration.number ≡ (h'.joined request.node).number → copy.tag ≤ (h'.nodes request.node).served.tag
  served_lasts old still_under =
      let joined = (invariant.requests request old.started).joined in
      let near = position_is_near (invariant.nodes request.node).matches in
      let stays = stays_unless_higher step request.node (omega arith) in
      omega (arith, old.served (omega (arith, ap (λ c. c.number) stays.joined)), stays.served_grows)

  -- All else that an answer says lasts.
  sound_answer_lasts : SoundAnswer setting h request copy moment → SoundAnswer setting h' request copy moment
  sound_answer_lasts old =
      record {
        started = step.grows (WasStarted request) old.started;
        acknowledged = quorum_map (λ node. step.grows (WasAcknowledged request node)) old.acknowledged;
        write = old.write;
        read = λ reads. ⊎_map (λ opening. opening) (answered_write_lasts step.grows) (old.read reads);
        genuine = genuine_lasts step.grows setting old.genuine;
        above_opening = old.above_opening;
        after_start = old.after_start;
        in_the_past = omega (arith, old.in_the_past, step.moment_grows);
        served = served_lasts old;
      }

  -- A write is answered with what it wrote, which is served from now on; a read with what its node serves.
  module _ (new : NewAnswer setting h h' request copy moment) where
    node_is_sound : SoundNode setting h request.node
    node_is_sound = invariant.nodes request.node

    -- The node is still in the configuration that the request started under.
    same_configuration : h.joined request.node ≡ request.configuration
    same_configuration =
        invariant.one_for_each_number (h.joined request.node) request.configuration node_is_sound.decided (invariant.requests request new.started).decided new.still_under

    read_is_opening_or_answered : request.writes ≡ false → (copy.tag ≡ request.configuration.copy.tag) ⊎ AnsweredWrite h request.configuration.number copy.tag
    read_is_opening_or_answered reads = rw (new.read reads, ← same_configuration) node_is_sound.served_was_answered

    new_answer_is_genuine : Genuine setting h copy
    new_answer_is_genuine =
        ⊎_elim (λ writes. inr (request, record { started = new.started; writes = writes; same = sym (new.write writes).0 }))
        (λ reads. rw (new.read reads) node_is_sound.served_genuine)
        (cases_Bool request.writes)

    new_answer_is_above_opening : request.configuration.copy.tag ≤ copy.tag
    new_answer_is_above_opening =
        ⊎_elim (λ writes. omega (arith, ap (λ c. c.tag) (new.write writes).0, ((invariant.requests request new.started).write writes).above_opening))
        (λ reads. omega (arith, ap (λ c. c.tag) (new.read reads), ap (λ c. c.copy.tag) same_configuration, node_is_sound.served_above_opening))
        (cases_Bool request.writes)

    new_answer_is_served : copy.tag ≤ (h'.nodes request.node).served.tag
    new_answer_is_served =
        let stays = stays_unless_higher step request.node (omega (arith, ap (λ c. c.number) new.stays)) in
        ⊎_elim (λ writes. (new.write writes).1) (λ reads. omega (arith, ap (λ c. c.tag) (new.read reads), stays.served_grows)) (cases_Bool request.writes)

    new_answer_is_sound : SoundAnswer setting h' request copy moment
    new_answer_is_sound =
        record {
          started = step.grows (WasStarted request) new.started;
          acknowledged = quorum_map (λ node. step.grows (WasAcknowledged request node)) new.acknowledged;
          write = λ writes. (new.write writes).0;
          read = λ reads. ⊎_map (λ opening. opening) (answered_write_lasts step.grows) (read_is_opening_or_answered reads);
          genuine = genuine_lasts step.grows setting new_answer_is_genuine;
          above_opening = new_answer_is_above_opening;
          after_start = omega (arith, new.now, (invariant.requests request new.started).in_the_past);
          in_the_past = omega (arith, new.now, new.ticks);
          served = λ still_under. new_answer_is_served;
        }

  -- An old answer stays sound, and a new one is.
  pub answers_kept : h'.known (WasAnswered request copy moment) → SoundAnswer setting h' request copy moment
  answers_kept answered =
      ⊎_elim (λ old. sound_answer_lasts (invariant.answers request copy moment old)) new_answer_is_sound (old_or_new step (WasAnswered request copy moment) answered)
