-- The moves by which an operation's row changes: acknowledgements are counted, answers are given, copies are held out, an operation is given up.
use Rattle.std.proofs.Common.{◌≡◌, ℕ, suc, ◌<◌, ◌≤◌, Bool, true, false, ◌||◌, ◌==◌, ◌≢◌, ◌⊎◌, length, sym, refl, ap, ◌∙◌, subst, inl, inr, arith, eqb-true}
use Rattle.protocol.specs.State.{Copy, newer, Places, joined_by, Configuration, Kind, Read, Write, Regroup, Stage, Answered, GivenUp, Operation, GetAck, PutAck, Held, System, UnderWay, Setting, node_at}
use Rattle.protocol.specs.Effects.{quiet, RowBecomes, After}
use Rattle.protocol.specs.Conditions.{Counts, CountsAck, Enough, FirstOrHigher, NotHigher, IsOpen}
use Rattle.protocol.specs.Changes.{read_out, serving, with_place, with_copy, at_stage, answered_at, place_joins, read_answered, write_answered, held_taken, operation_given_up}
use Rattle.protocol.proofs.History.{Request, Fact, WasStarted, WasAcknowledged, WasAnswered, WasDecided, NoFact, History, HeldBelow, NewAnswer, OwnAnswer, Genuine}
use Rattle.protocol.proofs.Invariant.{SoundHeld}
use Rattle.protocol.proofs.Lasting.{genuine_lasts}
use Rattle.protocol.proofs.Standing.{with_fact, history, history_after, ReadStands, WriteStands, RegroupStands, StandsAs, RowStands, Sound, held_below_lasts, row_lasts}
use Rattle.protocol.proofs.NodeSteps.{keeps_status, NewerIs, newer_is, newer_is_above, keeps_place}
use Rattle.protocol.proofs.SoundAfter.{ShownMove}
use Rattle.protocol.proofs.Shared.{plain_move, not_both, frame_says, joined_is}

-- A place is in the set with one more place if it was in it, or is that one.
in_joined : (set : Places) (place other : ℕ) → joined_by set place other ≡ true → (set other ≡ true) ⊎ (other ≡ place)
in_joined set place other joined = go (set other) refl joined
  where
    go : (was_in : Bool) → set other ≡ was_in → was_in || other == place ≡ true → (set other ≡ true) ⊎ (other ≡ place)
    go true was_in is_in = inl was_in
    go false was_in is_in = inr (eqb-true other place is_in)

-- A row of which only copy, set, stage and answer change stands for the same request, if it still does so by its kind.
changed_row_stands : {setting : Setting} {h h' : History} {operation : ℕ} {old : Operation} {request : Request} {copy : Copy} {set : Places} {stage : Stage} {answer : ℕ}
    → RowStands setting h operation old request → (kind : Kind) → old.kind ≡ kind
    → StandsAs setting h' (record old { copy = copy; set = set; stage = stage; answer = answer }) request kind
    → RowStands setting h' operation (record old { copy = copy; set = set; stage = stage; answer = answer }) request
changed_row_stands {setting} {h' = h'} {old = old} {request} {copy} {set} {stage} {answer} stands kind of_kind as_kind = record {
  same_operation = stands.same_operation;
  same_node = stands.same_node;
  same_number = stands.same_number;
  same_start = stands.same_start;
  by_kind = subst (λ k. StandsAs setting h' (record old { copy = copy; set = set; stage = stage; answer = answer }) request k) (sym of_kind) as_kind;
}

-- What a receiver that counts the sender's frame knows of the operation.
module _ {setting : Setting} {Earlier : Fact → Type 0} {before : System} (sound : Sound setting Earlier before)
    {kind : Kind} {receiver sender number operation place : ℕ} (counts : Counts before kind receiver sender number operation place) where
  abbrev row : Operation
  row = before.operations.row operation

  abbrev request : Request
  request = sound.request operation

  abbrev set : Places
  set = joined_by row.set place

  stands : RowStands setting (history sound) operation row request
  stands = sound.rows operation counts.waits.is_started

  stands_as : StandsAs setting (history sound) row request kind
  stands_as = subst (λ k. StandsAs setting (history sound) row request k) counts.of_kind stands.by_kind

  -- the operation was started under the configuration that the receiver is in
  configuration_is : sound.known (WasDecided request.configuration) → request.configuration ≡ sound.joined receiver
  configuration_is decided = joined_is sound receiver request.configuration decided (omega (arith, stands.same_number, counts.under, counts.same_number))

  members_are : sound.known (WasDecided request.configuration) → request.configuration.members ≡ (before.nodes receiver).members
  members_are decided = ap (λ c. c.members) (configuration_is decided) ∙ (sound.invariant.nodes receiver).matches.members

  -- so the place is the sender's there, too
  sender_is : sound.known (WasDecided request.configuration) → sender ≡ node_at request.configuration.members place
  sender_is decided = sym (ap (λ members. node_at members place) (members_are decided) ∙ counts.is_sender)

  -- and a set that wins for the receiver's members wins for its members
  wins_there : sound.known (WasDecided request.configuration) → (set : Places) → setting.answers (length (before.nodes receiver).members) set ≡ true
      → setting.answers (length request.configuration.members) set ≡ true
  wins_there decided set wins = subst (λ members. setting.answers (length members) set ≡ true) (sym (members_are decided)) wins

  at_receiver : request.node ≡ receiver
  at_receiver = stands.same_node ∙ counts.here

  -- What holds of the sender, and of the nodes at the places so far, holds of those at the places with the sender's.
  each_place : (Each : ℕ → Type 0) → sound.known (WasDecided request.configuration) → Each sender
      → ((other : ℕ) → row.set other ≡ true → Each (node_at request.configuration.members other))
      → (other : ℕ) → set other ≡ true → Each (node_at request.configuration.members other)
  each_place Each decided of_sender of_others other joined = go (in_joined row.set place other joined)
    where
      go : (row.set other ≡ true) ⊎ (other ≡ place) → Each (node_at request.configuration.members other)
      go (inl was_in) = of_others other was_in
      go (inr is_place) = subst Each (sender_is decided ∙ ap (λ p. node_at request.configuration.members p) (sym is_place)) of_sender

module _ {setting : Setting} {Earlier : Fact → Type 0} {before : System} (sound : Sound setting Earlier before) (after : System) where
  -- Only a row changes, in its copy, set, stage or answer, and no fact is new.
  row_changes : {copy : Copy} {set : Places} {stage : Stage} {answer : ℕ} (operation : ℕ) (kind : Kind)
      → After (record quiet { operation = RowBecomes operation (record (before.operations.row operation) { copy = copy; set = set; stage = stage; answer = answer }) }) before after
      → operation < before.operations.count → (before.operations.row operation).kind ≡ kind
      → StandsAs setting (history_after sound after NoFact) (record (before.operations.row operation) { copy = copy; set = set; stage = stage; answer = answer }) (sound.request operation) kind
      → ShownMove setting Earlier before after sound
  row_changes {copy} {set} {stage} {answer} operation kind change is_started of_kind stands =
      let new = record (before.operations.row operation) { copy = copy; set = set; stage = stage; answer = answer } in
      plain_move sound after (record quiet { operation = RowBecomes operation new }) NoFact refl refl change change.proposals change.decisions (record {
        justified = tt;
        nodes = λ node. refl;
        rows = (refl, changed_row_stands (sound.rows operation is_started) kind of_kind stands);
        frames = λ frame sent. absurd sent;
      })

  -- With the sender's, all acknowledgements of the larger set are there.
  all_acknowledged : {kind : Kind} {receiver sender number operation place : ℕ} (counts : Counts before kind receiver sender number operation place)
      → sound.known (WasStarted (sound.request operation)) → sound.known (WasAcknowledged (sound.request operation) sender)
      → ((other : ℕ) → (before.operations.row operation).set other ≡ true → sound.known (WasAcknowledged (sound.request operation) (node_at (sound.request operation).configuration.members other)))
      → (larger : Places) → larger ≡ joined_by (before.operations.row operation).set place
      → (other : ℕ) → larger other ≡ true → sound.known (WasAcknowledged (sound.request operation) (node_at (sound.request operation).configuration.members other))
  all_acknowledged {operation = operation} counts started by_sender by_others larger same_set other in_set =
      let decided = (sound.invariant.requests (sound.request operation) started).decided in
      each_place sound counts (λ node. sound.known (WasAcknowledged (sound.request operation) node)) decided by_sender by_others other (sym (ap (λ places. places other) same_set) ∙ in_set)

  -- The row of a read that the sender acknowledged; what its answer is, if it is answered now, is shown apart.
  read_row : {receiver sender number operation place : ℕ} (counts : Counts before Read receiver sender number operation place) → UnderWay (GetAck receiver sender number operation) before
      → (fact : Fact) (new : Operation) → new.set ≡ joined_by (before.operations.row operation).set place
      → (new.stage ≡ Answered → with_fact sound.known fact (WasAnswered (sound.request operation) new.copy new.answer))
      → ReadStands (history_after sound after fact) new (sound.request operation)
  read_row {receiver} {sender} {number} {operation} {place} counts there fact new same_set answered =
      let old = stands_as sound counts in
      let by_sender = (frame_says sound (GetAck receiver sender number operation) operation refl there).1 in
      record {
        started = inl old.started;
        reads = old.reads;
        acknowledged = λ other in_set. inl (all_acknowledged counts old.started by_sender old.acknowledged new.set same_set other in_set);
        answered = answered;
      }

  -- The row of a write: the same, and its copy stays.
  write_row : {receiver sender number operation place : ℕ} (counts : Counts before Write receiver sender number operation place) → UnderWay (PutAck receiver sender number operation) before
      → (fact : Fact) (new : Operation) → new.set ≡ joined_by (before.operations.row operation).set place → new.copy ≡ (before.operations.row operation).copy
      → (new.stage ≡ Answered → with_fact sound.known fact (WasAnswered (sound.request operation) new.copy new.answer))
      → WriteStands (history_after sound after fact) new (sound.request operation)
  write_row {receiver} {sender} {number} {operation} {place} counts there fact new same_set same_copy answered =
      let old = stands_as sound counts in
      let by_sender = (frame_says sound (PutAck receiver sender number operation) operation refl there).1 in
      record {
        started = inl old.started;
        writes = old.writes;
        copy = old.copy ∙ sym same_copy;
        acknowledged = λ other in_set. inl (all_acknowledged counts old.started by_sender old.acknowledged new.set same_set other in_set);
        answered = answered;
      }

  -- An acknowledgement of a read is counted, and is not enough yet.
  pub deliver_get_ack : {receiver sender number operation place : ℕ} → UnderWay (GetAck receiver sender number operation) before
      → CountsAck before Read receiver sender number operation place → After (place_joins before operation place) before after
      → ShownMove setting Earlier before after sound
  deliver_get_ack {operation = operation} {place = place} there counted change =
      let counts = counted.counts in
      let new = with_place (before.operations.row operation) place in
      row_changes operation Read change counts.waits.is_started counts.of_kind
      (read_row counts there NoFact new refl (λ answered. inl ((stands_as sound counts).answered answered)))

  -- So is one of a write.
  pub deliver_put_ack : {receiver sender number operation place : ℕ} → UnderWay (PutAck receiver sender number operation) before
      → CountsAck before Write receiver sender number operation place → After (place_joins before operation place) before after
      → ShownMove setting Earlier before after sound
  deliver_put_ack {operation = operation} {place = place} there counted change =
      let counts = counted.counts in
      let new = with_place (before.operations.row operation) place in
      row_changes operation Write change counts.waits.is_started counts.of_kind
      (write_row counts there NoFact new refl refl (λ answered. inl ((stands_as sound counts).answered answered)))

  -- A read or a write is answered: what its receiver may say of that, but for the copy. The receiver is still in the configuration that the operation was started under.
  new_answer : {kind : Kind} {receiver sender number operation place : ℕ} (counts : Counts before kind receiver sender number operation place) (copy : Copy)
      → sound.known (WasStarted (sound.request operation)) → Enough setting before receiver operation place true → after.moment ≡ suc before.moment
      → ((other : ℕ) → joined_by (before.operations.row operation).set place other ≡ true
      → with_fact sound.known (WasAnswered (sound.request operation) copy (suc before.moment)) (WasAcknowledged (sound.request operation) (node_at (sound.request operation).configuration.members other)))
      → ((sound.request operation).writes ≡ true → (copy ≡ (sound.request operation).copy) × (copy.tag ≤ (after.nodes (sound.request operation).node).served.tag))
      → ((sound.request operation).writes ≡ false → copy ≡ (before.nodes (sound.request operation).node).served)
      → NewAnswer setting (history sound) (history_after sound after (WasAnswered (sound.request operation) copy (suc before.moment))) (sound.request operation) copy (suc before.moment)
  new_answer {operation = operation} {place = place} counts copy started answers ticks acknowledged write read =
      let decided = (sound.invariant.requests (sound.request operation) started).decided in
      let same = configuration_is sound counts decided in
      let at = at_receiver sound counts in
      record {
        started = started;
        now = refl;
        ticks = ticks;
        still_under = ap (λ node. (sound.joined node).number) at ∙ ap (λ c. c.number) (sym same);
        stays = refl;
        acknowledged = record {
          set = joined_by (before.operations.row operation).set place;
          winning = wins_there sound counts decided (joined_by (before.operations.row operation).set place) answers;
          each = λ other joined. was_acknowledged (acknowledged other joined);
        };
        write = write;
        read = read;
      }
    where
      -- the answer is no acknowledgement
      was_acknowledged : {node : ℕ} → with_fact sound.known (WasAnswered (sound.request operation) copy (suc before.moment)) (WasAcknowledged (sound.request operation) node)
          → sound.known (WasAcknowledged (sound.request operation) node)
      was_acknowledged (inl known) = known
      was_acknowledged (inr same) = absurd cc

  -- What the receiver of an answered write serves is what it served, or the write, which is its own.
  serves_old_or_own : {receiver sender number operation place : ℕ} (counts : Counts before Write receiver sender number operation place)
      → (newer (before.nodes receiver).served (before.operations.row operation).copy ≡ (before.nodes receiver).served)
      ⊎ OwnAnswer (history sound) (history_after sound after (WasAnswered (sound.request operation) (before.operations.row operation).copy (suc before.moment))) receiver (newer (before.nodes receiver).served (before.operations.row operation).copy)
  serves_old_or_own {receiver = receiver} {operation = operation} counts = go (newer_is (before.nodes receiver).served answer)
    where
      answer : Copy
      answer = (before.operations.row operation).copy

      go : NewerIs (before.nodes receiver).served answer → (newer (before.nodes receiver).served answer ≡ (before.nodes receiver).served)
          ⊎ OwnAnswer (history sound) (history_after sound after (WasAnswered (sound.request operation) answer (suc before.moment))) receiver (newer (before.nodes receiver).served answer)
      go (inl (same, above)) = inl same
      go (inr (is_new, below)) =
          let request = sound.request operation in
          let old = stands_as sound counts in
          let decided = (sound.invariant.requests request old.started).decided in
          inr
          (record {
            write = request;
            moment = suc before.moment;
            written = record { started = old.started; writes = old.writes; same = old.copy ∙ sym is_new };
            answered = inr (ap (λ copy. WasAnswered request copy (suc before.moment)) is_new);
            at = at_receiver sound counts;
            under = ap (λ c. c.number) (configuration_is sound counts decided);
          })

  -- A read is answered with what its receiver serves.
  pub answer_read : {receiver sender number operation place : ℕ} → UnderWay (GetAck receiver sender number operation) before
      → CountsAck before Read receiver sender number operation place → Enough setting before receiver operation place true
      → After (read_answered before receiver operation place) before after
      → ShownMove setting Earlier before after sound
  answer_read {receiver} {sender} {number} {operation} {place} there counted answers change =
      let counts = counted.counts in
      let request = sound.request operation in
      let old = stands_as sound counts in
      let answer = read_out before receiver in
      let new = answered_at (with_copy (with_place (before.operations.row operation) place) answer) (suc before.moment) in
      let fact = WasAnswered request answer (suc before.moment) in
      let row = read_row counts there fact new refl (λ answered. inr refl) in
      plain_move sound after (read_answered before receiver operation place) fact refl refl change change.proposals change.decisions (record {
        justified =
            new_answer counts answer old.started answers change.moment row.acknowledged
            (λ writes. absurd (not_both request.writes writes old.reads))
            (λ reads. ap (λ node. (before.nodes node).served) (sym (at_receiver sound counts)));
        nodes = λ node. refl;
        rows = (
          refl,
          changed_row_stands (sound.rows operation counts.waits.is_started) Read counts.of_kind row,
        );
        frames = λ frame sent. absurd sent;
      })

  -- A write is answered, and its receiver serves it from then on, unless it serves a higher copy.
  pub answer_write : {receiver sender number operation place : ℕ} → UnderWay (PutAck receiver sender number operation) before
      → CountsAck before Write receiver sender number operation place → Enough setting before receiver operation place true
      → After (write_answered before receiver operation place) before after
      → ShownMove setting Earlier before after sound
  answer_write {receiver} {sender} {number} {operation} {place} there counted answers change =
      let counts = counted.counts in
      let request = sound.request operation in
      let old = stands_as sound counts in
      let answer = (before.operations.row operation).copy in
      let new = answered_at (with_place (before.operations.row operation) place) (suc before.moment) in
      let fact = WasAnswered request answer (suc before.moment) in
      let row = write_row counts there fact new refl refl (λ answered. inr refl) in
      let at = at_receiver sound counts in
      let above = newer_is_above (before.nodes receiver).served answer in
      plain_move sound after (write_answered before receiver operation place) fact refl refl change change.proposals change.decisions (record {
        justified =
            new_answer counts answer old.started answers change.moment row.acknowledged
            (λ writes. (sym old.copy, omega (arith, ap (λ node. (after.nodes node).served.tag) at, ap (λ n. n.served.tag) change.nodes.here, above)))
            (λ reads. absurd (not_both request.writes old.writes reads));
        nodes = (
          λ other is_other. refl,
          keeps_place setting (history sound) (history_after sound after fact) receiver (serving (before.nodes receiver) answer) change.nodes.here (sound.invariant.nodes receiver).matches refl
              (keeps_status (omega arith))
              (omega arith) (inl refl) (omega (arith, above)) (serves_old_or_own counts),
        );
        rows = (
          refl,
          changed_row_stands (sound.rows operation counts.waits.is_started) Write counts.of_kind row,
        );
        frames = λ frame sent. absurd sent;
      })

  -- The row of a regroup with the sender's place, and with a copy that is no lower than the sender's, nor than those before, if there are any.
  regroup_row : {receiver sender number operation place : ℕ} {copy : Copy} (counts : Counts before Regroup receiver sender number operation place) → UnderWay (Held receiver sender number operation copy) before
      → (new : Operation) → new.set ≡ joined_by (before.operations.row operation).set place → new.stage ≢ Answered
      → copy.tag ≤ new.copy.tag
      → ((other : ℕ) → (before.operations.row operation).set other ≡ true → (before.operations.row operation).copy.tag ≤ new.copy.tag)
      → Genuine setting (history sound) new.copy → (sound.request operation).configuration.copy.tag ≤ new.copy.tag
      → RegroupStands setting (history_after sound after NoFact) new (sound.request operation)
  regroup_row {receiver} {sender} {number} {operation} {place} {copy} counts there new same_set not_answered below others_below genuine above_opening = record {
    decided = inl old.decided;
    each = λ other in_set.
        held_below_lasts (history sound) (history_after sound after NoFact) (λ fact known. inl known) configuration new.copy.tag (node_at configuration.members other)
        (each_place sound counts (λ node. HeldBelow (history sound) configuration new.copy.tag node) old.decided by_sender of_others other (sym (ap (λ set. set other) same_set) ∙ in_set));
    genuine = genuine_lasts (λ fact known. inl known) setting genuine;
    above_opening = above_opening;
    not_answered = not_answered;
  }
    where
      configuration : Configuration
      configuration = (sound.request operation).configuration

      old : RegroupStands setting (history sound) (before.operations.row operation) (sound.request operation)
      old = stands_as sound counts

      by_sender : HeldBelow (history sound) configuration new.copy.tag sender
      by_sender = record { copy = copy; held = (frame_says sound (Held receiver sender number operation copy) operation refl there).1; below = below }

      of_others : (other : ℕ) → (before.operations.row operation).set other ≡ true → HeldBelow (history sound) configuration new.copy.tag (node_at configuration.members other)
      of_others other was_in = let held = old.each other was_in in record { copy = held.copy; held = held.held; below = omega (arith, held.below, others_below other was_in) }

  -- A copy is the first that is held out to a regroup, or higher than the others: it becomes the regroup's. Who holds out a copy has a genuine one that is no lower than the opening copy.
  pub deliver_held : {receiver sender number operation place : ℕ} {copy : Copy} → UnderWay (Held receiver sender number operation copy) before
      → Counts before Regroup receiver sender number operation place → FirstOrHigher (before.operations.row operation) copy
      → After (held_taken before operation place copy) before after
      → ShownMove setting Earlier before after sound
  deliver_held {receiver} {sender} {number} {operation} {place} {copy} there counts first_or_higher change =
      row_changes operation Regroup change counts.waits.is_started counts.of_kind
      (regroup_row counts there new refl (stands_as sound counts).not_answered (omega arith) (λ other was_in. lower other was_in first_or_higher) held.genuine held.above_opening)
    where
      new : Operation
      new = with_copy (with_place (before.operations.row operation) place) copy

      held : SoundHeld setting (history sound) (sound.request operation).configuration sender copy
      held = sound.invariant.held (sound.request operation).configuration sender copy (frame_says sound (Held receiver sender number operation copy) operation refl there).1

      lower : (other : ℕ) → (before.operations.row operation).set other ≡ true → FirstOrHigher (before.operations.row operation) copy → (before.operations.row operation).copy.tag ≤ copy.tag
      lower other was_in (inl higher) = omega (arith, higher)
      lower other was_in (inr first) = absurd (not_both ((before.operations.row operation).set other) was_in (first other))

  -- A copy is held out that is not: only its place joins.
  pub deliver_lower_held : {receiver sender number operation place : ℕ} {copy : Copy} → UnderWay (Held receiver sender number operation copy) before
      → Counts before Regroup receiver sender number operation place → NotHigher (before.operations.row operation) copy
      → After (place_joins before operation place) before after
      → ShownMove setting Earlier before after sound
  deliver_lower_held {operation = operation} {place = place} there counts not_higher change =
      let old = stands_as sound counts in
      let new = with_place (before.operations.row operation) place in
      row_changes operation Regroup change counts.waits.is_started counts.of_kind
      (regroup_row counts there new refl old.not_answered (omega (arith, not_higher.0)) (λ other was_in. omega arith) old.genuine old.above_opening)

  -- What stands stands at another stage that is not Answered.
  pub row_at_stage_stands : (fact : Fact) (operation : ℕ) (stage : Stage) → (stage ≡ Answered → ⊥) → operation < before.operations.count
      → RowStands setting (history_after sound after fact) operation (at_stage (before.operations.row operation) stage) (sound.request operation)
  row_at_stage_stands fact operation stage not_answered is_started =
      let lasting = row_lasts (history sound) (history_after sound after fact) (λ old known. inl known) setting operation row request (sound.rows operation is_started) in
      changed_row_stands lasting row.kind refl (go row.kind lasting.by_kind)
    where
      row : Operation
      row = before.operations.row operation

      request : Request
      request = sound.request operation

      go : (kind : Kind) → StandsAs setting (history_after sound after fact) row request kind → StandsAs setting (history_after sound after fact) (at_stage row stage) request kind
      go Read old = record { started = old.started; reads = old.reads; acknowledged = old.acknowledged; answered = λ answered. absurd (not_answered answered) }
      go Write old = record { started = old.started; writes = old.writes; copy = old.copy; acknowledged = old.acknowledged; answered = λ answered. absurd (not_answered answered) }
      go Regroup old = record { decided = old.decided; each = old.each; genuine = old.genuine; above_opening = old.above_opening; not_answered = not_answered }

  -- An operation is given up: all that is known of it stays.
  pub give_up : {operation : ℕ} → IsOpen before operation → After (operation_given_up before operation) before after → ShownMove setting Earlier before after sound
  give_up {operation} waits change =
      let row = before.operations.row operation in
      row_changes operation row.kind change waits.is_started refl
      ((row_at_stage_stands NoFact operation GivenUp (λ same. cc) waits.is_started).by_kind)
