-- The moves by which nodes and frames change, and no row does: deliveries of get, put, freeze and update; settling, stopping, losing.
use Rattle.std.proofs.Common.{◌≡◌, ℕ, Some, None, sym, refl, ap, subst, inl, inr, arith}
use Rattle.protocol.specs.State.{Copy, Configuration, Get, GetAck, PutAck, Freeze, Put, Held, Update, System, UnderWay, Setting}
use Rattle.protocol.specs.Effects.{quiet, After}
use Rattle.protocol.specs.Conditions.{Obeys, MayJoin, IsDecided}
use Rattle.protocol.specs.Changes.{held_out, storing, stopping, get_acknowledged, put_acknowledged, freeze_obeyed, update_taken, proposal_sent, node_stopped}
use Rattle.protocol.proofs.History.{off_duty, Fact, WasAcknowledged, WasHeld, NoFact, position}
use Rattle.protocol.proofs.Lasting.{decided_is_genuine}
use Rattle.protocol.proofs.Standing.{history_of, with_fact, history, history_after, FrameStands, Sound}
use Rattle.protocol.proofs.NodeSteps.{keeps_status, newer_is_above, newer_is_genuine, keeps_place, joins_next, freezes_in_place}
use Rattle.protocol.proofs.SoundAfter.{ShownMove}
use Rattle.protocol.proofs.Shared.{plain_move, replaced, replaced_here, replaced_elsewhere, not_both, not_started, frame_says, reply_stands, joined_is, proposals_stay}

module _ {setting : Setting} {Earlier : Fact → Type 0} {before : System} (sound : Sound setting Earlier before) (after : System) where
  -- A get is delivered: its receiver, which is active, acknowledges the read.
  pub deliver_get : {receiver sender number operation : ℕ} → UnderWay (Get receiver sender number operation) before → Obeys (before.nodes receiver) sender number
      → After (get_acknowledged receiver sender number operation) before after
      → ShownMove setting Earlier before after sound
  deliver_get {receiver} {sender} {number} {operation} there obeys change =
      let (is_started, says) = frame_says sound (Get receiver sender number operation) operation refl there in
      let fact = WasAcknowledged (sound.request operation) receiver in
      plain_move sound after (get_acknowledged receiver sender number operation) fact refl refl change change.proposals change.decisions (record {
        justified = record {
          started = says.0;
          still_active = omega (arith, ap position (change.nodes receiver), ap off_duty obeys.still_active, obeys.same_number, says.2);
          stored = λ writes. absurd (not_both (sound.request operation).writes writes says.1);
        };
        nodes = λ node. refl;
        rows = tt;
        frames = reply_stands (history_after sound after fact) sound.request after.operations.count (GetAck sender receiver number operation) operation refl (omega (arith, is_started, change.operations.0)) (inr refl);
      })

  -- A put is delivered: its receiver, which is active, has stored the write or a higher copy, and acknowledges it.
  pub deliver_put : {receiver sender number operation : ℕ} {copy : Copy} → UnderWay (Put receiver sender number operation copy) before → Obeys (before.nodes receiver) sender number
      → After (put_acknowledged before receiver sender number operation copy) before after
      → ShownMove setting Earlier before after sound
  deliver_put {receiver} {sender} {number} {operation} {copy} there obeys change =
      let (is_started, says) = frame_says sound (Put receiver sender number operation copy) operation refl there in
      let fact = WasAcknowledged (sound.request operation) receiver in
      let here = change.nodes.here in
      let above = newer_is_above (before.nodes receiver).stored copy in
      plain_move sound after (put_acknowledged before receiver sender number operation copy) fact refl refl change change.proposals change.decisions (record {
        justified = record {
          started = says.0;
          still_active = omega (arith, ap position here, ap off_duty obeys.still_active, obeys.same_number, says.2);
          stored = λ writes. omega (arith, ap (λ n. n.stored.tag) here, above, ap (λ c. c.tag) says.3);
        };
        nodes = (
          λ other is_other. refl,
          keeps_place setting (history sound) (history_after sound after fact) receiver (storing (before.nodes receiver) copy) here (sound.invariant.nodes receiver).matches refl
              (keeps_status (omega arith))
              (omega (arith, above)) (newer_is_genuine setting (history sound) (before.nodes receiver).stored copy (inr (sound.request operation, record { started = says.0; writes = says.1; same = says.3 })))
              (omega arith) (inl refl),
        );
        rows = tt;
        frames = reply_stands (history_after sound after fact) sound.request after.operations.count (PutAck sender receiver number operation) operation refl (omega (arith, is_started, change.operations.0)) (inr refl);
      })

  -- A freeze is delivered: its receiver has frozen, and held out what it has stored.
  pub deliver_freeze : {receiver sender number operation : ℕ} → UnderWay (Freeze receiver sender number operation) before → (before.nodes receiver).number ≡ number
      → After (freeze_obeyed before receiver sender number operation) before after
      → ShownMove setting Earlier before after sound
  deliver_freeze {receiver} {sender} {number} {operation} there same_number change =
      let (is_started, says) = frame_says sound (Freeze receiver sender number operation) operation refl there in
      let configuration = (sound.request operation).configuration in
      let fact = WasHeld configuration receiver (held_out before receiver) in
      plain_move sound after (freeze_obeyed before receiver sender number operation) fact refl refl change change.proposals change.decisions (record {
        justified = record {
          under = joined_is sound receiver configuration says.0 (omega (arith, says.1, same_number));
          past = omega (arith, ap position change.nodes.here, says.1, same_number);
          stored = refl;
        };
        nodes = (λ other is_other. refl, freezes_in_place setting (history sound) (history_after sound after fact) receiver change.nodes.here (sound.invariant.nodes receiver).matches refl);
        rows = tt;
        frames =
            reply_stands (history_after sound after fact) sound.request after.operations.count (Held sender receiver number operation (held_out before receiver)) operation refl
            (omega (arith, is_started, change.operations.0)) (inr refl);
      })

  -- An update is delivered: it carries a decided configuration, and its receiver has joined that.
  pub deliver_update : {receiver sender : ℕ} {next : Configuration} → UnderWay (Update receiver sender next) before → MayJoin receiver (before.nodes receiver) next
      → After (update_taken before receiver next) before after
      → ShownMove setting Earlier before after sound
  deliver_update {receiver} {sender} {next} there may_join change =
      let (decided, above_0) = (sound.frames (Update receiver sender next) there).says in
      let joined = replaced sound.joined receiver next in
      record {
        effect = update_taken before receiver next;
        change = change;
        fact = NoFact;
        joined = joined;
        request = sound.request;
        justified = tt;
        nodes = (
          replaced_elsewhere sound.joined receiver next,
          joins_next setting (history sound) (history_of after joined (with_fact sound.known NoFact)) receiver next change.nodes.here (replaced_here sound.joined receiver next)
              (sound.invariant.nodes receiver).matches decided (decided_is_genuine setting (history sound) sound.invariant next decided) above_0 may_join,
        );
        requests_kept = λ index old. refl;
        rows = tt;
        started = not_started NoFact refl;
        frames = λ frame sent. absurd sent;
        proposals = proposals_stay sound after joined NoFact refl change.proposals change.decisions;
      }

  -- A node stops: for all that is known it stays where it is.
  pub stop : (node : ℕ) → After (node_stopped before node) before after → ShownMove setting Earlier before after sound
  stop node change = plain_move sound after (node_stopped before node) NoFact refl refl change change.proposals change.decisions (record {
    justified = tt;
    nodes = (
      λ other is_other. refl,
      keeps_place setting (history sound) (history_after sound after NoFact) node (stopping (before.nodes node)) change.nodes.here (sound.invariant.nodes node).matches refl
          (keeps_status (omega arith))
          (omega arith) (inl refl) (omega arith) (inl refl),
    );
    rows = tt;
    frames = λ frame sent. absurd sent;
  })

  -- A node settles: what it sends was decided under its number.
  pub settle : {node proposal : ℕ} → IsDecided before (before.nodes node).number proposal
      → After (proposal_sent before node proposal) before after
      → ShownMove setting Earlier before after sound
  settle {node} {proposal} is_decided change = plain_move sound after (proposal_sent before node proposal) NoFact refl refl change change.proposals change.decisions (record {
    justified = tt;
    nodes = λ other. refl;
    rows = tt;
    frames = λ frame sent. subst (λ f. FrameStands (history_after sound after NoFact) sound.request after.operations.count f) (sym sent.2) update_stands;
  })
    where
      update_stands : {member : ℕ} → FrameStands (history_after sound after NoFact) sound.request after.operations.count (Update member node (before.proposals.row proposal))
      update_stands = record {
        request = sound.request proposal;
        at = λ operation names. absurd (not_some operation names);
        says = (inl (sound.proposals.decided (before.nodes node).number proposal is_decided), omega (arith, is_decided.follows));
      }
        where
          not_some : (operation : ℕ) → None ≡ Some operation → ⊥
          not_some operation names = cc

  -- Frames are lost: nothing that stood depended on them.
  pub lose : After quiet before after → ShownMove setting Earlier before after sound
  lose change = plain_move sound after quiet NoFact refl refl change change.proposals change.decisions (record {
    justified = tt;
    nodes = λ other. refl;
    rows = tt;
    frames = λ frame sent. absurd sent;
  })
