-- What is asked of a node: gets, puts and freezes that it does are moves.
use Rattle.std.proofs.Common.{◌≡◌, ◌≢◌, ℕ, List, Option, Some, refl, sym, ap, ◌∙◌, inl, inr}
use Rattle.frame.proofs.Laws.{Laws}
use Rattle.frame.specs.declared.message.Head.{Head}
use Rattle.frame.specs.Lawful.{LawfulTag}
use Rattle.tables.specs.declared.copy.SheetCopy.{SheetCopy}
use Rattle.tables.specs.declared.records.NodeRecord.{NodeRecord}
use Rattle.tables.specs.declared.records.Status.TheVariants as status
use Rattle.tables.specs.Copies.{newer}
use Rattle.tables.specs.Lawful.{LawfulNode}
use Rattle.node.specs.declared.plan.Plan.{Plan}
use Rattle.node.specs.Conditions.{obeys, same_number}
use Rattle.node.specs.Rules.{on_get, on_put, on_freeze}
use Rattle.protocol.specs.State.{Idle, Get, Put, Freeze, Held, System, Setting, UnderWay}
use Rattle.protocol.specs.Changes.{storing, frozen, get_acknowledged, put_acknowledged, freeze_obeyed}
use Rattle.protocol.specs.Effects.{Becomes, Reply}
use Rattle.protocol.specs.Moves.{DeliverGet, DeliverPut, DeliverFreeze}
use Rattle.link.proofs.Contents.{lawful_round_trip}
use Rattle.link.proofs.Receiving.{IsMove, Receives, where_met, numbers_agree, receiver_obeys, receiver_takes_part}
use Rattle.link.proofs.Tags.{newer_said}
use Rattle.link.proofs.Terms.{status_said, copy_said, node_said}

module _ (width : ℕ) (setting : Setting) (before : System) (head : Head) (node : NodeRecord) (receives : Receives before head node) (operation : ℕ) (plan : Plan) where
  -- a get changes no record
  pub get_moves : node.status ≡ status.Active → UnderWay (Get head.receiver head.sender head.number operation) before → on_get node head operation ≡ Some plan → IsMove width setting before plan
  get_moves active there is = where_met (IsMove width setting before) (obeys node head) _ plan is (λ met. (
    get_acknowledged head.receiver head.sender head.number operation,
    DeliverGet head.receiver head.sender head.number operation there (receiver_obeys before head node receives active met),
    record { node = inr (refl, receives.here); operation = refl; proposal = refl; decision = refl; sends = refl },
  ))

  -- a put's copy is stored if it is newer
  pub put_moves : (copy : SheetCopy) → LawfulTag node.stored.tag → LawfulTag copy.tag → node.status ≡ status.Active
      → UnderWay (Put head.receiver head.sender head.number operation (copy_said copy)) before → on_put node head operation copy ≡ Some plan → IsMove width setting before plan
  put_moves copy stored_lawful copy_lawful active there is = where_met (IsMove width setting before) (obeys node head) _ plan is (λ met.
      let stored : storing (before.nodes head.receiver) (copy_said copy) ≡ node_said (record node { stored = newer node.stored copy }) =
      ap (λ state. storing state (copy_said copy)) receives.here ∙ ap (λ stored. record (node_said node) { stored = stored }) (newer_said node.stored copy stored_lawful copy_lawful) in (
        put_acknowledged before head.receiver head.sender head.number operation (copy_said copy),
        DeliverPut head.receiver head.sender head.number operation (copy_said copy) there (receiver_obeys before head node receives active met),
        record { node = inl (ap (Becomes head.receiver) stored); operation = refl; proposal = refl; decision = refl; sends = refl },
      ))

  -- a freeze's reply holds out the stored copy, which is read back as it is
  pub freeze_moves : {C : Type 0} (meaning : C → List ℕ) (reads : List ℕ → Option C) → Laws width meaning reads → LawfulNode meaning node → status_said node.status ≢ Idle
      → UnderWay (Freeze head.receiver head.sender head.number operation) before → on_freeze node head operation ≡ Some plan → IsMove width setting before plan
  freeze_moves meaning reads laws node_lawful not_idle there is = where_met (IsMove width setting before) (same_number node head) _ plan is (λ met.
      let held_out = ap copy_said (lawful_round_trip width meaning reads laws node.stored node_lawful.stored_lawful) ∙ sym (ap (λ state. state.stored) receives.here) in (
        freeze_obeyed before head.receiver head.sender head.number operation,
        DeliverFreeze head.receiver head.sender head.number operation there (receiver_takes_part before head node receives not_idle) (numbers_agree before head node receives met),
        record {
          node = inl (ap (λ state. Becomes head.receiver (frozen state)) receives.here);
          operation = refl;
          proposal = refl;
          decision = refl;
          sends = ap (λ copy. Reply (Held head.sender head.receiver head.number operation copy)) (sym held_out);
        },
      ))
