-- An update that a node takes is a move: it joins the configuration.
use Rattle.std.proofs.Common.{◌≡◌, ◌⊎◌, ℕ, ◌<◌, Bool, true, false, ◌||◌, ◌&&◌, ◌==◌, nat_lt, max, is_some, Some, None, Option, refl, sym, ap, subst, ◌∙◌, inl, inr, arith}
use Rattle.std.proofs.lemmas.Bool.Decides.{nat_tests}
use Rattle.std.proofs.lemmas.List.Quantifiers.{position-Some}
use Rattle.frame.specs.declared.message.Head.{Head}
use Rattle.frame.specs.Lawful.{LawfulTag}
use Rattle.tables.specs.declared.copy.SheetCopy.{SheetCopy}
use Rattle.tables.specs.declared.members.Members.{Members}
use Rattle.tables.specs.declared.records.NodeRecord.{NodeRecord}
use Rattle.tables.specs.declared.records.Status as record_status
use Rattle.tables.specs.declared.records.Status.TheVariants as status
use Rattle.tables.specs.Copies.{newer}
use Rattle.tables.specs.Members.{listed, place_of}
use Rattle.node.specs.declared.plan.Plan.{Plan}
use Rattle.node.specs.Conditions.{is_idle, may_join}
use Rattle.node.specs.Rules.{joining, on_update}
use Rattle.protocol.specs.State.{version_of, Copy, Configuration, Idle, Active, Node, IsMember, Update, System, Setting, UnderWay}
use Rattle.protocol.specs.Changes as changes
use Rattle.protocol.specs.Changes.{update_taken}
use Rattle.protocol.specs.Conditions.{MayJoin}
use Rattle.protocol.specs.Effects.{Becomes}
use Rattle.protocol.specs.Moves.{DeliverUpdate}
use Rattle.link.proofs.Receiving.{IsMove, Receives, where_met}
use Rattle.link.proofs.Tags.{newer_said, version_said}
use Rattle.link.proofs.Terms.{tag_said, status_said, copy_said, node_said}

-- the configuration that an update carries
abbrev pub carried : Head → Members → SheetCopy → Configuration
carried head members copy = record { number = head.number; members = listed members; copy = copy_said copy }

-- a node with a place is a member
is_member_at : (node : ℕ) (members : Members) (place : Option ℕ) → place_of members node ≡ place → is_some place ≡ true → IsMember node (listed members)
is_member_at node members (Some place) found some = let at = position-Some (λ member. member == node) (listed members) place 0 found in (place, at.0, grind (arith, nat_tests))
is_member_at node members None found some = absurd (cc)

idle_is : (is : record_status.Status) → is_idle is ≡ true → status_said is ≡ Idle
idle_is status.Idle idle = refl
idle_is is idle = absurd (cc)

idle_or_lower : (is : record_status.Status) (number next : ℕ) (idle : Bool) → is_idle is ≡ idle → (idle || nat_lt number next) ≡ true → (status_said is ≡ Idle) ⊎ (number < next)
idle_or_lower is number next true idle either = inl (idle_is is idle)
idle_or_lower is number next false idle lower = inr (grind (arith, nat_tests))

both : (one other : Bool) → (one && other) ≡ true → (one ≡ true) × (other ≡ true)
both true true met = (refl, refl)
both one other met = absurd (cc)

module _ (width : ℕ) (setting : Setting) (before : System) (head : Head) (node : NodeRecord) (receives : Receives before head node) (members : Members) (copy : SheetCopy) where
  may_join_said : may_join node head members ≡ true → MayJoin head.receiver (before.nodes head.receiver) (carried head members copy)
  may_join_said met =
      let parts = both (is_some (place_of members head.receiver)) (is_idle node.status || nat_lt node.configuration.number head.number) met in
      subst (λ state. MayJoin head.receiver state (carried head members copy)) (sym receives.here) (record {
        running = receives.running;
        is_member = is_member_at head.receiver members (place_of members head.receiver) refl parts.0;
        idle_or_lower = idle_or_lower node.status node.configuration.number head.number (is_idle node.status) refl parts.1;
      })

  -- a node that joins, with what it has stored and its newest version
  abbrev joining_with : Copy → ℕ → Node
  joining_with stored newest = record {
    status = Active;
    stopped = node.stopped;
    number = head.number;
    members = listed members;
    opening = (copy_said copy).tag;
    stored = stored;
    served = copy_said copy;
    newest = newest;
  }

  joining_said : LawfulTag node.stored.tag → LawfulTag copy.tag → changes.joining (before.nodes head.receiver) (carried head members copy) ≡ node_said (joining node head members copy)
  joining_said stored_lawful copy_lawful =
      ap (λ state. changes.joining state (carried head members copy)) receives.here
      ∙ ap (λ stored. joining_with stored (max node.newest (version_of (tag_said copy.tag)))) (newer_said node.stored copy stored_lawful copy_lawful)
      ∙ ap (λ version. joining_with (copy_said (newer node.stored copy)) (max node.newest version)) (version_said copy.tag copy_lawful)

  pub update_moves : (plan : Plan) → LawfulTag node.stored.tag → LawfulTag copy.tag → UnderWay (Update head.receiver head.sender (carried head members copy)) before
      → on_update node head members copy ≡ Some plan → IsMove width setting before plan
  update_moves plan stored_lawful copy_lawful there is = where_met (IsMove width setting before) (may_join node head members) _ plan is (λ met. (
    update_taken before head.receiver (carried head members copy),
    DeliverUpdate head.receiver head.sender (carried head members copy) there (may_join_said met),
    record { node = inl (ap (Becomes head.receiver) (joining_said stored_lawful copy_lawful)); operation = refl; proposal = refl; decision = refl; sends = refl },
  ))
