-- A frame's receiver, which is running, in the words of the protocol; and the move that a plan of its is.
use Rattle.std.proofs.Common.{◌≡◌, ◌≢◌, ℕ, Bool, true, false, Some, None, if◌then◌else◌, sym, ap, subst, ◌∙◌, arith}
use Rattle.std.proofs.lemmas.Bool.Decides.{nat_tests}
use Rattle.std.proofs.lemmas.Option.{cond_some}
use Rattle.frame.specs.declared.message.Head.{Head}
use Rattle.tables.specs.declared.records.NodeRecord.{NodeRecord}
use Rattle.tables.specs.declared.records.Status.TheVariants as status
use Rattle.node.specs.declared.plan.Plan.{Plan}
use Rattle.node.specs.Conditions.{same_number, obeys}
use Rattle.protocol.specs.State.{Idle, System, Setting}
use Rattle.protocol.specs.Conditions.{TakesPart, Obeys}
use Rattle.protocol.specs.Effects.{Effect}
use Rattle.protocol.specs.Moves.{Allowed}
use Rattle.link.proofs.Following.{Follows}
use Rattle.link.proofs.Terms.{status_said, node_said}

-- an allowed effect follows the plan
abbrev pub IsMove : ℕ → Setting → System → Plan → Type 0
IsMove width setting before plan = (effect : Effect) × Allowed setting before effect × Follows width plan before effect

-- the node's record, which is not stopped, stands for it
pub record Receives (before : System) (head : Head) (node : NodeRecord) : Type 0 where
  pub here : before.nodes head.receiver ≡ node_said node
  pub running : node.stopped ≡ false

-- What is planned where a condition is met is planned.
pub where_met : {A : Type 0} (P : A → Type 0) (met : Bool) (planned plan : A) → (if met then Some planned else None) ≡ Some plan → (met ≡ true → P planned) → P plan
where_met P met planned plan is holds = let (is_met, same) = cond_some met planned plan is in subst P same (holds is_met)

module _ (before : System) (head : Head) (node : NodeRecord) (receives : Receives before head node) where
  pub numbers_agree : same_number node head ≡ true → (before.nodes head.receiver).number ≡ head.number
  numbers_agree same = let agree : node.configuration.number ≡ head.number = grind (arith, nat_tests) in ap (λ state. state.number) receives.here ∙ agree

  pub receiver_obeys : node.status ≡ status.Active → obeys node head ≡ true → Obeys (before.nodes head.receiver) head.sender head.number
  receiver_obeys active met = subst (λ state. Obeys state head.sender head.number) (sym receives.here) (record {
    running = receives.running;
    still_active = ap status_said active;
    same_number = grind (arith, nat_tests);
    is_primary = grind (arith, nat_tests);
  })

  pub receiver_takes_part : status_said node.status ≢ Idle → TakesPart (before.nodes head.receiver)
  receiver_takes_part not_idle = subst TakesPart (sym receives.here) (record { running = receives.running; not_idle = not_idle })
