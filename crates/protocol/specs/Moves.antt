-- The moves of the protocol, and the runs that are made of them.
use Rattle.std.specs.Prelude.{◌≡◌, ℕ, true, false, List, [], if◌then◌else◌, ◌==◌}
use Rattle.std.specs.List.{list_any}
use Rattle.protocol.specs.State.{Content, Copy, first_tag, Configuration, Idle, Active, Node, Read, Write, Regroup, Get, GetAck, PutAck, Freeze, Put, Held, Update, System, UnderWay, Setting, first_of}
use Rattle.protocol.specs.Effects.{Effect, quiet, After}
use Rattle.protocol.specs.Conditions.{Leads, TakesPart, Obeys, MayJoin, IsOpen, Counts, CountsAck, Enough, FirstOrHigher, NotHigher, Proposes, Undecided, IsDecided}
use Rattle.protocol.specs.Changes.{read_starts, write_starts, regroup_starts, get_acknowledged, put_acknowledged, freeze_obeyed, place_joins, read_answered, write_answered, held_taken, update_taken, regroup_proposed, proposal_sent, proposal_decided, operation_given_up, node_stopped}

-- Which effects a system allows, move by move. Deliveries are of frames under way, of all seven kinds. A frame that meets no condition is ignored, which is no move.
pub data Allowed (setting : Setting) (before : System) : Effect → Type 0 where
  StartRead : (node : ℕ) → Leads node (before.nodes node) → Allowed setting before (read_starts before node)
  StartWrite : (node : ℕ) (content : Content) → Leads node (before.nodes node) → Allowed setting before (write_starts before node content)
  StartRegroup : (node : ℕ) (new_members : List ℕ) → TakesPart (before.nodes node) → Allowed setting before (regroup_starts before node new_members)
  DeliverGet : (receiver sender number operation : ℕ) → UnderWay (Get receiver sender number operation) before → Obeys (before.nodes receiver) sender number
      → Allowed setting before (get_acknowledged receiver sender number operation)
  DeliverPut : (receiver sender number operation : ℕ) (copy : Copy) → UnderWay (Put receiver sender number operation copy) before → Obeys (before.nodes receiver) sender number
      → Allowed setting before (put_acknowledged before receiver sender number operation copy)
  DeliverFreeze : (receiver sender number operation : ℕ) → UnderWay (Freeze receiver sender number operation) before → TakesPart (before.nodes receiver) → (before.nodes receiver).number ≡ number
      → Allowed setting before (freeze_obeyed before receiver sender number operation)
  -- an acknowledgement that is counted, and is not enough yet
  DeliverGetAck : (receiver sender number operation place : ℕ) → UnderWay (GetAck receiver sender number operation) before
      → CountsAck before Read receiver sender number operation place → Enough setting before receiver operation place false → Allowed setting before (place_joins before operation place)
  DeliverPutAck : (receiver sender number operation place : ℕ) → UnderWay (PutAck receiver sender number operation) before
      → CountsAck before Write receiver sender number operation place → Enough setting before receiver operation place false → Allowed setting before (place_joins before operation place)
  -- one that is enough
  AnswerRead : (receiver sender number operation place : ℕ) → UnderWay (GetAck receiver sender number operation) before
      → CountsAck before Read receiver sender number operation place → Enough setting before receiver operation place true → Allowed setting before (read_answered before receiver operation place)
  AnswerWrite : (receiver sender number operation place : ℕ) → UnderWay (PutAck receiver sender number operation) before
      → CountsAck before Write receiver sender number operation place → Enough setting before receiver operation place true → Allowed setting before (write_answered before receiver operation place)
  DeliverHeld : (receiver sender number operation place : ℕ) (copy : Copy) → UnderWay (Held receiver sender number operation copy) before → TakesPart (before.nodes receiver)
      → Counts before Regroup receiver sender number operation place → FirstOrHigher (before.operations.row operation) copy → Allowed setting before (held_taken before operation place copy)
  DeliverLowerHeld : (receiver sender number operation place : ℕ) (copy : Copy) → UnderWay (Held receiver sender number operation copy) before → TakesPart (before.nodes receiver)
      → Counts before Regroup receiver sender number operation place → NotHigher (before.operations.row operation) copy → Allowed setting before (place_joins before operation place)
  DeliverUpdate : (receiver sender : ℕ) (next : Configuration) → UnderWay (Update receiver sender next) before → MayJoin receiver (before.nodes receiver) next
      → Allowed setting before (update_taken before receiver next)
  Propose : (operation : ℕ) → Proposes setting before operation → Allowed setting before (regroup_proposed before operation)
  Settle : (node proposal : ℕ) → TakesPart (before.nodes node) → IsDecided before (before.nodes node).number proposal → Allowed setting before (proposal_sent before node proposal)
  -- the chooser decides under a number, once: on any proposal, made already or not
  Decide : (number proposal : ℕ) → Undecided before number → Allowed setting before (proposal_decided number proposal)
  GiveUp : (operation : ℕ) → IsOpen before operation → Allowed setting before (operation_given_up before operation)
  -- a stopped node makes no move from now on
  Stop : (node : ℕ) → Allowed setting before (node_stopped before node)
  -- frames are lost, and nothing else happens
  Lose : Allowed setting before quiet

-- A move: an effect that is allowed, and the system after it.
abbrev pub Move : Setting → System → System → Type 0
Move setting before after = (effect : Effect) × Allowed setting before effect × After effect before after

-- what each node is at the opening
abbrev pub opened : Setting → ℕ → Node
opened setting node = record {
  status = if list_any (λ member. member == node) setting.members then Active else Idle;
  stopped = false;
  number = 0;
  members = setting.members;
  opening = first_tag;
  stored = (first_of setting).copy;
  served = (first_of setting).copy;
  newest = 0;
}

-- The opening: every node holds configuration 0 and its copy; members are active, others idle. Nothing was started, nothing is under way. The chooser may have been used before.
pub record Opens (setting : Setting) (system : System) : Type 0 where
  pub nodes : (node : ℕ) → system.nodes node ≡ opened setting node
  pub no_operations : system.operations.count ≡ 0
  pub no_proposals : system.proposals.count ≡ 0
  pub no_frames : system.frames ≡ []
  pub moment : system.moment ≡ 0

-- what a run has reached from an opening
pub data Reached (setting : Setting) : System → Type 0 where
  AtOpening : {system : System} → Opens setting system → Reached setting system
  ByMove : {before after : System} → Reached setting before → Move setting before after → Reached setting after

-- what a run reaches from some point on
pub data Later (setting : Setting) (early : System) : System → Type 0 where
  Now : Later setting early early
  AfterMove : {between late : System} → Later setting early between → Move setting between late → Later setting early late
