-- When moves are allowed.
use Rattle.std.specs.Prelude.{◌≡◌, ℕ, suc, ◌<◌, Bool, true, false, ◌≢◌, ◌⊎◌, ◌≤◌, length, Some, None}
use Rattle.protocol.specs.State.{Copy, node_at, primary, IsMember, joined_by, Configuration, Idle, Active, Node, Kind, Regroup, Open, Operation, System, Setting}

-- Of nodes

-- the node may start reads and writes; only nodes below 32 do, so that a tag tells its node
pub record Leads (node : ℕ) (state : Node) : Type 0 where
  pub running : state.stopped ≡ false
  pub active : state.status ≡ Active
  pub is_primary : node ≡ primary state.members
  pub below_32 : node < 32

-- the node is running, and in a group, be it active or frozen
pub record TakesPart (state : Node) : Type 0 where
  pub running : state.stopped ≡ false
  pub not_idle : state.status ≢ Idle

-- The node does what the sender asks of it under the number. A frozen node does not: what it acknowledged then would not be in what it held out.
pub record Obeys (state : Node) (sender number : ℕ) : Type 0 where
  pub running : state.stopped ≡ false
  pub still_active : state.status ≡ Active
  pub same_number : state.number ≡ number
  pub is_primary : sender ≡ primary state.members

-- the node joins the configuration: from none, or from a lower number
pub record MayJoin (node : ℕ) (state : Node) (next : Configuration) : Type 0 where
  pub running : state.stopped ≡ false
  pub is_member : IsMember node next.members
  pub idle_or_lower : (state.status ≡ Idle) ⊎ (state.number < next.number)

-- Of operations

pub record IsOpen (system : System) (operation : ℕ) : Type 0 where
  pub is_started : operation < system.operations.count
  pub still_open : (system.operations.row operation).stage ≡ Open

-- The receiver counts what the sender says of the operation: it is an open one of this kind, was started here under the number that the receiver is still under, and the sender is at the place.
pub record Counts (system : System) (kind : Kind) (receiver sender number operation place : ℕ) : Type 0 where
  pub same_number : (system.nodes receiver).number ≡ number
  pub waits : IsOpen system operation
  pub of_kind : (system.operations.row operation).kind ≡ kind
  pub here : (system.operations.row operation).node ≡ receiver
  pub under : (system.operations.row operation).number ≡ number
  pub is_place : place < length (system.nodes receiver).members
  pub is_sender : node_at (system.nodes receiver).members place ≡ sender

-- the receiver counts an acknowledgement, for which it has to be active
pub record CountsAck (system : System) (kind : Kind) (receiver sender number operation place : ℕ) : Type 0 where
  pub running : (system.nodes receiver).stopped ≡ false
  pub active : (system.nodes receiver).status ≡ Active
  pub counts : Counts system kind receiver sender number operation place

-- whether the places that acknowledged the operation are enough, once this one has joined them
abbrev pub Enough : Setting → System → ℕ → ℕ → ℕ → Bool → Type 0
Enough setting system receiver operation place enough =
    setting.answers (length (system.nodes receiver).members) (joined_by (system.operations.row operation).set place) ≡ enough

-- The first copy that is held out for a regroup, or one that is higher than all before.
abbrev pub FirstOrHigher : Operation → Copy → Type 0
FirstOrHigher operation copy = (operation.copy.tag < copy.tag) ⊎ ((place : ℕ) → operation.set place ≡ false)

-- neither of the two
abbrev pub NotHigher : Operation → Copy → Type 0
NotHigher operation copy = (copy.tag ≤ operation.copy.tag) × (place : ℕ) × (operation.set place ≡ true)

-- an open regroup whose places freeze the group of its node, which is still under the number that it was started under
pub record Proposes (setting : Setting) (system : System) (operation : ℕ) : Type 0 where
  pub waits : IsOpen system operation
  pub is_regroup : (system.operations.row operation).kind ≡ Regroup
  pub running : (system.nodes (system.operations.row operation).node).stopped ≡ false
  pub under : (system.nodes (system.operations.row operation).node).number ≡ (system.operations.row operation).number
  pub freezes : setting.freezes (length (system.nodes (system.operations.row operation).node).members) (system.operations.row operation).set ≡ true

-- Of decisions

-- nothing is decided under the number
abbrev pub Undecided : System → ℕ → Type 0
Undecided system number = system.decisions number ≡ None

-- The proposal was decided under the number, is there, and is for the next number. A chooser that was used before may have decided a proposal that is for another one.
pub record IsDecided (system : System) (number proposal : ℕ) : Type 0 where
  pub decision : system.decisions number ≡ Some proposal
  pub is_there : proposal < system.proposals.count
  pub follows : (system.proposals.row proposal).number ≡ suc number
