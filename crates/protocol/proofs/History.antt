-- The facts that a run establishes, one after the other. Facts only grow, so a clause about old facts never has to be proved again.
use Rattle.std.proofs.Common.{◌≡◌, ℕ, suc, ◌+◌, ◌*◌, ◌<◌, ◌≤◌, Bool, true, false, ◌⊎◌, length}
use Rattle.protocol.specs.State.{tag_of, Tag, Copy, Places, Configuration, Node, Status, Idle, Active, Frozen, Setting, first_of, node_at, primary, version_of}

-- What never changes of an operation. Only of a write does the copy say anything; and a regroup's request is never known to be started.
pub record Request : Type 0 where
  pub operation : ℕ
  pub writes : Bool
  pub node : ℕ
  pub configuration : Configuration
  pub copy : Copy
  pub start : ℕ

pub data Fact : Type 0 where
  WasStarted : Request → Fact
  WasAcknowledged : Request → ℕ → Fact  -- by a node
  WasAnswered : Request → Copy → ℕ → Fact  -- with a copy, at a moment
  WasHeld : Configuration → ℕ → Copy → Fact  -- a node that had frozen under the configuration held out the copy
  WasProposed : Configuration → Fact
  WasDecided : Configuration → Fact
  NoFact : Fact

-- a point of a run: the nodes, the configuration that each is in, the moment, and the facts so far
pub record History : Type 1 where
  pub nodes : ℕ → Node
  pub joined : ℕ → Configuration
  pub moment : ℕ
  pub known : Fact → Type 0

-- How far a node has come, as one number: twice its configuration's number while it is active there, and one more when it is not. It only grows; the node has left what it did under a number behind once it is above twice that number.
abbrev pub off_duty : Status → ℕ
off_duty Idle = 1
off_duty Active = 0
off_duty Frozen = 1

abbrev pub position : Node → ℕ
position node = 2 * node.number + off_duty node.status

pub record WrittenBy (h : History) (write : Request) (copy : Copy) : Type 0 where
  pub started : h.known (WasStarted write)
  pub writes : write.writes ≡ true
  pub same : write.copy ≡ copy

-- the first copy, or one that a write wrote
abbrev pub Genuine : Setting → History → Copy → Type 0
Genuine setting h copy = (copy ≡ (first_of setting).copy) ⊎ ((write : Request) × WrittenBy h write copy)

-- some write that was started under the number was answered with the tag
pub record AnsweredWrite (h : History) (number : ℕ) (tag : Tag) : Type 0 where
  pub write : Request
  pub copy : Copy
  pub moment : ℕ
  pub answered : h.known (WasAnswered write copy moment)
  pub writes : write.writes ≡ true
  pub under : write.configuration.number ≡ number
  pub same : copy.tag ≡ tag

-- some set of places of the configuration wins, and what is said holds of the node at each place of it
pub record Quorum (wins : ℕ → Places → Bool) (configuration : Configuration) (Each : ℕ → Type 0) : Type 0 where
  pub set : Places
  pub winning : wins (length configuration.members) set ≡ true
  pub each : (place : ℕ) → set place ≡ true → Each (node_at configuration.members place)

-- What justifies a new fact

pub record NewStart (h h' : History) (request : Request) : Type 0 where
  pub now : request.start ≡ suc h.moment
  pub ticks : h'.moment ≡ suc h.moment
  pub under : request.configuration ≡ h.joined request.node
  pub is_primary : request.node ≡ primary (h.joined request.node).members
  pub below_32 : request.node < 32
  pub tag : request.writes ≡ true → request.copy.tag ≡ tag_of (suc (h.nodes request.node).newest) request.node
  pub newest : request.writes ≡ true → (h'.nodes request.node).newest ≡ suc (h.nodes request.node).newest

-- the node is active under the request's number after the step, and has stored no lower tag than a write's
pub record NewAck (h h' : History) (request : Request) (node : ℕ) : Type 0 where
  pub started : h.known (WasStarted request)
  pub still_active : position (h'.nodes node) ≡ 2 * request.configuration.number
  pub stored : request.writes ≡ true → request.copy.tag ≤ (h'.nodes node).stored.tag

pub record NewAnswer (setting : Setting) (h h' : History) (request : Request) (copy : Copy) (moment : ℕ) : Type 0 where
  pub started : h.known (WasStarted request)
  pub now : moment ≡ suc h.moment
  pub ticks : h'.moment ≡ suc h.moment
  pub still_under : (h.joined request.node).number ≡ request.configuration.number
  pub stays : h'.joined request.node ≡ h.joined request.node
  pub acknowledged : Quorum setting.answers request.configuration (λ node. h.known (WasAcknowledged request node))
  pub write : request.writes ≡ true → (copy ≡ request.copy) × (copy.tag ≤ (h'.nodes request.node).served.tag)
  pub read : request.writes ≡ false → copy ≡ (h.nodes request.node).served

pub record NewHeld (h h' : History) (configuration : Configuration) (node : ℕ) (copy : Copy) : Type 0 where
  pub under : configuration ≡ h.joined node
  pub past : 2 * configuration.number < position (h'.nodes node)
  pub stored : copy ≡ (h.nodes node).stored

-- the node held out a copy of no higher tag
pub record HeldBelow (h : History) (configuration : Configuration) (tag : Tag) (node : ℕ) : Type 0 where
  pub copy : Copy
  pub held : h.known (WasHeld configuration node copy)
  pub below : copy.tag ≤ tag

-- A freezing set held out copies, and the proposed copy is no lower than these. It is a genuine one, and no lower than the opening copy.
pub record NewProposal (setting : Setting) (h : History) (next : Configuration) : Type 0 where
  pub previous : Configuration
  pub decided : h.known (WasDecided previous)
  pub follows : next.number ≡ suc previous.number
  pub held : Quorum setting.freezes previous (HeldBelow h previous next.copy.tag)
  pub genuine : Genuine setting h next.copy
  pub above_opening : previous.copy.tag ≤ next.copy.tag

pub record NewDecision (h : History) (configuration : Configuration) : Type 0 where
  pub proposed : h.known (WasProposed configuration)
  pub none_yet : (other : Configuration) → h.known (WasDecided other) → other.number ≡ configuration.number → ⊥

abbrev pub Justified : Setting → History → History → Fact → Type 0
Justified setting h h' (WasStarted request) = NewStart h h' request
Justified setting h h' (WasAcknowledged request node) = NewAck h h' request node
Justified setting h h' (WasAnswered request copy moment) = NewAnswer setting h h' request copy moment
Justified setting h h' (WasHeld configuration node copy) = NewHeld h h' configuration node copy
Justified setting h h' (WasProposed configuration) = NewProposal setting h configuration
Justified setting h h' (WasDecided configuration) = NewDecision h configuration
Justified setting h h' NoFact = Unit {0}

-- What a step may make of a node

-- what a node keeps of its configuration
pub record Matches (node : Node) (configuration : Configuration) : Type 0 where
  pub number : configuration.number ≡ node.number
  pub members : configuration.members ≡ node.members
  pub opening : configuration.copy.tag ≡ node.opening
  pub idle_at_0 : node.status ≡ Idle → node.number ≡ 0

-- the copy is a write of the node's own, under the number of its configuration, that was answered
pub record OwnAnswer (h h' : History) (node : ℕ) (copy : Copy) : Type 0 where
  pub write : Request
  pub moment : ℕ
  pub written : WrittenBy h write copy
  pub answered : h'.known (WasAnswered write copy moment)
  pub at : write.node ≡ node
  pub under : write.configuration.number ≡ (h.joined node).number

pub record Stays (h h' : History) (node : ℕ) : Type 0 where
  pub joined : h'.joined node ≡ h.joined node
  pub served_grows : (h.nodes node).served.tag ≤ (h'.nodes node).served.tag
  pub served : ((h'.nodes node).served ≡ (h.nodes node).served) ⊎ OwnAnswer h h' node (h'.nodes node).served

pub record Joins (h h' : History) (node : ℕ) (next : Configuration) : Type 0 where
  pub decided : h.known (WasDecided next)
  pub joined : h'.joined node ≡ next
  pub higher : (h.joined node).number < next.number
  pub stored : next.copy.tag ≤ (h'.nodes node).stored.tag
  pub served : (h'.nodes node).served ≡ next.copy
  pub newest : version_of next.copy.tag ≤ (h'.nodes node).newest

pub record NodeStep (setting : Setting) (h h' : History) (node : ℕ) : Type 0 where
  pub matches : Matches (h'.nodes node) (h'.joined node)
  pub position_grows : position (h.nodes node) ≤ position (h'.nodes node)
  pub stored_grows : (h.nodes node).stored.tag ≤ (h'.nodes node).stored.tag
  pub newest_grows : (h.nodes node).newest ≤ (h'.nodes node).newest
  pub stored : ((h'.nodes node).stored ≡ (h.nodes node).stored) ⊎ Genuine setting h (h'.nodes node).stored
  pub move : Stays h h' node ⊎ ((next : Configuration) × Joins h h' node next)

-- One step of a run: at most one fact is new, and it is justified; each node stays where it is or joins a configuration.
pub record Step (setting : Setting) (h h' : History) : Type 0 where
  pub fact : Fact
  pub grows : (old : Fact) → h.known old → h'.known old
  pub only : (some : Fact) → h'.known some → h.known some ⊎ (some ≡ fact)
  pub justified : Justified setting h h' fact
  pub moment_grows : h.moment ≤ h'.moment
  pub node : (node : ℕ) → NodeStep setting h h' node
