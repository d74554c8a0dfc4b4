-- What the rows, frames and proposals of a system stand for among the facts of its run.
use Rattle.std.proofs.Common.{◌≡◌, ℕ, suc, ◌<◌, ◌≤◌, true, false, if◌then◌else◌, ◌≢◌, ◌⊎◌, Option, Some, None}
use Rattle.protocol.specs.State.{Tag, Configuration, Kind, Read, Write, Regroup, Answered, Operation, Frame, Get, GetAck, PutAck, Freeze, Put, Held, Update, System, UnderWay, Setting, first_of, node_at}
use Rattle.protocol.specs.Conditions.{IsDecided}
use Rattle.protocol.proofs.History.{Request, Fact, WasStarted, WasAcknowledged, WasAnswered, WasHeld, WasProposed, WasDecided, History, Genuine, HeldBelow}
use Rattle.protocol.proofs.Invariant.{Invariant}
use Rattle.protocol.proofs.Lasting.{genuine_lasts}

-- The history of a system whose nodes have joined these configurations, with the facts known so far.
abbrev pub history_of : System → (ℕ → Configuration) → (Fact → Type 0) → History
history_of system joined known = record { nodes = system.nodes; joined = joined; moment = system.moment; known = known }

-- what was known, and one fact more
abbrev pub with_fact : (Fact → Type 0) → Fact → Fact → Type 0
with_fact known new fact = known fact ⊎ (fact ≡ new)

-- Rows

pub record ReadStands (h : History) (row : Operation) (request : Request) : Type 0 where
  pub started : h.known (WasStarted request)
  pub reads : request.writes ≡ false
  pub acknowledged : (place : ℕ) → row.set place ≡ true → h.known (WasAcknowledged request (node_at request.configuration.members place))
  pub answered : row.stage ≡ Answered → h.known (WasAnswered request row.copy row.answer)

pub record WriteStands (h : History) (row : Operation) (request : Request) : Type 0 where
  pub started : h.known (WasStarted request)
  pub writes : request.writes ≡ true
  pub copy : request.copy ≡ row.copy
  pub acknowledged : (place : ℕ) → row.set place ≡ true → h.known (WasAcknowledged request (node_at request.configuration.members place))
  pub answered : row.stage ≡ Answered → h.known (WasAnswered request row.copy row.answer)

-- Each place of the set held out a copy that is no higher than the row's. The row's is a genuine one, and no lower than the opening copy. A regroup is never answered.
pub record RegroupStands (setting : Setting) (h : History) (row : Operation) (request : Request) : Type 0 where
  pub decided : h.known (WasDecided request.configuration)
  pub each : (place : ℕ) → row.set place ≡ true → HeldBelow h request.configuration row.copy.tag (node_at request.configuration.members place)
  pub genuine : Genuine setting h row.copy
  pub above_opening : request.configuration.copy.tag ≤ row.copy.tag
  pub not_answered : row.stage ≢ Answered

abbrev pub StandsAs : Setting → History → Operation → Request → Kind → Type 0
StandsAs setting h row request Read = ReadStands h row request
StandsAs setting h row request Write = WriteStands h row request
StandsAs setting h row request Regroup = RegroupStands setting h row request

pub record RowStands (setting : Setting) (h : History) (index : ℕ) (row : Operation) (request : Request) : Type 0 where
  pub same_operation : request.operation ≡ index
  pub same_node : request.node ≡ row.node
  pub same_number : request.configuration.number ≡ row.number
  pub same_start : request.start ≡ row.start
  pub by_kind : StandsAs setting h row request row.kind

-- Every started request is found in its row.
pub record FoundIn (system : System) (request_of : ℕ → Request) (request : Request) : Type 0 where
  pub operation : ℕ
  pub is_started : operation < system.operations.count
  pub here : request_of operation ≡ request
  pub kind : (system.operations.row operation).kind ≡ (if request.writes then Write else Read)

-- Frames

-- what a frame says of the request that it is about
abbrev pub Says : History → Frame → Request → Type 0
Says h (Get receiver sender number operation) request = h.known (WasStarted request) × (request.writes ≡ false) × (request.configuration.number ≡ number)
Says h (Put receiver sender number operation copy) request =
    h.known (WasStarted request) × (request.writes ≡ true) × (request.configuration.number ≡ number) × (request.copy ≡ copy)
Says h (Freeze receiver sender number operation) request = h.known (WasDecided request.configuration) × (request.configuration.number ≡ number)
Says h (GetAck receiver sender number operation) request = h.known (WasAcknowledged request sender)
Says h (PutAck receiver sender number operation) request = h.known (WasAcknowledged request sender)
Says h (Held receiver sender number operation copy) request = h.known (WasHeld request.configuration sender copy)
Says h (Update receiver sender next) request = h.known (WasDecided next) × (0 < next.number)

-- the operation that a frame names; an update names none
abbrev pub named : Frame → Option ℕ
named (Get receiver sender number operation) = Some operation
named (Put receiver sender number operation copy) = Some operation
named (Freeze receiver sender number operation) = Some operation
named (GetAck receiver sender number operation) = Some operation
named (PutAck receiver sender number operation) = Some operation
named (Held receiver sender number operation copy) = Some operation
named (Update receiver sender next) = None

pub record FrameStands (h : History) (request_of : ℕ → Request) (count : ℕ) (frame : Frame) : Type 0 where
  pub request : Request
  pub at : (operation : ℕ) → named frame ≡ Some operation → (operation < count) × (request_of operation ≡ request)
  pub says : Says h frame request

-- Proposals

pub record DecidedIn (system : System) (configuration : Configuration) : Type 0 where
  pub number : ℕ
  pub proposal : ℕ
  pub follows : configuration.number ≡ suc number
  pub decision : system.decisions number ≡ Some proposal
  pub is_there : proposal < system.proposals.count
  pub here : system.proposals.row proposal ≡ configuration

-- A proposal that is there was proposed; one that is decided under the number before its own was decided; and nothing else was.
pub record ProposalsStand (setting : Setting) (system : System) (h : History) : Type 0 where
  pub proposed : (proposal : ℕ) → proposal < system.proposals.count → h.known (WasProposed (system.proposals.row proposal))
  pub decided : (number proposal : ℕ) → IsDecided system number proposal → h.known (WasDecided (system.proposals.row proposal))
  pub back : (configuration : Configuration) → h.known (WasDecided configuration) → (configuration ≡ first_of setting) ⊎ DecidedIn system configuration

-- What is shown of every system that a run reaches. `Earlier` are facts that were known at some earlier point of it.
pub record Sound (setting : Setting) (Earlier : Fact → Type 0) (system : System) : Type 1 where
  pub joined : ℕ → Configuration
  pub request : ℕ → Request
  pub known : Fact → Type 0
  pub earlier : (fact : Fact) → Earlier fact → known fact
  pub invariant : Invariant setting (history_of system joined known)
  pub rows : (index : ℕ) → index < system.operations.count → RowStands setting (history_of system joined known) index (system.operations.row index) (request index)
  pub back : (started : Request) → known (WasStarted started) → FoundIn system request started
  pub frames : (frame : Frame) → UnderWay frame system → FrameStands (history_of system joined known) request system.operations.count frame
  pub proposals : ProposalsStand setting system (history_of system joined known)

abbrev pub history : {setting : Setting} {Earlier : Fact → Type 0} {system : System} → Sound setting Earlier system → History
history {system} sound = history_of system sound.joined sound.known

-- the history after a move from a sound system, if the move establishes the fact and nobody joins
abbrev pub history_after : {setting : Setting} {Earlier : Fact → Type 0} {before : System} → Sound setting Earlier before → System → Fact → History
history_after sound after fact = history_of after sound.joined (with_fact sound.known fact)

-- What stands, stands when facts are added.
module _ (h h' : History) (up : (fact : Fact) → h.known fact → h'.known fact) where
  pub held_below_lasts : (configuration : Configuration) (tag : Tag) (node : ℕ) → HeldBelow h configuration tag node → HeldBelow h' configuration tag node
  held_below_lasts configuration tag node old = record { copy = old.copy; held = up (WasHeld configuration node old.copy) old.held; below = old.below }

  stands_as_lasts : (setting : Setting) (row : Operation) (request : Request) (kind : Kind) → StandsAs setting h row request kind → StandsAs setting h' row request kind
  stands_as_lasts setting row request Read old = record {
    started = up (WasStarted request) old.started;
    reads = old.reads;
    acknowledged = λ place joined. up (WasAcknowledged request (node_at request.configuration.members place)) (old.acknowledged place joined);
    answered = λ answered. up (WasAnswered request row.copy row.answer) (old.answered answered);
  }
  stands_as_lasts setting row request Write old = record {
    started = up (WasStarted request) old.started;
    writes = old.writes;
    copy = old.copy;
    acknowledged = λ place joined. up (WasAcknowledged request (node_at request.configuration.members place)) (old.acknowledged place joined);
    answered = λ answered. up (WasAnswered request row.copy row.answer) (old.answered answered);
  }
  stands_as_lasts setting row request Regroup old = record {
    decided = up (WasDecided request.configuration) old.decided;
    each = λ place joined. held_below_lasts request.configuration row.copy.tag (node_at request.configuration.members place) (old.each place joined);
    genuine = genuine_lasts up setting old.genuine;
    above_opening = old.above_opening;
    not_answered = old.not_answered;
  }

  pub row_lasts : (setting : Setting) (index : ℕ) (row : Operation) (request : Request) → RowStands setting h index row request → RowStands setting h' index row request
  row_lasts setting index row request old = record {
    same_operation = old.same_operation;
    same_node = old.same_node;
    same_number = old.same_number;
    same_start = old.same_start;
    by_kind = stands_as_lasts setting row request row.kind old.by_kind;
  }

  pub says_lasts : (frame : Frame) (request : Request) → Says h frame request → Says h' frame request
  says_lasts (Get receiver sender number operation) request old = (up (WasStarted request) old.0, old.1, old.2)
  says_lasts (Put receiver sender number operation copy) request old = (up (WasStarted request) old.0, old.1, old.2, old.3)
  says_lasts (Freeze receiver sender number operation) request old = (up (WasDecided request.configuration) old.0, old.1)
  says_lasts (GetAck receiver sender number operation) request old = up (WasAcknowledged request sender) old
  says_lasts (PutAck receiver sender number operation) request old = up (WasAcknowledged request sender) old
  says_lasts (Held receiver sender number operation copy) request old = up (WasHeld request.configuration sender copy) old
  says_lasts (Update receiver sender next) request old = (up (WasDecided next) old.0, old.1)
