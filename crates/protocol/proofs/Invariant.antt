-- What holds at every point of a run, clause by clause.
use Rattle.std.proofs.Common.{◌≡◌, ℕ, suc, ◌*◌, ◌%◌, ◌<◌, ◌≤◌, true, false, ◌≢◌, ◌⊎◌}
use Rattle.protocol.specs.State.{Tag, Copy, Configuration, Setting, first_of, primary, version_of}
use Rattle.protocol.proofs.History.{Request, WasStarted, WasAcknowledged, WasAnswered, WasHeld, WasProposed, WasDecided, History, position, Genuine, AnsweredWrite, Quorum, Matches}

-- The node has left the number behind, and acknowledged no write of that number above the tag. It never will: only an active node acknowledges.
pub record LeftBelow (h : History) (number : ℕ) (tag : Tag) (node : ℕ) : Type 0 where
  pub past : 2 * number < position (h.nodes node)
  pub below : (write : Request) → h.known (WasAcknowledged write node) → write.writes ≡ true → write.configuration.number ≡ number → write.copy.tag ≤ tag

-- A proposal follows a decided configuration, and a freezing set of that one has left, and has acknowledged no write of its number above the proposed tag.
pub record SoundProposal (setting : Setting) (h : History) (next : Configuration) : Type 0 where
  pub previous : Configuration
  pub decided : h.known (WasDecided previous)
  pub follows : next.number ≡ suc previous.number
  pub opening_grows : previous.copy.tag ≤ next.copy.tag
  pub genuine : Genuine setting h next.copy
  pub left : Quorum setting.freezes previous (LeftBelow h previous.number next.copy.tag)

-- A copy that is held out is no lower than the opening one, and its node has acknowledged no write of that number above it, and never will.
pub record SoundHeld (setting : Setting) (h : History) (configuration : Configuration) (node : ℕ) (copy : Copy) : Type 0 where
  pub above_opening : configuration.copy.tag ≤ copy.tag
  pub genuine : Genuine setting h copy
  pub left : LeftBelow h configuration.number copy.tag node

-- Who acknowledged a write has stored it, or a higher copy.
pub record SoundAck (h : History) (request : Request) (node : ℕ) : Type 0 where
  pub started : h.known (WasStarted request)
  pub stored : request.writes ≡ true → request.copy.tag ≤ (h.nodes node).stored.tag

-- A node is in a decided configuration, its copies are genuine and no lower than the opening one, and what it serves is the opening copy or an answered write of its configuration.
pub record SoundNode (setting : Setting) (h : History) (node : ℕ) : Type 0 where
  pub decided : h.known (WasDecided (h.joined node))
  pub matches : Matches (h.nodes node) (h.joined node)
  pub stored_genuine : Genuine setting h (h.nodes node).stored
  pub served_genuine : Genuine setting h (h.nodes node).served
  pub stored_above_opening : (h.joined node).copy.tag ≤ (h.nodes node).stored.tag
  pub served_above_opening : (h.joined node).copy.tag ≤ (h.nodes node).served.tag
  pub served_below_newest : version_of (h.nodes node).served.tag ≤ (h.nodes node).newest
  pub served_was_answered : ((h.nodes node).served.tag ≡ (h.joined node).copy.tag) ⊎ AnsweredWrite h (h.joined node).number (h.nodes node).served.tag

-- A write's tag names its node, has a version that its node gave out, and is above the opening one.
pub record SoundWrite (h : History) (request : Request) : Type 0 where
  pub given_out : version_of request.copy.tag ≤ (h.nodes request.node).newest
  pub by_node : request.copy.tag % 32 ≡ request.node
  pub above_opening : version_of request.configuration.copy.tag < version_of request.copy.tag

-- A request was started by the primary of a decided configuration, under which the node still is, or which it has left.
pub record SoundRequest (h : History) (request : Request) : Type 0 where
  pub decided : h.known (WasDecided request.configuration)
  pub by_primary : request.node ≡ primary request.configuration.members
  pub joined : 2 * request.configuration.number ≤ position (h.nodes request.node)
  pub in_the_past : request.start ≤ h.moment
  pub write : request.writes ≡ true → SoundWrite h request

-- An answer was acknowledged by an answering set. A read's is the opening copy or an answered write of its configuration. While its node stays, it serves no lower copy.
pub record SoundAnswer (setting : Setting) (h : History) (request : Request) (copy : Copy) (moment : ℕ) : Type 0 where
  pub started : h.known (WasStarted request)
  pub acknowledged : Quorum setting.answers request.configuration (λ node. h.known (WasAcknowledged request node))
  pub write : request.writes ≡ true → copy ≡ request.copy
  pub read : request.writes ≡ false → (copy.tag ≡ request.configuration.copy.tag) ⊎ AnsweredWrite h request.configuration.number copy.tag
  pub genuine : Genuine setting h copy
  pub above_opening : request.configuration.copy.tag ≤ copy.tag
  pub after_start : request.start < moment
  pub in_the_past : moment ≤ h.moment
  pub served : request.configuration.number ≡ (h.joined request.node).number → copy.tag ≤ (h.nodes request.node).served.tag

-- the first was answered before the second started
pub record Before (h : History) (first : Request) (copy : Copy) (moment : ℕ) (second : Request) : Type 0 where
  pub answered : h.known (WasAnswered first copy moment)
  pub started : h.known (WasStarted second)
  pub in_time : moment < second.start

-- the node has left the request's number behind without having acknowledged it, and never will
pub record LeftOut (h : History) (request : Request) (node : ℕ) : Type 0 where
  pub past : 2 * request.configuration.number < position (h.nodes node)
  pub not_acknowledged : h.known (WasAcknowledged request node) → ⊥

pub record Invariant (setting : Setting) (h : History) : Type 0 where
  -- One configuration is decided for each number.
  pub one_for_each_number : (one other : Configuration) → h.known (WasDecided one) → h.known (WasDecided other) → one.number ≡ other.number → one ≡ other
  pub decided_was_proposed : (configuration : Configuration) → h.known (WasDecided configuration) → (configuration ≡ first_of setting) ⊎ h.known (WasProposed configuration)
  pub proposals : (next : Configuration) → h.known (WasProposed next) → SoundProposal setting h next
  pub held : (configuration : Configuration) (node : ℕ) (copy : Copy) → h.known (WasHeld configuration node copy) → SoundHeld setting h configuration node copy
  pub acks : (request : Request) (node : ℕ) → h.known (WasAcknowledged request node) → SoundAck h request node
  pub nodes : (node : ℕ) → SoundNode setting h node
  pub requests : (request : Request) → h.known (WasStarted request) → SoundRequest h request
  pub answers : (request : Request) (copy : Copy) (moment : ℕ) → h.known (WasAnswered request copy moment) → SoundAnswer setting h request copy moment
  -- Writes are told apart by their tags.
  pub tags_differ : (one other : Request) → h.known (WasStarted one) → h.known (WasStarted other) → one.writes ≡ true → other.writes ≡ true → one.copy.tag ≡ other.copy.tag → one ≡ other
  -- A write that starts after an answer of its own number takes a higher version: the primary serves the answer, and gives out versions above what it serves.
  pub later_write_is_higher : (first : Request) (copy : Copy) (moment : ℕ) (second : Request) → Before h first copy moment second → second.writes ≡ true
      → first.configuration.number ≡ second.configuration.number → version_of copy.tag < version_of second.copy.tag
  -- An answer to a read is no lower than any earlier answer of its number: the primary answers what it serves, which grows.
  pub later_read_is_not_lower : (first : Request) (copy : Copy) (moment : ℕ) (second : Request) (copy' : Copy) (moment' : ℕ)
      → h.known (WasAnswered first copy moment) → h.known (WasAnswered second copy' moment') → second.writes ≡ false
      → first.configuration.number ≡ second.configuration.number → moment < moment' → copy.tag ≤ copy'.tag
  -- What starts under a lower number than an earlier answer's is left out by a freezing set, so it is never answered.
  pub late_starts_are_left_out : (first : Request) (copy : Copy) (moment : ℕ) (second : Request) → Before h first copy moment second
      → second.configuration.number < first.configuration.number → Quorum setting.freezes second.configuration (LeftOut h second)
  -- A write that starts after an answer has another tag than the answer, and than all configurations up to the answer's: those tags were there before it.
  pub answers_have_other_tags : (first : Request) (copy : Copy) (moment : ℕ) (second : Request) → Before h first copy moment second → second.writes ≡ true → copy.tag ≢ second.copy.tag
  pub openings_have_other_tags : (first : Request) (copy : Copy) (moment : ℕ) (second : Request) → Before h first copy moment second → second.writes ≡ true
      → (configuration : Configuration) → h.known (WasDecided configuration) → configuration.number ≤ first.configuration.number → configuration.copy.tag ≢ second.copy.tag
