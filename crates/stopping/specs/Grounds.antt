-- The table of grounds: when each ground holds of a call, by itself, whatever else holds; and what it is to stop rightly. Nothing here says in which order a call asks.
use Rattle.std.specs.Prelude.{◌≡◌, ◌≢◌, ◌⊎◌, ℕ, ◌<◌, ◌≤◌, true, false, length, take, slice_get, Option, Some, None, IsSomeAnd, option_map, option_and_then, Result, Ok, Err}
use Rattle.calls.specs.declared.call.Answer.{Answer}
use Rattle.calls.specs.declared.call.Call.{Call}
use Rattle.calls.specs.declared.call.Call.TheVariants.{Open, Read, Write, Regroup, Propose, Settle, Work, Deliver, Lose, GiveUp, Stop, Look}
use Rattle.chooser.specs.Meaning as chooser
use Rattle.chooser.specs.Meaning.{decision_at}
use Rattle.desk.specs.Asking.{record_of}
use Rattle.desk.specs.Limits.{node_records}
use Rattle.desk.specs.Lists.{is_lawful}
use Rattle.desk.specs.Tables.{lengths_of, allowed_lengths, same_lengths}
use Rattle.fault.specs.declared.Fault.{Fault}
use Rattle.fault.specs.declared.Fault.TheVariants.{Closed, AlreadyOpen, TableLength, NoSlot, Unreadable, NotStarted, NotOpen, NoRegroup, NoNode, NodeCount, Stopped, Idle, Frozen, NotPrimary, OtherNumber, Unlawful, TooFewFrozen, NoDecision, NotProposed, OperationsUsed, LastVersion, TooFewSlots, ProposalsUsed, Chooser}
use Rattle.fault.specs.Faults.{number}
use Rattle.floor.specs.State.{State}
use Rattle.frame.specs.declared.fault.FrameFault.{FrameFault}
use Rattle.frame.specs.Limits.{highest_version}
use Rattle.frame.specs.Messages.{Said, reading}
use Rattle.law.specs.Runs.{Parts}
use Rattle.node.specs.Received.{head_said}
use Rattle.node.specs.Rules.{planned}
use Rattle.slots.specs.Slots.{is_empty, empty_count}
use Rattle.tables.specs.declared.members.Members.{Members}
use Rattle.tables.specs.declared.records.NodeRecord.{NodeRecord}
use Rattle.tables.specs.declared.records.OperationKind.TheVariants as kind
use Rattle.tables.specs.declared.records.OperationRow.{OperationRow}
use Rattle.tables.specs.declared.records.OperationState.TheVariants as state
use Rattle.tables.specs.declared.records.ProposalRow.{ProposalRow}
use Rattle.tables.specs.declared.records.Status.TheVariants as status
use Rattle.tables.specs.Members.{size, primary}
use Rattle.writer.specs.Table.{slots, slot_of}

-- Which calls are asked, and what about: None of a call that is not asked.
module _ {C : Type 0} where
  -- the count and the members that a floor is to be opened with
  abbrev pub opening : Call C → Option (ℕ × Members)
  opening (Open count members content) = Some (count, members)
  opening _ = None

  -- the slot of a frame that leaves the network or is delivered
  abbrev pub slot_named : Call C → Option ℕ
  slot_named (Deliver slot) = Some slot
  slot_named (Lose slot) = Some slot
  slot_named _ = None

  abbrev pub slot_delivered : Call C → Option ℕ
  slot_delivered (Deliver slot) = Some slot
  slot_delivered _ = None

  abbrev pub operation_named : Call C → Option ℕ
  operation_named (Propose operation) = Some operation
  operation_named (GiveUp operation) = Some operation
  operation_named (Look operation) = Some operation
  operation_named _ = None

  -- the operation that is to be open
  abbrev pub open_operation : Call C → Option ℕ
  open_operation (Propose operation) = Some operation
  open_operation (GiveUp operation) = Some operation
  open_operation _ = None

  abbrev pub regroup_proposed : Call C → Option ℕ
  regroup_proposed (Propose operation) = Some operation
  regroup_proposed _ = None

  -- the node that is to be in a group
  abbrev pub member_named : Call C → Option ℕ
  member_named (Read node) = Some node
  member_named (Write node content) = Some node
  member_named (Regroup node members) = Some node
  member_named (Settle node) = Some node
  member_named _ = None

  -- the node that is to be the primary of its group
  abbrev pub primary_named : Call C → Option ℕ
  primary_named (Read node) = Some node
  primary_named (Write node content) = Some node
  primary_named _ = None

  -- the node that an operation is to start at
  abbrev pub node_starting : Call C → Option ℕ
  node_starting (Read node) = Some node
  node_starting (Write node content) = Some node
  node_starting (Regroup node members) = Some node
  node_starting _ = None

  abbrev pub node_writing : Call C → Option ℕ
  node_writing (Write node content) = Some node
  node_writing _ = None

  abbrev pub node_settling : Call C → Option ℕ
  node_settling (Settle node) = Some node
  node_settling _ = None

-- the answer, if it is no fault
abbrev pub if_read : Result Said FrameFault → Option Said
if_read (Ok message) = Some message
if_read (Err fault) = None

module _ {C Q S : Type 0} (parts : Parts C Q S) (before : State Q S) where
  -- What the state before the call has

  -- the node has a record, of which this holds
  abbrev pub AtNode : ℕ → (NodeRecord → Type 0) → Type 0
  AtNode node P = IsSomeAnd (record_of before.t.nodes node) P

  -- the operation has a row, of which this holds
  abbrev pub AtRow : ℕ → (OperationRow → Type 0) → Type 0
  AtRow operation P = IsSomeAnd (slice_get before.t.operations operation) P

  -- the regroup's row, and the record of its node
  abbrev pub AtRegroup : ℕ → (OperationRow → NodeRecord → Type 0) → Type 0
  AtRegroup operation P = AtRow operation (λ row. AtNode row.node (P row))

  -- what reading the frame in a slot answers
  abbrev pub read_in : ℕ → Result Said FrameFault
  read_in slot = reading parts.width parts.from_bytes (slot_of before.t.frames slot)

  -- what is decided under a number
  abbrev pub decision : ℕ → Option ℕ
  decision number = decision_at (parts.decided before.chooser) number

  -- a used proposal row of the number
  pub record IsProposed (number proposal : ℕ) : Type 0 where
    pub used : proposal < before.desk.proposals_used
    pub row : ProposalRow
    pub here : slice_get before.t.proposals proposal ≡ Some row
    pub of_number : row.number ≡ number

  -- the frames of a reply: one, where a reply is due
  abbrev pub reply_due : Said → NodeRecord → Option ℕ
  reply_due message found =
      option_and_then (λ plan. option_map (λ _. 1) plan.reply) (planned (parts.winning before.rule) found (take before.desk.operations_used before.t.operations) before.desk.moment message)

  -- how many frames the call is to send: to each member of the node's group, to each member of the proposal, or a reply to what is delivered
  abbrev pub frames_due : Call C → Option ℕ
  frames_due (Read node) = option_map (λ found. size found.configuration.members) (record_of before.t.nodes node)
  frames_due (Write node content) = option_map (λ found. size found.configuration.members) (record_of before.t.nodes node)
  frames_due (Regroup node members) = option_map (λ found. size found.configuration.members) (record_of before.t.nodes node)
  frames_due (Settle node) =
      option_and_then (λ found. option_and_then (λ proposal. option_map (λ row. size row.members) (slice_get before.t.proposals proposal)) (decision found.configuration.number)) (record_of before.t.nodes node)
  frames_due (Deliver slot) = option_and_then (λ message. option_and_then (reply_due message) (record_of before.t.nodes (head_said message).receiver)) (if_read (read_in slot))
  frames_due _ = None

  -- the node that is to be one of the floor, and running: of a delivery the frame's receiver
  abbrev pub node_named : Call C → Option ℕ
  node_named (Read node) = Some node
  node_named (Write node content) = Some node
  node_named (Regroup node members) = Some node
  node_named (Settle node) = Some node
  node_named (Stop node) = Some node
  node_named (Deliver slot) = option_map (λ message. (head_said message).receiver) (if_read (read_in slot))
  node_named _ = None

  -- the list of members that is to be lawful, and the number that none may be above
  abbrev pub members_chosen : Call C → Option (Members × ℕ)
  members_chosen (Open count members content) = Some (members, count)
  members_chosen (Regroup node members) = Some (members, before.desk.node_count)
  members_chosen _ = None

  -- the node has stopped; so has, in propose, a node of which there is no record
  abbrev pub HasStopped : Call C → Type 0
  HasStopped (Propose operation) = AtRow operation (λ row. (record_of before.t.nodes row.node ≡ None) ⊎ AtNode row.node (λ found. found.stopped ≡ true))
  HasStopped call = IsSomeAnd (node_named call) (λ node. AtNode node (λ found. found.stopped ≡ true))

  -- The chooser answered so, and became what it is after the call. In a call that asks no chooser it counts as having taken.
  abbrev pub Chose : Call C → chooser.Answer → S → Type 0
  Chose (Propose operation) told after = AtRow operation (λ row. parts.offering before.chooser row.number before.desk.proposals_used told after)
  Chose (Work number step ballot set) told after = parts.working before.chooser number step ballot set told after
  Chose call told after = told ≡ Ok tt

  -- The table, by the numbers of docs/grounds.md: the ground holds of the call. That the chooser refused is told by what it became, so the chooser after the call is named, too.
  abbrev pub Holds : Call C → S → Fault → Type 0
  -- 1
  Holds call after Closed = (opening call ≡ None) × (before.desk.is_open ≡ false)
  Holds call after AlreadyOpen = IsSomeAnd (opening call) (λ _. before.desk.is_open ≡ true)
  -- 2
  Holds call after TableLength =
      (allowed_lengths before.t ≡ false)
      ⊎ ((opening call ≡ None) × (same_lengths (lengths_of before.t.operations before.t.frames before.t.proposals) before.desk.lengths ≡ false))
  -- 3
  Holds call after NoSlot = IsSomeAnd (slot_named call) (λ slot. (slots before.t.frames ≤ slot) ⊎ (is_empty before.t.frames slot ≡ true))
  -- 4
  Holds call after (Unreadable fault) = IsSomeAnd (slot_delivered call) (λ slot. read_in slot ≡ Err fault)
  -- 5
  Holds call after NotStarted = IsSomeAnd (operation_named call) (λ operation. (before.desk.operations_used ≤ operation) ⊎ (slice_get before.t.operations operation ≡ None))
  -- 6
  Holds call after NotOpen = IsSomeAnd (open_operation call) (λ operation. AtRow operation (λ row. row.state ≢ state.Open))
  Holds call after NoRegroup = IsSomeAnd (regroup_proposed call) (λ operation. AtRow operation (λ row. row.kind ≢ kind.Regroup))
  -- 7
  Holds call after NoNode = IsSomeAnd (node_named call) (λ node. (node ≡ 0) ⊎ ((before.desk.node_count < node) ⊎ (record_of before.t.nodes node ≡ None)))
  Holds call after NodeCount = IsSomeAnd (opening call) (λ given. (given.0 ≡ 0) ⊎ (node_records < given.0))
  -- 8
  Holds call after Stopped = HasStopped call
  -- 9
  Holds call after Idle = IsSomeAnd (member_named call) (λ node. AtNode node (λ found. found.status ≡ status.Idle))
  -- 10
  Holds call after Frozen = IsSomeAnd (primary_named call) (λ node. AtNode node (λ found. found.status ≡ status.Frozen))
  -- 11
  Holds call after NotPrimary = IsSomeAnd (primary_named call) (λ node. AtNode node (λ found. primary found.configuration.members ≢ node))
  -- 12
  Holds call after OtherNumber = IsSomeAnd (regroup_proposed call) (λ operation. AtRegroup operation (λ row found. found.configuration.number ≢ row.number))
  -- 13
  Holds call after Unlawful = IsSomeAnd (members_chosen call) (λ chosen. is_lawful chosen.0 chosen.1 ≡ false)
  -- 14
  Holds call after TooFewFrozen =
      IsSomeAnd (regroup_proposed call) (λ operation. AtRegroup operation (λ row found. parts.winning before.rule (size found.configuration.members) row.set ≡ false))
  -- 15
  Holds call after NoDecision = IsSomeAnd (node_settling call) (λ node. AtNode node (λ found. decision found.configuration.number ≡ None))
  -- 16
  Holds call after NotProposed =
      IsSomeAnd (node_settling call) (λ node. AtNode node (λ found. IsSomeAnd (decision found.configuration.number) (λ proposal. IsProposed found.configuration.number proposal → ⊥)))
  -- 17
  Holds call after OperationsUsed = IsSomeAnd (node_starting call) (λ _. length before.t.operations ≤ before.desk.operations_used)
  -- 18
  Holds call after LastVersion = IsSomeAnd (node_writing call) (λ node. AtNode node (λ found. highest_version ≤ found.newest))
  -- 19
  Holds call after TooFewSlots = IsSomeAnd (frames_due call) (λ due. empty_count before.t.frames < due)
  -- 20
  Holds call after ProposalsUsed = IsSomeAnd (regroup_proposed call) (λ _. length before.t.proposals ≤ before.desk.proposals_used)
  -- 21
  Holds call after (Chooser refusal) = Chose call (Err refusal) after

-- the number of the ground that is the chooser's
abbrev pub chooser_refused : ℕ
chooser_refused = 21

-- A call stops exactly where a ground holds, on one of the lowest number, and then changes nothing.
pub record StopsRightly {C Q S : Type 0} (parts : Parts C Q S) (before : State Q S) (call : Call C) (answer : Result Answer Fault) (after : State Q S) : Type 0 where
  -- What it stops on holds,
  pub holds : (fault : Fault) → answer ≡ Err fault → Holds parts before call after.chooser fault
  -- and nothing of a lower number does.
  pub lowest : (fault other : Fault) → answer ≡ Err fault → Holds parts before call after.chooser other → number fault ≤ number other
  -- Where it does not stop, no ground holds that is asked before the chooser, and a chooser that was asked has taken it.
  pub only_then : (value : Answer) → answer ≡ Ok value → (other : Fault) → number other < chooser_refused → Holds parts before call after.chooser other → ⊥
  pub taken : (value : Answer) → answer ≡ Ok value → Chose parts before call (Ok tt) after.chooser
  -- A call that stops leaves all as it was; only a chooser that refused may be another, as its own laws allow.
  pub changes_nothing : (fault : Fault) → answer ≡ Err fault → (after.desk ≡ before.desk) × (after.t ≡ before.t) × (after.rule ≡ before.rule)
  pub chooser_stays : (fault : Fault) → answer ≡ Err fault → number fault < chooser_refused → after.chooser ≡ before.chooser
