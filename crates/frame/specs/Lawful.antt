-- Which messages are lawful, and how writing and reading belong together.
use Rattle.std.specs.Prelude.{◌≡◌, ℕ, ◌<◌, ◌≤◌, ◌⊎◌, List, length, Ok, Option, Result, ◌≢◌, slice_index}
use Rattle.quorum.specs.Limits.{largest_group}
use Rattle.frame.specs.declared.fault.FrameFault.{FrameFault}
use Rattle.frame.specs.declared.message.Head.{Head}
use Rattle.frame.specs.declared.message.Tag.{Tag}
use Rattle.frame.specs.Bytes.{bytes_of}
use Rattle.frame.specs.Limits.{highest_node, highest_number, highest_operation, highest_version}
use Rattle.frame.specs.Messages.{Said, get, get_ack, put, put_ack, freeze, held, update, reading}

-- the number of a node
abbrev pub Node : ℕ → Type 0
Node n = (1 ≤ n) × (n ≤ highest_node)

-- a frame goes from a node to a node
pub record LawfulRoute (head : Head) : Type 0 where
  pub receiver : Node head.receiver
  pub sender : Node head.sender

-- what kinds 1 to 6 begin with
pub record LawfulStart (head : Head) (operation : ℕ) : Type 0 where
  pub route : LawfulRoute head
  pub number_bounded : head.number ≤ highest_number
  pub operation_bounded : operation ≤ highest_operation

-- A tag is the opening tag, or it has a version from 1 to 9,999 and a node.
abbrev pub LawfulTag : Tag → Type 0
LawfulTag tag = ((tag.version ≡ 0) × (tag.node ≡ 0)) ⊎ (((1 ≤ tag.version) × (tag.version ≤ highest_version)) × Node tag.node)

-- a content's bytes are those of a value of its kind
abbrev pub LawfulContent : {C : Type 0} → (C → List ℕ) → List ℕ → Type 0
LawfulContent {C} meaning content = (value : C) × (meaning value ≡ content)

-- Members: seven numbers, of which the first `count` (1 to 7) are different nodes and the others are 0.
pub record LawfulMembers (count : ℕ) (members : List ℕ) : Type 0 where
  pub seven : length members ≡ largest_group
  pub counted : (1 ≤ count) × (count ≤ largest_group)
  pub nodes : (i : ℕ) → i < count → Node (slice_index members i)
  pub different : (i j : ℕ) → i < j → j < count → slice_index members i ≢ slice_index members j
  pub then_zeros : (i : ℕ) → count ≤ i → i < largest_group → slice_index members i ≡ 0

-- what kinds 3 and 6 hold
pub record LawfulCopy {C : Type 0} (meaning : C → List ℕ) (head : Head) (operation : ℕ) (tag : Tag) (content : List ℕ) : Type 0 where
  pub start : LawfulStart head operation
  pub tag_lawful : LawfulTag tag
  pub content_lawful : LawfulContent meaning content

-- what kind 7 holds: the first configuration is never installed by an update
pub record LawfulUpdate {C : Type 0} (meaning : C → List ℕ) (head : Head) (count : ℕ) (members : List ℕ) (tag : Tag) (content : List ℕ) : Type 0 where
  pub route : LawfulRoute head
  pub number_bounded : (1 ≤ head.number) × (head.number ≤ highest_number)
  pub members_lawful : LawfulMembers count members
  pub tag_lawful : LawfulTag tag
  pub content_lawful : LawfulContent meaning content

-- a message whose fields all have lawful values
abbrev pub Lawful : {C : Type 0} → (C → List ℕ) → Said → Type 0
Lawful meaning (get head operation) = LawfulStart head operation
Lawful meaning (get_ack head operation) = LawfulStart head operation
Lawful meaning (put head operation tag content) = LawfulCopy meaning head operation tag content
Lawful meaning (put_ack head operation) = LawfulStart head operation
Lawful meaning (freeze head operation) = LawfulStart head operation
Lawful meaning (held head operation tag content) = LawfulCopy meaning head operation tag content
Lawful meaning (update head count members tag content) = LawfulUpdate meaning head count members tag content

-- How a slot is read that holds what was written of a message: as that message if it is lawful, else with a fault.
pub record ReadsBack {C : Type 0} (width : ℕ) (meaning : C → List ℕ) (reads : List ℕ → Option C) (message : Said) (slot : List ℕ) : Type 0 where
  pub lawful_is_read : Lawful meaning message → reading width reads slot ≡ Ok message
  pub only_lawful_is_read : (other : Said) → reading width reads slot ≡ Ok other → Lawful meaning message × (other ≡ message)

-- Whatever was read of a slot is lawful, and the slot holds what is written of it.
abbrev pub LawfulAndWritten : {C : Type 0} → (C → List ℕ) → List ℕ → Result Said FrameFault → Type 0
LawfulAndWritten meaning slot answer = (message : Said) → answer ≡ Ok message → Lawful meaning message × (bytes_of message ≡ slot)
