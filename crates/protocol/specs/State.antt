-- What the protocol is about: copies, configurations, nodes, operations, frames, and the whole of them at one point of a run.
use Rattle.std.specs.Prelude.{◌≡◌, ℕ, ◌+◌, ◌*◌, ◌/◌, ◌<◌, Bool, true, false, ◌||◌, ◌==◌, List, length, slice_index, nat_lt, if◌then◌else◌, Option}
use mathlib.Core.List.{Memᴰ}

-- A tag is a version and a node, kept as one number, so that tags compare as numbers: by version first, then by node. The nodes in tags are below 32.
abbrev pub Tag : Type 0
Tag = ℕ

abbrev pub tag_of : ℕ → ℕ → Tag
tag_of version node = 32 * version + node

abbrev pub version_of : Tag → ℕ
version_of tag = tag / 32

-- the tag of the copy that a sheet begins with: version 0, node 0
abbrev pub first_tag : Tag
first_tag = 0

-- a content is its bytes, whatever its kind
abbrev pub Content : Type 0
Content = List ℕ

pub record Copy : Type 0 where
  pub tag : Tag
  pub content : Content

-- the newer of two copies, and the old one where the other is not newer
abbrev pub newer : Copy → Copy → Copy
newer old new = if nat_lt old.tag new.tag then new else old

-- the node at a place of a list of members, and 0 past the end; the first is the primary
abbrev pub node_at : List ℕ → ℕ → ℕ
node_at members place = slice_index members place

abbrev pub primary : List ℕ → ℕ
primary members = node_at members 0

abbrev pub IsMember : ℕ → List ℕ → Type 0
IsMember node members = (place : ℕ) × (place < length members) × (node_at members place ≡ node)

-- a set of places of a list of members
abbrev pub Places : Type 0
Places = ℕ → Bool

abbrev pub nowhere : Places
nowhere place = false

abbrev pub joined_by : Places → ℕ → Places
joined_by set new place = set place || place == new

-- a configuration: its number, its members, and the copy that it opens with
pub record Configuration : Type 0 where
  pub number : ℕ
  pub members : List ℕ
  pub copy : Copy

-- Active: acknowledges reads and writes, and starts them if it is the primary. Frozen: a change of its group has begun. Idle: in no group yet.
pub data Status : Type 0 where
  Idle Active Frozen : Status

-- A node knows the configuration that it is in by number, members and opening tag (the tag of the copy that this opens with). It keeps the highest copy that it took from a put or an update (stored), and the copy that it would answer to a read (served).
pub record Node : Type 0 where
  pub status : Status
  pub stopped : Bool
  pub number : ℕ
  pub members : List ℕ
  pub opening : Tag
  pub stored : Copy
  pub served : Copy
  pub newest : ℕ  -- the highest version that it gave out, or that a configuration that it joined opened with

pub data Kind : Type 0 where
  Read Write Regroup : Kind

pub data Stage : Type 0 where
  Open Answered GivenUp Proposed : Stage

-- A read, a write, or a change of the group (regroup).
pub record Operation : Type 0 where
  pub kind : Kind
  pub node : ℕ  -- where it was started
  pub number : ℕ  -- the number of the configuration that it was started under
  pub copy : Copy  -- read: its answer; write: what it writes; regroup: the highest copy that was held out to it
  pub members : List ℕ  -- of the configuration that it was started under; of a regroup, the new members
  pub set : Places  -- the places that have acknowledged it, or frozen for it
  pub stage : Stage
  pub start : ℕ  -- the moment at which it started
  pub answer : ℕ  -- the moment at which it was answered

-- A frame names its receiver, its sender, the number of a configuration and an operation. An update carries a configuration instead.
pub data Frame : Type 0 where
  Get GetAck PutAck Freeze : ℕ → ℕ → ℕ → ℕ → Frame
  Put Held : ℕ → ℕ → ℕ → ℕ → Copy → Frame
  Update : ℕ → ℕ → Configuration → Frame

-- rows that are used in ascending order: those below the count
pub record Table (Row : Type 0) : Type 0 where
  pub count : ℕ
  pub row : ℕ → Row

-- All nodes, operations and frames under way at one point of a run. Proposals are configurations with the number that they would get.
-- The decision under a number says which proposal follows the configuration of that number. The moment counts starts and answers.
pub record System : Type 0 where
  pub nodes : ℕ → Node
  pub operations : Table Operation
  pub proposals : Table Configuration
  pub decisions : ℕ → Option ℕ
  pub frames : List Frame
  pub moment : ℕ

abbrev pub UnderWay : Frame → System → Type 0
UnderWay frame system = Memᴰ frame system.frames

-- What stays fixed in a run: which sets of places answer an operation, and which freeze a group, by the group's size; the first members and the first content.
-- Any two families will do in which every answering set shares a place with every freezing set of its size.
pub record Setting : Type 0 where
  pub answers : ℕ → Places → Bool
  pub freezes : ℕ → Places → Bool
  pub share : (size : ℕ) (answering freezing : Places) → answers size answering ≡ true → freezes size freezing ≡ true
      → (place : ℕ) × (answering place ≡ true) × (freezing place ≡ true)
  pub members : List ℕ
  pub content : Content

-- configuration 0, with which a sheet begins
abbrev pub first_of : Setting → Configuration
first_of setting = record { number = 0; members = setting.members; copy = record { tag = first_tag; content = setting.content } }
