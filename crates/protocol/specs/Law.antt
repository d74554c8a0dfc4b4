-- The order law: what is promised of any two points of a run, an early one and a late one, which may be one and the same.
use Rattle.std.specs.Prelude.{◌≡◌, ℕ, ◌<◌, ◌≤◌, ◌≢◌, ◌⊎◌, ◌↔◌}
use Rattle.protocol.specs.State.{Tag, tag_of, first_tag, Read, Write, Regroup, Answered, Operation, System, Setting, first_of}
use Rattle.protocol.specs.Moves.{Reached, Later}

abbrev pub tag_in : System → ℕ → Tag
tag_in system operation = (system.operations.row operation).copy.tag

pub record IsAnswered (system : System) (operation : ℕ) : Type 0 where
  pub is_started : operation < system.operations.count
  pub answered : (system.operations.row operation).stage ≡ Answered

-- a write, answered or not
pub record IsWrite (system : System) (operation : ℕ) : Type 0 where
  pub is_started : operation < system.operations.count
  pub write : (system.operations.row operation).kind ≡ Write

pub record IsAnsweredRead (system : System) (operation : ℕ) : Type 0 where
  pub answered : IsAnswered system operation
  pub read : (system.operations.row operation).kind ≡ Read

-- a write whose tag an answered read has
pub record IsReturned (system : System) (operation : ℕ) : Type 0 where
  pub write : IsWrite system operation
  pub read : ℕ
  pub is_read : IsAnsweredRead system read
  pub same_tag : tag_in system read ≡ tag_in system operation

-- the operations that took effect: those answered, and each write that an answered read returned
abbrev pub TookEffect : System → ℕ → Type 0
TookEffect system operation = IsAnswered system operation ⊎ IsReturned system operation

-- The first was answered before the second started: at this point of the run the first is answered, and the second has no row yet.
abbrev pub AnsweredBefore : System → ℕ → ℕ → Type 0
AnsweredBefore early first second = IsAnswered early first × (early.operations.count ≤ second)

-- What was asked is the same: for a regroup that is its new members, and for a write also what it writes.
pub record SameRequest (old new : Operation) : Type 0 where
  pub kind : new.kind ≡ old.kind
  pub node : new.node ≡ old.node
  pub number : new.number ≡ old.number
  pub members : new.members ≡ old.members
  pub start : new.start ≡ old.start
  pub written : old.kind ≡ Write → new.copy ≡ old.copy

pub record OrderLaw (setting : Setting) (early late : System) : Type 0 where
  -- (a) An answered read has the first copy, or the copy of a write; and writes are told apart by their tags, which are above the first one.
  pub reads : (read : ℕ) → IsAnsweredRead late read
      → ((late.operations.row read).copy ≡ (first_of setting).copy) ⊎ ((write : ℕ) × IsWrite late write × ((late.operations.row write).copy ≡ (late.operations.row read).copy))
  pub tags_differ : (one other : ℕ) → IsWrite late one → IsWrite late other → tag_in late one ≡ tag_in late other → one ≡ other
  pub tags_are_above : (write : ℕ) → IsWrite late write → first_tag < tag_in late write
  pub tags_name_nodes : (write : ℕ) → IsWrite late write → ((late.operations.row write).node < 32) × (version : ℕ) × (tag_in late write ≡ tag_of version (late.operations.row write).node)
  -- (b) What was answered before another operation started has no higher tag than that one, if that took effect; and a lower tag, if that is a write.
  pub never_higher : (first second : ℕ) → AnsweredBefore early first second → TookEffect late second → tag_in late first ≤ tag_in late second
  pub writes_are_higher : (first second : ℕ) → AnsweredBefore early first second → TookEffect late second → (late.operations.row second).kind ≡ Write
      → tag_in late first < tag_in late second
  -- (c) Nodes that ever hold the same number hold the same members and opening tag.
  pub same_members : (one other : ℕ) → (early.nodes one).number ≡ (late.nodes other).number → (early.nodes one).members ≡ (late.nodes other).members
  pub same_opening : (one other : ℕ) → (early.nodes one).number ≡ (late.nodes other).number → (early.nodes one).opening ≡ (late.nodes other).opening
  -- No tag that is ever answered under a lower number exceeds it.
  pub carried_over : (operation node : ℕ) → IsAnswered late operation → (late.operations.row operation).number < (early.nodes node).number
      → tag_in late operation ≤ (early.nodes node).opening
  -- What was asked stays, and an answer stays as it was given. Only reads and writes are answered.
  pub requests_stay : (operation : ℕ) → operation < early.operations.count → (operation < late.operations.count) × SameRequest (early.operations.row operation) (late.operations.row operation)
  pub answers_stay : (operation : ℕ) → IsAnswered early operation → IsAnswered late operation × (late.operations.row operation ≡ early.operations.row operation)
  pub only_reads_and_writes : (operation : ℕ) → IsAnswered late operation → (late.operations.row operation).kind ≢ Regroup
  -- What came first has the lower moment.
  pub starts_rise : (first second : ℕ) → first < second → second < late.operations.count → (late.operations.row first).start < (late.operations.row second).start
  pub starts_first : (operation : ℕ) → IsAnswered late operation → (late.operations.row operation).start < (late.operations.row operation).answer
  pub moments_tell : (first second : ℕ) → AnsweredBefore early first second → second < late.operations.count → (late.operations.row first).answer < (late.operations.row second).start

-- Tags compare by version first, then by node.
abbrev pub TagsCompare : Type 0
TagsCompare = (version node version' node' : ℕ) → node < 32 → node' < 32 → (tag_of version node < tag_of version' node') ↔ ((version < version') ⊎ ((version ≡ version') × (node < node')))

-- The law holds in every finite run from an opening, over every pair of families whose sets meet.
abbrev pub OrderHolds : Type 0
OrderHolds = (setting : Setting) (early late : System) → Reached setting early → Later setting early late → OrderLaw setting early late
