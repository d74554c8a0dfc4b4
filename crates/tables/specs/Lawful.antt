-- What the tables may hold: the bounds of copies, records and rows. They are plain, so a host may hand over others.
use Rattle.std.specs.Prelude.{◌≡◌, ℕ, ◌^◌, ◌<◌, ◌≤◌, List}
use Rattle.content.specs.Bytes.{padded}
use Rattle.quorum.specs.Limits.{largest_group}
use Rattle.frame.specs.Lawful.{Node, LawfulTag, LawfulMembers}
use Rattle.frame.specs.Limits.{highest_number, highest_version}
use Rattle.tables.specs.Moments.{last_moment}
use Rattle.tables.specs.declared.copy.SheetCopy.{SheetCopy}
use Rattle.tables.specs.declared.members.Members.{Members}
use Rattle.tables.specs.declared.records.Configuration.{Configuration}
use Rattle.tables.specs.declared.records.NodeRecord.{NodeRecord}
use Rattle.tables.specs.declared.records.OperationRow.{OperationRow}
use Rattle.tables.specs.declared.records.ProposalRow.{ProposalRow}

-- one to seven different nodes, then zeros
abbrev pub LawfulList : Members → Type 0
LawfulList members = LawfulMembers members.count members.nodes

-- A tag as frames have it, and the bytes of a value of the kind, then zeros.
pub record LawfulSheetCopy {C : Type 0} (meaning : C → List ℕ) (copy : SheetCopy) : Type 0 where
  pub tag_lawful : LawfulTag copy.tag
  pub content_lawful : (value : C) × (padded (meaning value) ≡ copy.content)

pub record LawfulConfiguration (configuration : Configuration) : Type 0 where
  pub number_bounded : configuration.number ≤ highest_number
  pub members_lawful : LawfulList configuration.members
  pub opening_lawful : LawfulTag configuration.opening

pub record LawfulNode {C : Type 0} (meaning : C → List ℕ) (node : NodeRecord) : Type 0 where
  pub configuration_lawful : LawfulConfiguration node.configuration
  pub stored_lawful : LawfulSheetCopy meaning node.stored
  pub served_lawful : LawfulSheetCopy meaning node.served
  pub newest_bounded : node.newest ≤ highest_version

pub record LawfulOperation {C : Type 0} (meaning : C → List ℕ) (row : OperationRow) : Type 0 where
  pub node_bounded : Node row.node
  pub number_bounded : row.number ≤ highest_number
  pub copy_lawful : LawfulSheetCopy meaning row.copy
  pub members_lawful : LawfulList row.members
  pub set_bounded : row.set < 2 ^ largest_group
  pub moments_bounded : (row.start ≤ last_moment) × (row.answer ≤ last_moment)

-- The number is that of the configuration that it is to follow, so the next one is at most the highest.
pub record LawfulProposal {C : Type 0} (meaning : C → List ℕ) (row : ProposalRow) : Type 0 where
  pub number_bounded : row.number < highest_number
  pub members_lawful : LawfulList row.members
  pub copy_lawful : LawfulSheetCopy meaning row.copy
