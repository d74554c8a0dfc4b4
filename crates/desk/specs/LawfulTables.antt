-- Lawful tables: the records of the floor's nodes and the rows that are used lie within their bounds.
use Rattle.std.specs.Prelude.{ℕ, ◌<◌, ◌≤◌, List, slice_get}
use Rattle.std.specs.Option.{IfSome}
use Rattle.tables.specs.Lawful.{LawfulNode, LawfulOperation, LawfulProposal}
use Rattle.desk.specs.declared.desk.Desk.{Desk}
use Rattle.desk.specs.Limits.{node_records}
use Rattle.desk.specs.Tables.{Tables}
use Rattle.desk.specs.Asking.{record_of}

pub record LawfulTables {C : Type 0} (meaning : C → List ℕ) (desk : Desk) (t : Tables) : Type 0 where
  pub nodes_lawful : (node : ℕ) → node ≤ desk.node_count → IfSome (record_of t.nodes node) (LawfulNode meaning)
  pub operations_lawful : (operation : ℕ) → operation < desk.operations_used → IfSome (slice_get t.operations operation) (LawfulOperation meaning)
  pub proposals_lawful : (proposal : ℕ) → proposal < desk.proposals_used → IfSome (slice_get t.proposals proposal) (LawfulProposal meaning)
  pub nodes_counted : desk.node_count ≤ node_records
