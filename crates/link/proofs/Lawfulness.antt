-- What is lawful in lawful tables: records, nodes, members, and the letters that are made of them.
use Rattle.std.proofs.Common.{◌≡◌, ℕ, zero, suc, ◌<◌, ◌≤◌, List, length, slice_index, Option, Some, arith}
use Rattle.std.specs.Option.{IfSome}
use Rattle.std.proofs.lemmas.List.{get_or-take, length-take}
use Rattle.frame.specs.Lawful.{Node, LawfulStart}
use Rattle.frame.specs.Limits.{highest_number, highest_operation}
use Rattle.tables.specs.declared.members.Members.{Members}
use Rattle.tables.specs.declared.records.NodeRecord.{NodeRecord}
use Rattle.tables.specs.Lawful.{LawfulList, LawfulNode}
use Rattle.tables.specs.Members.{listed}
use Rattle.desk.specs.declared.desk.Desk.{Desk}
use Rattle.desk.specs.Tables.{Tables}
use Rattle.desk.specs.Asking.{record_of}
use Rattle.desk.specs.LawfulTables.{LawfulTables}

-- what holds of an answer that is there holds of what it is
pub holds_of : {A : Type 0} (P : A → Type 0) (answer : Option A) (found : A) → answer ≡ Some found → IfSome answer P → P found
holds_of P answer found is holds = rw is at holds

-- a node with a record has a number from 1 on
record_numbered : (nodes : List NodeRecord) (node : ℕ) (found : NodeRecord) → record_of nodes node ≡ Some found → 1 ≤ node
record_numbered nodes zero found here = absurd (cc)
record_numbered nodes (suc place) found here = omega arith

module _ {C : Type 0} (meaning : C → List ℕ) (desk : Desk) (t : Tables) (lawful : LawfulTables meaning desk t) (node : ℕ) (found : NodeRecord)
    (inside : node ≤ desk.node_count) (here : record_of t.nodes node ≡ Some found) where
  pub record_lawful : LawfulNode meaning found
  record_lawful = holds_of (LawfulNode meaning) (record_of t.nodes node) found here (lawful.nodes_lawful node inside)

  pub is_node : Node node
  is_node = (record_numbered t.nodes node found here, omega (arith, lawful.nodes_counted))

-- a member of a lawful list is a node
pub member_is_node : (members : Members) (place : ℕ) → LawfulList members → place < length (listed members) → Node (slice_index (listed members) place)
member_is_node members place lawful inside =
    let long = length-take members.count members.nodes in
    let counted : place < members.count = omega arith in
    rw (get_or-take members.count members.nodes place 0 counted) (lawful.nodes place counted)

-- what kinds 1 to 6 begin with, to a member of a lawful list
pub start_lawful : (members : Members) (place node number operation : ℕ) → LawfulList members → place < length (listed members) → Node node → number ≤ highest_number → operation ≤ highest_operation
    → LawfulStart (record { receiver = slice_index (listed members) place; sender = node; number = number }) operation
start_lawful members place node number operation lawful inside sender number_bounded operation_bounded = record {
  route = record { receiver = member_is_node members place lawful inside; sender = sender };
  number_bounded = number_bounded;
  operation_bounded = operation_bounded;
}
