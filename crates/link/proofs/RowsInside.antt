-- The operations that were started are of nodes of the floor: only these start any, and a row keeps its node.
use Rattle.std.proofs.Common.{◌≡◌, ℕ, suc, ◌<◌, ◌≤◌, List, Option, slice_get, slice_set, Some, Ok, Err, Result, refl, sym, ◌∙◌, subst, inl, inr, arith}
use Rattle.std.proofs.lemmas.Bool.{cases_eq}
use Rattle.chooser.specs.Meaning.{Decisions}
use Rattle.fault.specs.declared.Fault.{Fault}
use Rattle.tables.specs.declared.members.Members.{Members}
use Rattle.tables.specs.declared.records.OperationRow.{OperationRow}
use Rattle.desk.specs.declared.desk.Desk.{Desk}
use Rattle.desk.specs.Tables.{Tables}
use Rattle.starts.specs.declared.start.Start.{Start}
use Rattle.starts.specs.Grounds.{may_read, may_write, may_regroup, read_start, write_start, regroup_start}
use Rattle.starts.specs.Starts.{counted, begins, begins_at, reading, starting, read_step, write_step, regroup_step}
use Rattle.protocol.proofs.RowsStay.{requests_stay}
use Rattle.protocol.specs.State.{System, Setting}
use Rattle.link.proofs.Terms.{StandsFor}
use Rattle.link.proofs.Entries.{found_elsewhere, is_new_value}
use Rattle.link.proofs.Represents.{Represents, GoesTo}
use Rattle.link.proofs.Standing.{found_stands}
use Rattle.link.proofs.StartsMet.{read_met, write_met, regroup_met}

-- No other law of the tables says so, and a proposal needs it: it looks at the record of the row's node.
abbrev pub RowsInside : Desk → Tables → Type 0
RowsInside desk t = (operation : ℕ) (row : OperationRow) → operation < desk.operations_used → slice_get t.operations operation ≡ Some row → row.node ≤ desk.node_count

-- With no row added, those that are there ask for what they asked for.
pub rows_stay_inside : {C : Type 0} {width : ℕ} {meaning : C → List ℕ} {reads : List ℕ → Option C} {setting : Setting} {decided decided_after : Decisions} {desk desk_after : Desk} {t t_after : Tables}
    {before : System} → Represents width meaning reads decided desk t before → GoesTo width meaning reads setting before decided_after desk_after t_after
    → desk_after.node_count ≡ desk.node_count → desk_after.operations_used ≡ desk.operations_used → RowsInside desk t → RowsInside desk_after t_after
rows_stay_inside {setting = setting} {desk = desk} {desk_after} {t} {t_after} {before} stands (after, later, stands_after) same_nodes same_used inside operation row below here =
    let old : operation < desk.operations_used = omega arith in
    let (found, there, stands_for) = stands.operations operation old in
    let now = found_stands StandsFor desk_after.operations_used t_after.operations after.operations.row operation row stands_after.operations below here in
    let (_, same) = requests_stay setting before after later operation (rw stands.operations_counted old) in
    let bounded = inside operation found old there in
    omega (arith, now.same_node, same.node, stands_for.same_node)

-- with no row at all there is none of another node
pub none_inside : (desk : Desk) (t : Tables) → desk.operations_used ≡ 0 → RowsInside desk t
none_inside desk t none operation row below here = absurd (omega arith)

-- a start adds a row, of a node of the floor
row_begun : (desk : Desk) (t : Tables) (row : OperationRow) → row.node ≤ desk.node_count → RowsInside desk t
    → (operation : ℕ) (found : OperationRow) → operation < suc desk.operations_used → slice_get (slice_set t.operations desk.operations_used row) operation ≡ Some found → found.node ≤ desk.node_count
row_begun desk t row bounded inside operation found below here = elim (cases_eq operation desk.operations_used) [
  | inl same ↦ rw (is_new_value t.operations desk.operations_used row found (rw same at here)) bounded
  | inr apart ↦ inside operation found (omega arith) (sym (found_elsewhere t.operations desk.operations_used operation row apart) ∙ here)
]

module _ (width : ℕ) (desk : Desk) (t : Tables) (inside : RowsInside desk t) (node : ℕ) where
  pub read_inside : let left = read_step width desk t node in RowsInside left.1 left.2
  read_inside = go (may_read desk t node) refl
    where
      go : (answer : Result Start Fault) → may_read desk t node ≡ answer → let left = reading width desk t answer in RowsInside left.1 left.2
      go (Err fault) is = inside
      go (Ok start) is = let met = read_met desk t node start is in
          subst (λ start. RowsInside (counted desk start) (begins width desk t start)) met.is (row_begun desk t (read_start desk node met.found).row met.leading.in_group.runs.inside inside)

  pub write_inside : (content : List ℕ) → let left = write_step width desk t node content in RowsInside left.1 left.2
  write_inside content = go (may_write desk t node content) refl
    where
      go : (answer : Result Start Fault) → may_write desk t node content ≡ answer → let left = starting width desk t node answer in RowsInside left.1 left.2
      go (Err fault) is = inside
      go (Ok start) is = let met = write_met desk t node content start is in
          subst (λ start. RowsInside (counted desk start) (begins_at width desk t node start)) met.is (row_begun desk t (write_start desk node met.found content).row met.leading.in_group.runs.inside inside)

  pub regroup_inside : (members : Members) → let left = regroup_step width desk t node members in RowsInside left.1 left.2
  regroup_inside members = go (may_regroup desk t node members) refl
    where
      go : (answer : Result Start Fault) → may_regroup desk t node members ≡ answer → let left = starting width desk t node answer in RowsInside left.1 left.2
      go (Err fault) is = inside
      go (Ok start) is = let met = regroup_met desk t node members start is in
          subst (λ start. RowsInside (counted desk start) (begins_at width desk t node start)) met.is (row_begun desk t (regroup_start desk node met.found members).row met.in_group.runs.inside inside)
