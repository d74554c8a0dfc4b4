-- Read, write and regroup keep lawful tables lawful.
use Rattle.std.proofs.Common.{◌≡◌, ℕ, suc, ◌≤◌, true, List, Result, Ok, Err, refl, inr, arith}
use Rattle.std.specs.Prelude.{◌==◌}
use Rattle.std.specs.Result.{IfOk}
use Rattle.std.proofs.lemmas.Bool.Decides.{nat_tests}
use Rattle.fault.specs.declared.Fault.{Fault}
use Rattle.fault.specs.declared.Fault.TheVariants.{Idle, Frozen, NotPrimary, Unlawful}
use Rattle.frame.specs.Limits.{highest_node, highest_version}
use Rattle.tables.specs.declared.copy.SheetCopy.{SheetCopy}
use Rattle.tables.specs.declared.members.Members.{Members}
use Rattle.tables.specs.declared.records.NodeRecord.{NodeRecord}
use Rattle.tables.specs.declared.records.OperationKind.{OperationKind}
use Rattle.tables.specs.declared.records.OperationKind.TheVariants.{Read, Write, Regroup}
use Rattle.tables.specs.declared.records.Status.TheVariants as status
use Rattle.tables.specs.Lawful.{LawfulList, LawfulNode, LawfulOperation, LawfulSheetCopy}
use Rattle.tables.specs.Members.{primary}
use Rattle.node.specs.Conditions.{is_idle}
use Rattle.desk.specs.declared.desk.Desk.{Desk}
use Rattle.desk.specs.Asking.{served, running}
use Rattle.desk.specs.LawfulTables.{LawfulTables}
use Rattle.desk.specs.Lists.{is_lawful}
use Rattle.desk.specs.Tables.{Tables}
use Rattle.desk.proofs.KeptLawful.{LawfulAt, marked_lawful, running_lawful}
use Rattle.desk.proofs.Replaced.{row_added, record_replaced}
use Rattle.desk.proofs.Results.{where_true, where_false, where_first, where_found}
use Rattle.starts.specs.declared.start.Start.{Start}
use Rattle.starts.specs.Grounds.{not_idle, taking_part, is_frozen, leads, leading, row_left, slots_left, version_left, begun, read_start, written, write_start, regroup_start, may_read, may_write, may_regroup}
use Rattle.starts.specs.Starts.{reading, starting, read_step, write_step, regroup_step}

-- an operation's row, and the record of its node, as it starts
abbrev Beginning : {C : Type 0} → (C → List ℕ) → Start → Type 0
Beginning meaning start = LawfulNode meaning start.node × LawfulOperation meaning start.row

-- where a version is left, the next one is none above the highest
next_version_bounded : (found : NodeRecord) → version_left found ≡ Ok tt → suc found.newest ≤ highest_version
next_version_bounded found left = grind (arith, nat_tests)

module _ {C : Type 0} (meaning : C → List ℕ) (desk : Desk) (t : Tables) (lawful : LawfulTables meaning desk t) (node : ℕ) where
  taking_part_lawful : IfOk (taking_part desk t.nodes node) (LawfulAt meaning node)
  taking_part_lawful =
      where_found (LawfulAt meaning node) (LawfulAt meaning node) (running desk t.nodes node) not_idle (running_lawful meaning desk t lawful node) (λ found found_lawful.
      where_false (LawfulAt meaning node) (is_idle found.status) (Ok found) Idle (λ _. found_lawful))

  leading_lawful : IfOk (leading desk t.nodes node) (LawfulAt meaning node)
  leading_lawful =
      where_found (LawfulAt meaning node) (LawfulAt meaning node) (taking_part desk t.nodes node) (leads node) taking_part_lawful (λ found found_lawful.
      where_false (LawfulAt meaning node) (is_frozen found.status) _ Frozen (λ _.
      where_true (LawfulAt meaning node) (node == primary found.configuration.members) (Ok found) NotPrimary (λ _. found_lawful)))

  -- a row as it begins, with a lawful copy and lawful members
  begun_lawful : (found : NodeRecord) → LawfulAt meaning node found → (kind : OperationKind) (copy : SheetCopy) (members : Members) → LawfulSheetCopy meaning copy → LawfulList members
      → LawfulOperation meaning (begun desk node found kind copy members)
  begun_lawful found (node_bounded, found_lawful) kind copy members copy_lawful members_lawful = record {
    node_bounded = node_bounded;
    number_bounded = found_lawful.configuration_lawful.number_bounded;
    copy_lawful = copy_lawful;
    members_lawful = members_lawful;
    set_bounded = omega arith;
    moments_bounded = (omega arith, omega arith);
  }

  read_lawful : IfOk (may_read desk t node) (Beginning meaning)
  read_lawful =
      where_first (Beginning meaning) (served desk t) _ (λ _.
      where_found (LawfulAt meaning node) (Beginning meaning) (leading desk t.nodes node) _ leading_lawful (λ found found_lawful.
      where_first (Beginning meaning) (row_left desk t.operations) _ (λ _.
      where_first (Beginning meaning) (slots_left t.frames found) (Ok (read_start desk node found)) (λ _.
      (found_lawful.1, begun_lawful found found_lawful Read found.served found.configuration.members found_lawful.1.served_lawful found_lawful.1.configuration_lawful.members_lawful)))))

  -- a start with this answer
  reading_lawful : (width : ℕ) (answer : Result Start Fault) → IfOk answer (Beginning meaning) → LawfulTables meaning (reading width desk t answer).1 (reading width desk t answer).2
  reading_lawful width (Ok start) (_, row_lawful) = record {
    nodes_lawful = lawful.nodes_lawful;
    operations_lawful = row_added (LawfulOperation meaning) desk.operations_used t.operations lawful.operations_lawful start.row row_lawful;
    proposals_lawful = lawful.proposals_lawful;
    nodes_counted = lawful.nodes_counted;
  }
  reading_lawful width (Err fault) _ = lawful

  starting_lawful : (width : ℕ) (answer : Result Start Fault) → IfOk answer (Beginning meaning) → LawfulTables meaning (starting width desk t node answer).1 (starting width desk t node answer).2
  starting_lawful width (Ok start) (start_lawful, row_lawful) = record {
    nodes_lawful = record_replaced (LawfulNode meaning) desk.node_count t.nodes lawful.nodes_lawful node start.node start_lawful;
    operations_lawful = row_added (LawfulOperation meaning) desk.operations_used t.operations lawful.operations_lawful start.row row_lawful;
    proposals_lawful = lawful.proposals_lawful;
    nodes_counted = lawful.nodes_counted;
  }
  starting_lawful width (Err fault) _ = lawful

  pub read_keeps_lawful : (width : ℕ) → LawfulTables meaning (read_step width desk t node).1 (read_step width desk t node).2
  read_keeps_lawful width = reading_lawful width (may_read desk t node) read_lawful

  -- A write writes a value of the kind, under a version that is left.
  writing_lawful : (content : C) (found : NodeRecord) → LawfulAt meaning node found → version_left found ≡ Ok tt → Beginning meaning (write_start desk node found (meaning content))
  writing_lawful content found (node_bounded, found_lawful) left =
      let next = next_version_bounded found left in
      let copy_lawful : LawfulSheetCopy meaning (written node found (meaning content)) = record { tag_lawful = inr ((omega arith, next), node_bounded); content_lawful = (content, refl) } in (
        record {
          configuration_lawful = found_lawful.configuration_lawful;
          stored_lawful = found_lawful.stored_lawful;
          served_lawful = found_lawful.served_lawful;
          newest_bounded = next;
        },
        begun_lawful found (node_bounded, found_lawful) Write (written node found (meaning content)) found.configuration.members copy_lawful found_lawful.configuration_lawful.members_lawful,
      )

  write_lawful : (content : C) → IfOk (may_write desk t node (meaning content)) (Beginning meaning)
  write_lawful content =
      where_first (Beginning meaning) (served desk t) _ (λ _.
      where_found (LawfulAt meaning node) (Beginning meaning) (leading desk t.nodes node) _ leading_lawful (λ found found_lawful.
      where_first (Beginning meaning) (row_left desk t.operations) _ (λ _.
      where_first (Beginning meaning) (version_left found) _ (λ left.
      where_first (Beginning meaning) (slots_left t.frames found) (Ok (write_start desk node found (meaning content))) (λ _.
      writing_lawful content found found_lawful left)))))

  pub write_keeps_lawful : (width : ℕ) (content : C) → LawfulTables meaning (write_step width desk t node (meaning content)).1 (write_step width desk t node (meaning content)).2
  write_keeps_lawful width content = starting_lawful width (may_write desk t node (meaning content)) (write_lawful content)

  -- A regroup's members are lawful if they are taken for that.
  regrouping_lawful : (members : Members) (found : NodeRecord) → LawfulAt meaning node found → LawfulList members → Beginning meaning (regroup_start desk node found members)
  regrouping_lawful members found (node_bounded, found_lawful) members_lawful = (
    marked_lawful meaning found found_lawful status.Frozen found.stopped,
    begun_lawful found (node_bounded, found_lawful) Regroup found.served members found_lawful.served_lawful members_lawful,
  )

  regroup_lawful : (members : Members) → (desk.node_count ≤ highest_node → is_lawful members desk.node_count ≡ true → LawfulList members) → IfOk (may_regroup desk t node members) (Beginning meaning)
  regroup_lawful members members_lawful =
      where_first (Beginning meaning) (served desk t) _ (λ _.
      where_found (LawfulAt meaning node) (Beginning meaning) (taking_part desk t.nodes node) _ taking_part_lawful (λ found found_lawful.
      where_true (Beginning meaning) (is_lawful members desk.node_count) _ Unlawful (λ taken.
      where_first (Beginning meaning) (row_left desk t.operations) _ (λ _.
      where_first (Beginning meaning) (slots_left t.frames found) (Ok (regroup_start desk node found members)) (λ _.
      regrouping_lawful members found found_lawful (members_lawful lawful.nodes_counted taken))))))

  pub regroup_keeps_lawful : (width : ℕ) (members : Members) → (desk.node_count ≤ highest_node → is_lawful members desk.node_count ≡ true → LawfulList members)
      → LawfulTables meaning (regroup_step width desk t node members).1 (regroup_step width desk t node members).2
  regroup_keeps_lawful width members members_lawful = starting_lawful width (may_regroup desk t node members) (regroup_lawful members members_lawful)
