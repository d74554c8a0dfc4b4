-- The calls read, write and regroup: each is a move, or nothing where it is refused.
use Rattle.std.proofs.Common.{◌≡◌, ℕ, suc, ◌<◌, ◌∙◌, inr, List, slice_index, refl, Option, Result, Ok, Err, length, sym, ap, subst, arith}
use Rattle.chooser.specs.Meaning.{Decisions}
use Rattle.content.specs.Bytes.{padded}
use Rattle.fault.specs.declared.Fault.{Fault}
use Rattle.frame.specs.Lawful.{LawfulStart}
use Rattle.frame.specs.Lawful.{Node as Numbered}
use Rattle.frame.specs.Limits.{highest_version}
use Rattle.frame.proofs.Laws.{Laws}
use Rattle.tables.specs.declared.members.Members.{Members}
use Rattle.tables.specs.declared.records.NodeRecord.{NodeRecord}
use Rattle.tables.specs.declared.records.OperationKind.TheVariants as kind
use Rattle.tables.specs.Lawful.{LawfulSheetCopy, LawfulNode}
use Rattle.tables.specs.Members.{listed}
use Rattle.node.proofs.LawfulParts.{content_for_frame}
use Rattle.desk.specs.declared.desk.Desk.{Desk}
use Rattle.desk.specs.Tables.{Tables}
use Rattle.desk.specs.LawfulTables.{LawfulTables}
use Rattle.starts.specs.declared.start.Start.{Start}
use Rattle.starts.specs.Grounds as starts
use Rattle.starts.specs.Grounds.{may_read, may_write, may_regroup, read_start, write_start, regroup_start}
use Rattle.starts.specs.Starts.{counted, begins, begins_at, reading, starting, read_step, write_step, regroup_step}
use Rattle.protocol.specs.State.{tag_of, Node, Get, Put, Freeze, System, Setting}
use Rattle.protocol.specs.Effects.{Same, Becomes}
use Rattle.protocol.specs.Changes.{with_next_version, frozen, written, read_starts, write_starts, regroup_starts}
use Rattle.protocol.specs.Moves.{StartRead, StartWrite, StartRegroup, Now}
use Rattle.link.proofs.Terms.{copy_said}
use Rattle.link.proofs.Represents.{Represents, GoesTo}
use Rattle.link.proofs.Contents.{lawful_round_trip}
use Rattle.link.proofs.Standing.{record_becomes}
use Rattle.link.proofs.Moving.{by_one_move}
use Rattle.link.proofs.NotRefused.{Runs, InGroup, Leading}
use Rattle.link.proofs.StartsMet.{RowReady, read_met, write_met, regroup_met}
use Rattle.link.proofs.Lawfulness.{record_lawful, is_node, start_lawful}
use Rattle.link.proofs.Beginning.{known, takes_part_said, leads_said, begun_stands, begun_represents}

module _ {C : Type 0} (width : ℕ) (meaning : C → List ℕ) (reads : List ℕ → Option C) (laws : Laws width meaning reads) (setting : Setting) (before : System) (decided : Decisions)
    (desk : Desk) (t : Tables) (stands : Represents width meaning reads decided desk t before) (lawful : LawfulTables meaning desk t) where
  -- what the calls come to
  abbrev Goes : Desk → Tables → Type 0
  Goes = GoesTo width meaning reads setting before decided

  module _ (node : ℕ) (found : NodeRecord) (runs : Runs desk t.nodes node found) (ready : RowReady desk t) where
    same_members : (before.nodes node).members ≡ listed found.configuration.members
    same_members = ap (λ (n : Node). n.members) (known stands runs)

    same_served : (before.nodes node).served ≡ copy_said found.served
    same_served = ap (λ (n : Node). n.served) (known stands runs)

    found_lawful : LawfulNode meaning found
    found_lawful = record_lawful meaning desk t lawful node found runs.inside runs.here

    number_is_node : Numbered node
    number_is_node = is_node meaning desk t lawful node found runs.inside runs.here

    -- what a frame to a member begins with
    to_members : (place : ℕ) → let members = listed found.configuration.members in place < length members
        → LawfulStart (record { receiver = slice_index members place; sender = node; number = found.configuration.number }) desk.operations_used
    to_members place inside =
        let group = found_lawful.configuration_lawful in
        start_lawful found.configuration.members place node found.configuration.number desk.operations_used group.members_lawful inside number_is_node group.number_bounded ready.named

    -- A read starts.
    read_begins : Leading desk t.nodes node found → let start = read_start desk node found in Goes (counted desk start) (begins width desk t start)
    read_begins leading =
        by_one_move setting (read_starts before node) (StartRead node (leads_said stands lawful leading))
        (begun_represents stands laws (read_start desk node found) _ Same t.nodes _ _ stands.nodes
        (begun_stands stands found kind.Read found.served found.configuration.members (known stands runs) same_served same_members) ready.room same_members to_members
        (λ receiver k. Get receiver node (sym (known stands runs) k).number (sym stands.operations_counted k)))

    -- what a write writes is lawful, and the same in the protocol
    written_lawful : (value : C) → found.newest < highest_version → LawfulSheetCopy meaning (starts.written node found (meaning value))
    written_lawful value left = record { tag_lawful = inr (((omega arith, omega arith), number_is_node)); content_lawful = (value, refl) }

    same_written : (content : List ℕ) → written before node (padded content) ≡ copy_said (starts.written node found content)
    same_written content = ap (λ (n : Node). record { tag = tag_of (suc n.newest) node; content = padded content }) (known stands runs)

    -- A write starts.
    write_begins : (value : C) → Leading desk t.nodes node found → found.newest < highest_version
        → let start = write_start desk node found (meaning value) in Goes (counted desk start) (begins_at width desk t node start)
    write_begins value leading left =
        let copy = starts.written node found (meaning value) in
        let copy_lawful = written_lawful value left in
        let whole = lawful_round_trip width meaning reads laws copy copy_lawful in
        by_one_move setting (write_starts before node (padded (meaning value))) (StartWrite node (padded (meaning value)) (leads_said stands lawful leading))
        (begun_represents stands laws (write_start desk node found (meaning value)) _ (Becomes node (with_next_version (before.nodes node))) _ _ _
        (record_becomes desk.node_count node t.nodes before.nodes _ _ (ap with_next_version (known stands runs)) stands.nodes)
        (begun_stands stands found kind.Write copy found.configuration.members (known stands runs) (same_written (meaning value)) same_members) ready.room same_members
        (λ place inside. record {
          start = to_members place inside;
          tag_lawful = copy_lawful.tag_lawful;
          content_lawful = content_for_frame width meaning laws.fills laws.bounded copy copy_lawful;
        })
        (λ receiver. ap (λ copy. Put receiver node found.configuration.number desk.operations_used (copy_said copy)) whole
        ∙ (λ k. Put receiver node (sym (known stands runs) k).number (sym stands.operations_counted k) (sym (same_written (meaning value)) k))))

    -- A regroup starts.
    regroup_begins : (members : Members) → InGroup desk t.nodes node found → let start = regroup_start desk node found members in Goes (counted desk start) (begins_at width desk t node start)
    regroup_begins members in_group =
        by_one_move setting (regroup_starts before node (listed members)) (StartRegroup node (listed members) (takes_part_said stands in_group))
        (begun_represents stands laws (regroup_start desk node found members) _ (Becomes node (frozen (before.nodes node))) _ _ _
        (record_becomes desk.node_count node t.nodes before.nodes _ _ (ap frozen (known stands runs)) stands.nodes)
        (begun_stands stands found kind.Regroup found.served members (known stands runs) same_served refl) ready.room same_members to_members
        (λ receiver k. Freeze receiver node (sym (known stands runs) k).number (sym stands.operations_counted k)))

  -- The calls: what is refused leaves the tables as they are.

  pub read_goes : (node : ℕ) → let left = read_step width desk t node in Goes left.1 left.2
  read_goes node = go (may_read desk t node) refl
    where
      go : (answer : Result Start Fault) → may_read desk t node ≡ answer → let left = reading width desk t answer in Goes left.1 left.2
      go (Err fault) is = (before, Now, stands)
      go (Ok start) is =
          let met = read_met desk t node start is in
          subst (λ start. Goes (counted desk start) (begins width desk t start)) met.is (read_begins node met.found met.leading.in_group.runs met.ready met.leading)

  pub write_goes : (node : ℕ) (value : C) → let left = write_step width desk t node (meaning value) in Goes left.1 left.2
  write_goes node value = go (may_write desk t node (meaning value)) refl
    where
      go : (answer : Result Start Fault) → may_write desk t node (meaning value) ≡ answer → let left = starting width desk t node answer in Goes left.1 left.2
      go (Err fault) is = (before, Now, stands)
      go (Ok start) is =
          let met = write_met desk t node (meaning value) start is in
          subst (λ start. Goes (counted desk start) (begins_at width desk t node start)) met.is (write_begins node met.found met.leading.in_group.runs met.ready value met.leading met.version_left)

  pub regroup_goes : (node : ℕ) (members : Members) → let left = regroup_step width desk t node members in Goes left.1 left.2
  regroup_goes node members = go (may_regroup desk t node members) refl
    where
      go : (answer : Result Start Fault) → may_regroup desk t node members ≡ answer → let left = starting width desk t node answer in Goes left.1 left.2
      go (Err fault) is = (before, Now, stands)
      go (Ok start) is =
          let met = regroup_met desk t node members start is in
          subst (λ start. Goes (counted desk start) (begins_at width desk t node start)) met.is (regroup_begins node met.found met.in_group.runs met.ready members met.in_group)
