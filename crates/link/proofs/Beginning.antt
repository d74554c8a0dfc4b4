-- What the starts share: their node as the protocol has it, their row, and what the tables stand for after them.
use Rattle.std.proofs.Common.{◌≡◌, ◌≢◌, ℕ, ◌<◌, suc, true, false, Option, List, length, refl, sym, ap, arith}
use Rattle.chooser.specs.Meaning.{Decisions}
use Rattle.frame.proofs.Laws.{Laws}
use Rattle.slots.specs.Letters.{addressed}
use Rattle.tables.specs.declared.copy.SheetCopy.{SheetCopy}
use Rattle.tables.specs.declared.members.Members.{Members}
use Rattle.tables.specs.declared.records.NodeRecord.{NodeRecord}
use Rattle.tables.specs.declared.records.OperationKind.{OperationKind}
use Rattle.tables.specs.declared.records.Status as record_status
use Rattle.tables.specs.declared.records.Status.TheVariants as status
use Rattle.tables.specs.Members.{listed}
use Rattle.node.specs.Conditions.{is_idle}
use Rattle.desk.specs.declared.desk.Desk.{Desk}
use Rattle.desk.specs.Tables.{Tables}
use Rattle.desk.specs.LawfulTables.{LawfulTables}
use Rattle.starts.specs.declared.start.Start.{Start}
use Rattle.starts.specs.Grounds.{is_frozen, begun}
use Rattle.starts.specs.Starts.{counted, begins}
use Rattle.protocol.specs.State.{Copy, Idle, Active, Node, Operation, Frame, System}
use Rattle.protocol.specs.Effects.{Change, Added, ToEach, quiet}
use Rattle.protocol.specs.Conditions.{Leads, TakesPart}
use Rattle.protocol.specs.Changes.{starting}
use Rattle.witness.proofs.Performing.{changed, perform}
use Rattle.link.proofs.Terms.{StandsFor, copy_said, kind_said, status_said, node_said, frame_said}
use Rattle.link.proofs.Represents.{Represents}
use Rattle.link.proofs.Sets.{nobody_in_nothing}
use Rattle.link.proofs.Standing.{NodesStand, LawfulToEach, row_added, frames_sent, sent_lawful}
use Rattle.link.proofs.NotRefused.{Runs, InGroup, Leading}
use Rattle.link.proofs.Lawfulness.{is_node}

-- a node that is neither idle nor frozen is active
active_else : (status : record_status.Status) → is_idle status ≡ false → is_frozen status ≡ false → status_said status ≡ Active
active_else status.Idle not_idle not_frozen = absurd (cc)
active_else status.Active not_idle not_frozen = refl
active_else status.Frozen not_idle not_frozen = absurd (cc)

not_idle_said : (status : record_status.Status) → is_idle status ≡ false → status_said status ≢ Idle
not_idle_said status.Idle not_idle same = absurd (cc)
not_idle_said status.Active not_idle same = cc
not_idle_said status.Frozen not_idle same = cc

module _ {C : Type 0} {width : ℕ} {meaning : C → List ℕ} {reads : List ℕ → Option C} {decided : Decisions} {desk : Desk} {t : Tables} {before : System}
    (stands : Represents width meaning reads decided desk t before) where
  -- the record of a node that runs
  pub known : {node : ℕ} {found : NodeRecord} → Runs desk t.nodes node found → before.nodes node ≡ node_said found
  known {node} {found} runs = stands.nodes node found runs.inside runs.here

  pub takes_part_said : {node : ℕ} {found : NodeRecord} → InGroup desk t.nodes node found → TakesPart (before.nodes node)
  takes_part_said {node} {found} in_group =
      rw (known in_group.runs) (record { running = in_group.runs.goes_on; not_idle = not_idle_said found.status in_group.not_idle })

  pub leads_said : {node : ℕ} {found : NodeRecord} → LawfulTables meaning desk t → Leading desk t.nodes node found → Leads node (before.nodes node)
  leads_said {node} {found} lawful leading =
      let runs = leading.in_group.runs in
      let number = is_node meaning desk t lawful node found runs.inside runs.here in
      rw (known runs)
      (record { running = runs.goes_on; active = active_else found.status leading.in_group.not_idle leading.not_frozen; is_primary = leading.is_primary; below_32 = omega arith })

  -- A row as it begins stands for an operation as it starts.
  pub begun_stands : {node : ℕ} (found : NodeRecord) (kind : OperationKind) (copy : SheetCopy) (members : Members) {copy_is : Copy} {members_are : List ℕ} → before.nodes node ≡ node_said found
      → copy_is ≡ copy_said copy → members_are ≡ listed members → StandsFor (begun desk node found kind copy members) (starting before (kind_said kind) node copy_is members_are)
  begun_stands found kind copy members found_is same_copy same_members = record {
    same_kind = refl;
    same_node = refl;
    same_number = ap (λ (n : Node). n.number) found_is;
    same_copy = same_copy;
    same_members = same_members;
    same_places = λ place. sym (nobody_in_nothing place);
    same_stage = refl;
  }

  -- A row is added, frames go to the members of the start's node, and maybe the record of that node changes.
  pub begun_represents : Laws width meaning reads → (start : Start) (operation : Operation) (change : Change Node) (nodes : List NodeRecord) (members : List ℕ) (frame_to : ℕ → Frame)
      → let receivers = listed start.node.configuration.members in
      NodesStand desk.node_count nodes (changed change before.nodes) → StandsFor start.row operation → desk.operations_used < length t.operations
      → members ≡ receivers → LawfulToEach width meaning reads receivers start.letter → ((receiver : ℕ) → frame_said (addressed width start.letter receiver) ≡ frame_to receiver)
      → Represents width meaning reads decided (counted desk start) (record (begins width desk t start) { nodes = nodes })
      (perform (record quiet { node = change; operation = Added operation; ticks = true; sends = ToEach members frame_to }) before)
  begun_represents laws start operation change nodes members frame_to nodes_stand row_stands room same lawful_letter says = record {
    nodes = nodes_stand;
    operations_counted = ap suc stands.operations_counted;
    operations = row_added StandsFor desk.operations_used t.operations before.operations.row stands.operations start.row operation row_stands before.operations.count stands.operations_counted room;
    proposals_counted = stands.proposals_counted;
    proposals = stands.proposals;
    decisions = stands.decisions;
    frames = frames_sent width meaning reads laws t.frames start.letter before.frames (listed start.node.configuration.members) members frame_to same stands.frames lawful_letter says;
    frames_lawful = sent_lawful width meaning reads laws t.frames start.letter (listed start.node.configuration.members) stands.frames_lawful lawful_letter;
  }
