-- The call settle: the move that sends a decided proposal to its members, or nothing where it is refused.
use Rattle.std.proofs.Common.{◌≡◌, ℕ, suc, ◌<◌, List, Option, Some, None, Result, Ok, Err, nat_lt, slice_get, ◌==◌, refl, sym, ap, ◌∙◌, arith}
use Rattle.std.proofs.lemmas.Bool.Decides.{nat_tests}
use Rattle.chooser.specs.Meaning.{Decisions, decision_at}
use Rattle.fault.specs.declared.Fault.{Fault}
use Rattle.fault.specs.declared.Fault.TheVariants as fault
use Rattle.frame.proofs.Laws.{Laws}
use Rattle.slots.specs.Letters.{addressed}
use Rattle.tables.specs.declared.records.NodeRecord.{NodeRecord}
use Rattle.tables.specs.declared.records.ProposalRow.{ProposalRow}
use Rattle.tables.specs.Lawful.{LawfulProposal}
use Rattle.tables.specs.Members.{listed}
use Rattle.node.proofs.LawfulParts.{content_for_frame, members_taken_whole}
use Rattle.desk.specs.declared.desk.Desk.{Desk}
use Rattle.desk.specs.Tables.{Tables}
use Rattle.desk.specs.Asking.{served}
use Rattle.desk.specs.LawfulTables.{LawfulTables}
use Rattle.starts.specs.Grounds.{taking_part}
use Rattle.handover.specs.Settling.{of_number, named, slots_left, may_settle, update_letter, settling, settle_step}
use Rattle.protocol.specs.State.{Configuration, Update, System, Setting}
use Rattle.protocol.specs.Conditions.{IsDecided}
use Rattle.protocol.specs.Changes.{proposal_sent}
use Rattle.protocol.specs.Moves.{Settle, Now}
use Rattle.link.proofs.Terms.{copy_said, configuration_said, frame_said}
use Rattle.link.proofs.Represents.{Represents, GoesTo}
use Rattle.link.proofs.Beginning.{known, takes_part_said}
use Rattle.link.proofs.Contents.{lawful_round_trip}
use Rattle.link.proofs.Lawfulness.{holds_of, is_node, member_is_node}
use Rattle.link.proofs.Moving.{by_one_move}
use Rattle.link.proofs.NotRefused.{and_both, then_both, so, InGroup, in_group}
use Rattle.link.proofs.Standing.{ProposalStands, LawfulToEach, found_stands, frames_sent, sent_lawful}

-- a used row that a decision under its number names
record Named (desk : Desk) (proposals : List ProposalRow) (number : ℕ) (decision : Option ℕ) (row : ProposalRow) : Type 0 where
  proposal : ℕ
  decides : decision ≡ Some proposal
  below : proposal < desk.proposals_used
  here : slice_get proposals proposal ≡ Some row
  same_number : row.number ≡ number

has_number : (number : ℕ) (at : Option ProposalRow) (row : ProposalRow) → of_number number at ≡ Ok row → (at ≡ Some row) × (row.number ≡ number)
has_number number None row is = absurd (cc)
has_number number (Some other) row is =
    let (same, kept) = so (other.number == number) (Ok other) fault.NotProposed row is in
    let is_row : other ≡ row = cc in
    let number_is : other.number ≡ number = grind (arith, nat_tests) in
    (ap Some is_row, rw is_row at number_is)

is_named : (desk : Desk) (proposals : List ProposalRow) (number : ℕ) (decision : Option ℕ) (row : ProposalRow) → named desk proposals number decision ≡ Ok row → Named desk proposals number decision row
is_named desk proposals number None row is = absurd (cc)
is_named desk proposals number (Some proposal) row is =
    let (below, found) = so (nat_lt proposal desk.proposals_used) (of_number number (slice_get proposals proposal)) fault.NotProposed row is in
    let (here, same) = has_number number (slice_get proposals proposal) row found in
    record { proposal = proposal; decides = refl; below = grind (arith, nat_tests); here = here; same_number = same }

-- what a settling has found where it is not refused
record SettleMet (decided : Decisions) (desk : Desk) (t : Tables) (node : ℕ) (row : ProposalRow) : Type 0 where
  found : NodeRecord
  in_group : InGroup desk t.nodes node found
  named : Named desk t.proposals found.configuration.number (decision_at decided found.configuration.number) row

settle_met : (decided : Decisions) (desk : Desk) (t : Tables) (node : ℕ) (row : ProposalRow) → may_settle decided desk t node ≡ Ok row → SettleMet decided desk t node row
settle_met decided desk t node row may =
    let (_, _, asking) = and_both (served desk t) _ row may in
    let (found, takes_part, further) = then_both (taking_part desk t.nodes node) _ row asking in
    let (other, names, last) = then_both (named desk t.proposals found.configuration.number (decision_at decided found.configuration.number)) _ row further in
    let (_, _, kept) = and_both (slots_left t.frames other) (Ok other) row last in
    let same : other ≡ row = cc in
    record { found = found; in_group = in_group desk t.nodes node found takes_part; named = rw same at (is_named desk t.proposals found.configuration.number _ other names) }

module _ {C : Type 0} (width : ℕ) (meaning : C → List ℕ) (reads : List ℕ → Option C) (laws : Laws width meaning reads) (setting : Setting) (before : System) (decided : Decisions)
    (desk : Desk) (t : Tables) (stands : Represents width meaning reads decided desk t before) (lawful : LawfulTables meaning desk t) where
  -- what the call comes to
  abbrev Goes : Tables → Type 0
  Goes = GoesTo width meaning reads setting before decided desk

  -- the update to each of the proposal's members says the proposal
  module _ (node : ℕ) (found : NodeRecord) (row : ProposalRow) (in_group : InGroup desk t.nodes node found) (row_lawful : LawfulProposal meaning row) where
    update_lawful : LawfulToEach width meaning reads (listed row.members) (update_letter node row)
    update_lawful place inside = record {
      route = record { receiver = member_is_node row.members place row_lawful.members_lawful inside; sender = is_node meaning desk t lawful node found in_group.runs.inside in_group.runs.here };
      number_bounded = (omega arith, omega (arith, row_lawful.number_bounded));
      members_lawful = row_lawful.members_lawful;
      tag_lawful = row_lawful.copy_lawful.tag_lawful;
      content_lawful = content_for_frame width meaning laws.fills laws.bounded row.copy row_lawful.copy_lawful;
    }

    update_says : (receiver : ℕ) → frame_said (addressed width (update_letter node row) receiver) ≡ Update receiver node (configuration_said row)
    update_says receiver =
        let whole = lawful_round_trip width meaning reads laws row.copy row_lawful.copy_lawful in
        let members = members_taken_whole row.members.count row.members.nodes row_lawful.members_lawful in
        λ k. Update receiver node (record { number = suc row.number; members = listed (members k); copy = copy_said (whole k) })

  module _ (node : ℕ) (row : ProposalRow) (met : SettleMet decided desk t node row) where
    says : before.proposals.row met.named.proposal ≡ configuration_said row
    says =
        found_stands ProposalStands desk.proposals_used t.proposals before.proposals.row met.named.proposal row
        stands.proposals met.named.below met.named.here

    -- what the decision names is decided in the protocol
    is_decided : IsDecided before (before.nodes node).number met.named.proposal
    is_decided = rw (known stands met.in_group.runs) (record {
      decision = stands.decisions met.found.configuration.number ∙ met.named.decides;
      is_there = rw stands.proposals_counted met.named.below;
      follows = ap (λ (c : Configuration). c.number) says ∙ ap suc met.named.same_number;
    })

    settles : Goes (settling width t node (Ok row)).1
    settles =
        let row_lawful = holds_of (LawfulProposal meaning) _ row met.named.here (lawful.proposals_lawful met.named.proposal met.named.below) in
        let letter_lawful = update_lawful node met.found row met.in_group row_lawful in
        by_one_move setting (proposal_sent before node met.named.proposal) (Settle node met.named.proposal (takes_part_said stands met.in_group) is_decided) (record {
          nodes = stands.nodes;
          operations_counted = stands.operations_counted;
          operations = stands.operations;
          proposals_counted = stands.proposals_counted;
          proposals = stands.proposals;
          decisions = stands.decisions;
          frames = frames_sent width meaning reads laws t.frames (update_letter node row) before.frames (listed row.members) _ _ (ap (λ (c : Configuration). c.members) says) stands.frames letter_lawful
              (λ receiver. update_says node met.found row met.in_group row_lawful receiver ∙ ap (Update receiver node) (sym says));
          frames_lawful = sent_lawful width meaning reads laws t.frames (update_letter node row) (listed row.members) stands.frames_lawful letter_lawful;
        })

  pub settle_goes : (node : ℕ) → Goes (settle_step width decided desk t node).1
  settle_goes node = go (may_settle decided desk t node) refl
    where
      go : (answer : Result ProposalRow Fault) → may_settle decided desk t node ≡ answer → Goes (settling width t node answer).1
      go (Err fault) is = (before, Now, stands)
      go (Ok row) is = settles node row (settle_met decided desk t node row is)
