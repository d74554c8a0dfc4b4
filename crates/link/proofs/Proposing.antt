-- The call propose: the move that proposes a regroup's members, and maybe the one that decides it at once; nothing where it is refused.
use Rattle.std.proofs.Common.{◌≡◌, ℕ, suc, Bool, true, List, Option, Result, Ok, Err, refl, sym, ap, ◌∙◌, subst}
use Rattle.chooser.specs.Laws.{Deciding}
use Rattle.chooser.specs.Meaning.{Decisions, Answer}
use Rattle.fault.specs.declared.Fault.{Fault}
use Rattle.tables.specs.declared.records.OperationKind.{OperationKind}
use Rattle.tables.specs.declared.records.OperationKind.TheVariants as kind
use Rattle.tables.specs.declared.records.OperationRow.{OperationRow}
use Rattle.tables.specs.declared.records.OperationState.TheVariants as state
use Rattle.tables.specs.Lawful.{LawfulOperation}
use Rattle.tables.specs.Members.{size}
use Rattle.node.specs.Conditions.{same_kind}
use Rattle.desk.specs.declared.desk.Desk.{Desk}
use Rattle.desk.specs.Tables.{Tables}
use Rattle.desk.specs.LawfulTables.{LawfulTables}
use Rattle.handover.specs.Proposing as calls
use Rattle.handover.specs.Proposing.{regroup_open, still_running, running_node, frozen_group, proposal_left, may_propose, offered, Proposing, ProposeStep}
use Rattle.protocol.specs.State.{Content, Regroup, System, Setting}
use Rattle.protocol.specs.Conditions.{Proposes}
use Rattle.protocol.specs.Changes.{proposal_of, regroup_proposed}
use Rattle.protocol.specs.Moves.{Propose, Now, AfterMove}
use Rattle.witness.proofs.Performing.{perform, performed}
use Rattle.link.proofs.Terms.{StandsFor, kind_said, configuration_said, node_said}
use Rattle.link.proofs.Represents.{Represents, GoesTo}
use Rattle.link.proofs.Deciding.{deciding_goes}
use Rattle.link.proofs.Ending.{row_stands, is_open_said}
use Rattle.link.proofs.Lawfulness.{holds_of}
use Rattle.link.proofs.Moving.{and_then_goes}
use Rattle.link.proofs.RowsInside.{RowsInside}
use Rattle.link.proofs.Sets.{bits_are}
use Rattle.link.proofs.Settings.{RuleLaws, setting_of}
use Rattle.link.proofs.Standing.{ProposalStands, row_added, row_becomes, at_stage_stands}
use Rattle.link.proofs.ProposeMet.{ProposeMet, propose_met}

regroup_said : (of : OperationKind) → same_kind of kind.Regroup ≡ true → kind_said of ≡ Regroup
regroup_said kind.Read is = absurd (cc)
regroup_said kind.Write is = absurd (cc)
regroup_said kind.Regroup is = refl

module _ {C : Type 0} (width : ℕ) (meaning : C → List ℕ) (reads : List ℕ → Option C) (winning : ℕ → ℕ → Bool) (rule : RuleLaws winning) (members : List ℕ) (content : Content)
    (before : System) (decided : Decisions) (desk : Desk) (t : Tables) (stands : Represents width meaning reads decided desk t before) (lawful : LawfulTables meaning desk t)
    (rows_inside : RowsInside desk t) (operation : ℕ) (row : OperationRow) (met : ProposeMet winning desk t operation row) where
  abbrev setting : Setting
  setting = setting_of winning rule members content

  stands_for : StandsFor row (before.operations.row operation)
  stands_for = row_stands width meaning reads setting before decided desk t stands met.open_row

  -- the record of the row's node, which is one of the floor's
  node_known : before.nodes (before.operations.row operation).node ≡ node_said met.node
  node_known = rw stands_for.same_node (stands.nodes row.node met.node (rows_inside operation row met.open_row.below met.open_row.here) met.here)

  -- the places that froze are a winning set
  group_freezes : setting.freezes (size met.node.configuration.members) (before.operations.row operation).set ≡ true
  group_freezes =
      let row_lawful = holds_of (LawfulOperation meaning) _ row met.open_row.here (lawful.operations_lawful operation met.open_row.below) in
      ap (winning (size met.node.configuration.members)) (bits_are row.set (before.operations.row operation).set row_lawful.set_bounded stands_for.same_places) ∙ met.won

  proposes_said : Proposes setting before operation
  proposes_said = record {
    waits = is_open_said width meaning reads setting before decided desk t stands met.open_row;
    is_regroup = stands_for.same_kind ∙ regroup_said row.kind met.is_regroup;
    running = rw node_known met.goes_on;
    under = rw node_known (met.same_number ∙ sym stands_for.same_number);
    freezes = rw node_known group_freezes;
  }

  proposal_said : proposal_of (before.operations.row operation) ≡ configuration_said (calls.proposal_of row)
  proposal_said = λ k. record { number = suc (stands_for.same_number k); members = stands_for.same_members k; copy = stands_for.same_copy k }

  -- the row of a proposal is added, and the regroup is proposed
  proposed : let left = offered desk t operation row (Ok tt) in Represents width meaning reads decided left.1 left.2 (perform (regroup_proposed before operation) before)
  proposed = record {
    nodes = stands.nodes;
    operations_counted = stands.operations_counted;
    operations = row_becomes StandsFor desk.operations_used t.operations before.operations.row stands.operations _ _
        (at_stage_stands row (before.operations.row operation) state.Proposed stands_for) operation met.open_row.below;
    proposals_counted = ap suc stands.proposals_counted;
    proposals = row_added ProposalStands desk.proposals_used t.proposals before.proposals.row stands.proposals
        (calls.proposal_of row) (proposal_of (before.operations.row operation)) proposal_said before.proposals.count stands.proposals_counted met.room;
    decisions = stands.decisions;
    frames = stands.frames;
    frames_lawful = stands.frames_lawful;
  }

  -- What the chooser answers decides whether it is proposed; that it decides is a move of its own.
  pub offered_goes : (after : Decisions) (answer : Answer) → Deciding decided row.number answer after
      → let left = offered desk t operation row answer in GoesTo width meaning reads setting before after left.1 left.2
  offered_goes after (Err refusal) deciding = deciding_goes setting stands after row.number (Err refusal) deciding
  offered_goes after (Ok _) deciding =
      and_then_goes setting (AfterMove Now (regroup_proposed before operation, Propose operation proposes_said, performed (regroup_proposed before operation) before))
      (deciding_goes setting proposed after row.number (Ok tt) deciding)

-- what a chooser keeps to where it is offered a value
abbrev pub OffersDecide : {S : Type 0} → (S → Decisions) → (S → ℕ → ℕ → Answer → S → Type 0) → Type 0
OffersDecide {S} decided offering = (chooser after : S) (number value : ℕ) (answer : Answer) → offering chooser number value answer after → Deciding (decided chooser) number answer (decided after)

module _ {C S : Type 0} (width : ℕ) (meaning : C → List ℕ) (reads : List ℕ → Option C) (winning : ℕ → ℕ → Bool) (rule : RuleLaws winning) (members : List ℕ) (content : Content)
    (decided : S → Decisions) (offering : S → ℕ → ℕ → Answer → S → Type 0) (offers_decide : OffersDecide decided offering)
    (before : System) (desk : Desk) (t : Tables) (chooser after : S) (stands : Represents width meaning reads (decided chooser) desk t before) (lawful : LawfulTables meaning desk t)
    (rows_inside : RowsInside desk t) where
  -- what the call comes to
  abbrev Goes : Result ℕ Fault × Desk × Tables → S → Type 0
  Goes outcome left = GoesTo width meaning reads (setting_of winning rule members content) before (decided left) outcome.1 outcome.2

  pub propose_goes : (operation : ℕ) (outcome : Result ℕ Fault × Desk × Tables) → ProposeStep winning offering desk t chooser operation outcome after → Goes outcome after
  propose_goes operation outcome step = go (may_propose winning desk t operation) refl step
    where
      go : (answer : Result OperationRow Fault) → may_propose winning desk t operation ≡ answer → Proposing offering desk t chooser operation answer outcome after → Goes outcome after
      go (Err fault) is (left, same) = subst (λ o. Goes o after) (sym left) (subst (Goes (Err fault, desk, t)) (sym same) (before, Now, stands))
      go (Ok row) is (answer, offers, left) =
          let met = propose_met winning desk t operation row is in
          let deciding = offers_decide chooser after row.number desk.proposals_used answer offers in
          subst (λ o. Goes o after) (sym left) (offered_goes width meaning reads winning rule members content before (decided chooser) desk t stands lawful rows_inside operation row met (decided after) answer deciding)

-- no node and no operation is added
abbrev pub SameCounts : Desk → Result ℕ Fault × Desk × Tables → Type 0
SameCounts desk outcome = (outcome.1.node_count ≡ desk.node_count) × (outcome.1.operations_used ≡ desk.operations_used)

counts_by_answer : (desk : Desk) (t : Tables) (operation : ℕ) (row : OperationRow) (answer : Answer) → SameCounts desk (offered desk t operation row answer)
counts_by_answer desk t operation row (Ok _) = (refl, refl)
counts_by_answer desk t operation row (Err refusal) = (refl, refl)

pub propose_keeps_counts : {S : Type 0} (winning : ℕ → ℕ → Bool) (offering : S → ℕ → ℕ → Answer → S → Type 0) (desk : Desk) (t : Tables) (chooser after : S) (operation : ℕ)
    (outcome : Result ℕ Fault × Desk × Tables) → ProposeStep winning offering desk t chooser operation outcome after → SameCounts desk outcome
propose_keeps_counts winning offering desk t chooser after operation outcome step = go (may_propose winning desk t operation) step
  where
    go : (may : Result OperationRow Fault) → Proposing offering desk t chooser operation may outcome after → SameCounts desk outcome
    go (Err fault) (left, _) = subst (SameCounts desk) (sym left) (refl, refl)
    go (Ok row) (answer, _, left) = subst (SameCounts desk) (sym left) (counts_by_answer desk t operation row answer)
