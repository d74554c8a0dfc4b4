-- Propose and settle keep lawful tables lawful.
use Rattle.std.proofs.Common.{◌≡◌, ℕ, ◌<◌, Bool, List, Result, Ok, Err, sym, subst, arith}
use Rattle.std.specs.Result.{IfOk}
use Rattle.std.proofs.lemmas.Bool.Decides.{nat_tests}
use Rattle.chooser.specs.Laws.{Offered}
use Rattle.chooser.specs.Limits.{numbers}
use Rattle.chooser.specs.Meaning.{Answer, Decisions, OfferLists, offer_answer}
use Rattle.fault.specs.declared.Fault.{Fault}
use Rattle.fault.specs.declared.Fault.TheVariants.{NoRegroup, NotOpen}
use Rattle.tables.specs.declared.records.OperationKind.TheVariants.{Regroup}
use Rattle.tables.specs.declared.records.OperationRow.{OperationRow}
use Rattle.tables.specs.declared.records.OperationState.TheVariants.{Proposed}
use Rattle.tables.specs.declared.records.ProposalRow.{ProposalRow}
use Rattle.tables.specs.Lawful.{LawfulOperation, LawfulProposal}
use Rattle.node.specs.Conditions.{is_open, same_kind}
use Rattle.desk.specs.declared.desk.Desk.{Desk}
use Rattle.desk.specs.Asking.{served, started}
use Rattle.desk.specs.Ending.{still_open}
use Rattle.desk.specs.LawfulTables.{LawfulTables}
use Rattle.desk.specs.Tables.{Tables}
use Rattle.desk.proofs.KeptLawful.{any_state_lawful, other_frames_lawful, started_lawful}
use Rattle.desk.proofs.Replaced.{row_added, row_replaced}
use Rattle.desk.proofs.Results.{where_true, where_first, where_found}
use Rattle.handover.specs.Proposing.{regroup_open, running_node, frozen_group, proposal_left, may_propose, proposal_of, offered, Proposing, ProposeStep}
use Rattle.handover.specs.Settling.{may_settle, settling, settle_step}

-- an offer that is taken has a number that a chooser decides
taken_bounded : (lists : OfferLists) (number : ℕ) → Ok tt ≡ offer_answer lists number → number < numbers
taken_bounded lists number taken = grind (arith, nat_tests)

module _ {C : Type 0} (meaning : C → List ℕ) (desk : Desk) (t : Tables) (lawful : LawfulTables meaning desk t) where
  abbrev Row : OperationRow → Type 0
  Row row = LawfulOperation meaning row

  regroup_lawful : (row : OperationRow) → Row row → IfOk (regroup_open row) Row
  regroup_lawful row row_lawful =
      where_found Row Row (still_open row) _ (where_true Row (is_open row.state) (Ok row) NotOpen (λ _. row_lawful)) (λ row row_lawful.
      where_true Row (same_kind row.kind Regroup) (Ok row) NoRegroup (λ _. row_lawful))

  -- the row that may be offered
  proposing_lawful : (wins : ℕ → ℕ → Bool) (operation : ℕ) → IfOk (may_propose wins desk t operation) Row
  proposing_lawful wins operation =
      where_first Row (served desk t) _ (λ _.
      where_found Row Row (started desk t.operations operation) _ (started_lawful meaning desk t lawful operation) (λ row row_lawful.
      where_found Row Row (regroup_open row) _ (regroup_lawful row row_lawful) (λ row row_lawful.
      where_found (λ _. Unit {0}) Row (running_node t.nodes row) _ (anything (running_node t.nodes row)) (λ node _.
      where_first Row (frozen_group wins row node) _ (λ _.
      where_first Row (proposal_left desk t.proposals) (Ok row) (λ _. row_lawful))))))
    where
      anything : {A : Type 0} (found : Result A Fault) → IfOk found (λ _. Unit {0})
      anything (Ok a) = tt
      anything (Err fault) = tt

  -- what becomes a proposal row under a number that a chooser decides
  proposal_lawful : (row : OperationRow) → Row row → row.number < numbers → LawfulProposal meaning (proposal_of row)
  proposal_lawful row row_lawful below = record { number_bounded = below; members_lawful = row_lawful.members_lawful; copy_lawful = row_lawful.copy_lawful }

  offered_lawful : (lists : OfferLists) (operation : ℕ) (row : OperationRow) → Row row → (answer : Answer) → answer ≡ offer_answer lists row.number
      → LawfulTables meaning (offered desk t operation row answer).1 (offered desk t operation row answer).2
  offered_lawful lists operation row row_lawful (Ok _) answered = record {
    nodes_lawful = lawful.nodes_lawful;
    operations_lawful = row_replaced Row desk.operations_used t.operations lawful.operations_lawful _ (any_state_lawful meaning row row_lawful Proposed) operation;
    proposals_lawful = row_added (LawfulProposal meaning) desk.proposals_used t.proposals lawful.proposals_lawful _ (proposal_lawful row row_lawful (taken_bounded lists row.number answered));
    nodes_counted = lawful.nodes_counted;
  }
  offered_lawful lists operation row row_lawful (Err refusal) answered = lawful

  -- Of a chooser that keeps to the rules of offers.
  module _ {S : Type 0} (decided : S → Decisions) (offers : S → OfferLists) (offering : S → ℕ → ℕ → Answer → S → Type 0)
      (keeps_rules : (s t : S) (number value : ℕ) (answer : Answer) → offering s number value answer t → Offered (decided s) (offers s) number value answer (decided t) (offers t))
      (chooser after : S) (operation : ℕ) (outcome : Result ℕ Fault × Desk × Tables) where
    left_lawful : (answer : Result OperationRow Fault) → IfOk answer Row → Proposing offering desk t chooser operation answer outcome after → LawfulTables meaning outcome.1 outcome.2
    left_lawful (Ok row) row_lawful (answer, offers_it, is) =
        subst (λ (left : Result ℕ Fault × Desk × Tables). LawfulTables meaning left.1 left.2) (sym is)
        (offered_lawful (offers chooser) operation row row_lawful answer (keeps_rules chooser after row.number desk.proposals_used answer offers_it).answered)
    left_lawful (Err fault) _ (is, _) = subst (λ (left : Result ℕ Fault × Desk × Tables). LawfulTables meaning left.1 left.2) (sym is) lawful

    pub propose_keeps_lawful : (wins : ℕ → ℕ → Bool) → ProposeStep wins offering desk t chooser operation outcome after → LawfulTables meaning outcome.1 outcome.2
    propose_keeps_lawful wins step = left_lawful (may_propose wins desk t operation) (proposing_lawful wins operation) step

  settling_lawful : (width node : ℕ) (answer : Result ProposalRow Fault) → LawfulTables meaning desk (settling width t node answer).1
  settling_lawful width node (Ok row) = other_frames_lawful meaning desk t lawful _
  settling_lawful width node (Err fault) = lawful

  pub settle_keeps_lawful : (width : ℕ) (decided : Decisions) (node : ℕ) → LawfulTables meaning desk (settle_step width decided desk t node).1
  settle_keeps_lawful width decided node = settling_lawful width node (may_settle decided desk t node)
