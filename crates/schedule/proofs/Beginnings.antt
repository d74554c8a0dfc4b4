-- What is played on a floor as it was made is played in order.
use Rattle.std.proofs.Common.{◌≡◌, ℕ, List, subst}
use Rattle.calls.specs.declared.call.Turn.{Turn}
use Rattle.tables.specs.declared.records.NodeRecord.{NodeRecord}
use Rattle.tables.specs.declared.records.OperationRow.{OperationRow}
use Rattle.tables.specs.declared.records.ProposalRow.{ProposalRow}
use Rattle.desk.specs.Tables.{closed}
use Rattle.floor.specs.declared.floor.Floor.{Floor}
use Rattle.floor.specs.State.{State, state}
use Rattle.law.specs.Law.{OrderHolds}
use Rattle.law.specs.Runs.{Parts, Played, beginning}
use Rattle.schedule.specs.Played.{PlayedInOrder}

module _ {C Q S : Type 0} (parts : Parts C Q S) (holds : OrderHolds parts) (floor : Floor C Q S) (rule : Q) (chooser : S)
    (nodes : List NodeRecord) (operations : List OperationRow) (frames : List ℕ) (proposals : List ProposalRow)
    (is_closed : floor.desk ≡ closed) (same_rule : floor.rule ≡ rule) (same_chooser : floor.chooser ≡ chooser) where
  abbrev made : State Q S
  made = state floor nodes operations frames proposals

  made_is_beginning : made ≡ beginning rule chooser nodes operations frames proposals
  made_is_beginning = cc

  -- the law holds of every run from a closed floor, so of this one
  pub played_in_order : (turns : List (Turn C)) (end : State Q S) → Played parts (state floor nodes operations frames proposals) turns end
      → PlayedInOrder parts (beginning rule chooser nodes operations frames proposals) turns end
  played_in_order turns end played =
      subst (λ start. PlayedInOrder parts start turns end) made_is_beginning
      (record { played = played; law = holds (state floor nodes operations frames proposals) end played.entries is_closed played.run })
