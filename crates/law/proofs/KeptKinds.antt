-- At the end a row is of the kind of the operation that its call started.
use Rattle.std.proofs.Common.{◌≡◌, ℕ, true, List, Some, ap, sym, ◌∙◌, subst}
use Rattle.calls.specs.declared.call.Call.{Call}
use Rattle.calls.specs.declared.call.Call.TheVariants.{Open, Read, Write, Regroup, Propose, Settle, Work, Deliver, Lose, GiveUp, Stop, Look}
use Rattle.floor.specs.State.{State}
use Rattle.law.specs.Law.{ShownAtEnd, Started, is_start, kind_of}
use Rattle.law.specs.Runs.{Parts, Entry}
use Rattle.law.proofs.AtEnd.{begun_kind}
use Rattle.law.proofs.Begun.{started_is_begun}
use Rattle.law.proofs.Linked.{Linked}
use Rattle.law.proofs.Looks.{seen_by_look}
use Rattle.law.proofs.Opening.{FromClosed, was_opened}
use Rattle.law.proofs.Rows.{Begins}
use Rattle.law.proofs.RowsSaid.{same_kinds}
use Rattle.tables.specs.declared.records.OperationRow.{OperationRow}

begins_of_kind : {C : Type 0} (meaning : C → List ℕ) (call : Call C) (row : OperationRow) → Begins meaning call row → is_start call ≡ true → kind_of call ≡ Some row.kind
begins_of_kind meaning (Read node) row begins starts = ap (λ k. Some k) (sym begins)
begins_of_kind meaning (Write node content) row begins starts = ap (λ k. Some k) (sym begins.0)
begins_of_kind meaning (Regroup node members) row begins starts = absurd (cc)
begins_of_kind meaning (Open count members content) row begins starts = absurd begins
begins_of_kind meaning (Propose operation) row begins starts = absurd begins
begins_of_kind meaning (Settle node) row begins starts = absurd begins
begins_of_kind meaning (Work number step ballot set) row begins starts = absurd begins
begins_of_kind meaning (Deliver slot) row begins starts = absurd begins
begins_of_kind meaning (Lose slot) row begins starts = absurd begins
begins_of_kind meaning (GiveUp operation) row begins starts = absurd begins
begins_of_kind meaning (Stop node) row begins starts = absurd begins
begins_of_kind meaning (Look operation) row begins starts = absurd begins

module _ {C Q S : Type 0} {parts : Parts C Q S} {calls : List (Entry C Q S)} {end : State Q S} (link : Linked parts) (ran : FromClosed parts calls end) where
  pub of_its_kind : (operation i : ℕ) (row : OperationRow) (started : Started parts calls end operation i) → ShownAtEnd parts calls end operation row
      → kind_of started.entry.call ≡ Some row.kind
  of_its_kind operation i row started shown =
      let begun = started_is_begun ran operation i started in
      let (opening, opens) = was_opened ran i begun.is_open in
      let kept = same_kinds row.kind begun.starts.row.kind (begun_kind link ran opening opens operation i begun row (seen_by_look end operation row shown).row_in) in
      let there = started.there in
      let there' = begun.there in
      let same : begun.entry ≡ started.entry = cc in
      let begins = subst (λ (e : Entry C Q S). Begins parts.meaning e.call begun.starts.row) same begun.starts.begins in
      begins_of_kind parts.meaning started.entry.call begun.starts.row begins started.starts ∙ ap (λ k. Some k) (sym kept)
