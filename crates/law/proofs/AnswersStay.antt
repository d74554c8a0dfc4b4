-- An operation is answered after it started, by one call, stays as it was answered, and shows so at the end.
use Rattle.std.proofs.Common.{◌≡◌, ℕ, suc, ◌<◌, ◌≢◌, inl, inr, List, Result, Ok, Err, ap, sym, ◌∙◌, subst, arith}
use Rattle.std.proofs.lemmas.Bool.{cases_order}
use Rattle.std.proofs.lemmas.Option.{slice_get_within}
use Rattle.calls.specs.declared.call.Answer.TheVariants.{Row}
use Rattle.desk.specs.Ending.{may_look}
use Rattle.fault.specs.declared.Fault.{Fault}
use Rattle.floor.specs.State.{State}
use Rattle.link.proofs.Terms.{kind_said}
use Rattle.law.specs.Law.{ShownAtEnd, Looked, Started, Answered}
use Rattle.law.specs.Runs.{Parts, Entry, Step, row_told}
use Rattle.law.proofs.AtEnd.{answer_stays, row_at_end, answered_row_at_end, answered_at_end, answered_before_end, end_points, law_at, begun_kind}
use Rattle.law.proofs.Begun.{BegunAt, AnsweredAt, was_begun}
use Rattle.law.proofs.Linked.{Linked}
use Rattle.law.proofs.Looks.{seen_by_look}
use Rattle.law.proofs.Opening.{FromClosed, was_opened, behind_the_opening}
use Rattle.law.proofs.Places.{state_at, goes_at}
use Rattle.law.proofs.RowFacts.{RowIn, answered_is_another}
use Rattle.law.proofs.RowsSaid.{same_kind, said_answered}
use Rattle.law.proofs.Told.{answered_at, answered_of, started_of}
use Rattle.tables.specs.declared.records.OperationKind.TheVariants.{Regroup}
use Rattle.tables.specs.declared.records.OperationRow.{OperationRow}
use Rattle.tables.specs.declared.records.OperationState.TheVariants as state

-- an answer with a row is that of a look that was not refused
row_looked : (looks : Result OperationRow Fault) (row : OperationRow) → row_told looks ≡ Ok (Row row) → looks ≡ Ok row
row_looked (Ok found) row is = cc
row_looked (Err fault) row is = absurd (cc)

module _ {C Q S : Type 0} {parts : Parts C Q S} {calls : List (Entry C Q S)} {end : State Q S} (ran : FromClosed parts calls end) where
  -- A look at the end shows it as answered if a call answered it, and only then.
  pub shows_answered : (operation i : ℕ) (row : OperationRow) → Answered parts calls end operation i → ShownAtEnd parts calls end operation row → row.state ≡ state.Answered
  shows_answered operation i row answered shown = answered_at_end ran operation i row (answered_at ran operation i answered) (seen_by_look end operation row shown).row_in

  pub shown_was_answered : (operation : ℕ) (row : OperationRow) → ShownAtEnd parts calls end operation row → row.state ≡ state.Answered → (i : ℕ) × Answered parts calls end operation i
  shown_was_answered operation row shown is_answered =
      let seen = seen_by_look end operation row shown in
      let (place, by_call) = answered_before_end ran operation row seen.is_open seen.row_in is_answered in
      (place, answered_of ran operation place by_call)

  -- a row that was answered is open no more
  not_again : (operation i j : ℕ) → AnsweredAt ran operation i → AnsweredAt ran operation j → i < j → ⊥
  not_again operation i j answered again before =
      let there = (answer_stays ran operation i answered j before).there in
      let used = (state_at ran.start calls j).desk.operations_used in
      answered_is_another (state_at ran.start calls j).t.operations (state_at ran.start calls (suc j)).t.operations used again.answers.operation again.answers.row again.answers.set operation
      answered.answers.row there answered.answers.is_answered (sym again.same)

  pub answered_once : (operation i j : ℕ) → Answered parts calls end operation i → Answered parts calls end operation j → i ≡ j
  answered_once operation i j answered again = elim (cases_order i j) [
    | inl same ↦ same
    | inr (inl before) ↦ absurd (not_again operation i j (answered_at ran operation i answered) (answered_at ran operation j again) before)
    | inr (inr behind) ↦ absurd (not_again operation j i (answered_at ran operation j again) (answered_at ran operation i answered) behind)
  ]

  -- two rows of one operation in one state
  same_row : (state : State Q S) (operation : ℕ) (row row' : OperationRow) → RowIn state operation row → RowIn state operation row' → row ≡ row'
  same_row state operation row row' found found' = let there = found.there in let there' = found'.there in cc

  -- the row that a look at a place answered
  looked_at : (operation place : ℕ) (row : OperationRow) → Looked parts calls end operation place row → RowIn (state_at ran.start calls place) operation row
  looked_at operation place row looked =
      let state = state_at ran.start calls place in
      let goes = goes_at parts ran.start end calls ran.run place looked.entry looked.there in
      let step = subst (λ call. Step parts state call looked.entry.answer (state_at ran.start calls (suc place))) looked.looks goes.step in
      (seen_by_look state operation row (row_looked (may_look state.desk state.t operation) row (sym step.0 ∙ looked.answered))).row_in

  pub look_stays : (operation : ℕ) (row row' : OperationRow) (i j : ℕ) → Answered parts calls end operation i → i < j → Looked parts calls end operation j row'
      → ShownAtEnd parts calls end operation row → row' ≡ row
  look_stays operation row row' i j answered before looked looks =
      let by_call = answered_at ran operation i answered in
      let then_there = same_row (state_at ran.start calls j) operation row' by_call.answers.row (looked_at operation j row' looked) (answer_stays ran operation i by_call j before) in
      then_there ∙ row_at_end ran operation i row by_call (seen_by_look end operation row looks).row_in

module _ {C Q S : Type 0} {parts : Parts C Q S} {calls : List (Entry C Q S)} {end : State Q S} (link : Linked parts) (ran : FromClosed parts calls end) where
  -- The protocol answers no regroup, so no row that began as one.
  answered_no_regroup : (operation place began : ℕ) → AnsweredAt ran operation place → (begun : BegunAt ran operation began) → begun.starts.row.kind ≢ Regroup
  answered_no_regroup operation place began answered begun regroup =
      let (opening, opens) = was_opened ran place answered.is_open in
      let inside = slice_get_within calls place answered.entry answered.there in
      let two = end_points link ran opening opens place (behind_the_opening ran opening place opens answered.is_open) (omega (arith, inside)) in
      let row = answered.answers.row in
      let found = answered_row_at_end ran operation place answered in
      let is_answered = said_answered parts end two.second two.second_stands operation row found answered.answers.is_answered in
      let kind = same_kind parts end two.second two.second_stands operation row found ∙ begun_kind link ran opening opens operation began begun row found ∙ ap kind_said regroup in
      (law_at link ran opening opens place two).only_reads_and_writes operation is_answered kind

  -- A row that is answered is in use, so it was started before.
  pub was_started : (operation j : ℕ) → Answered parts calls end operation j → (i : ℕ) × Started parts calls end operation i × (i < j)
  was_started operation j answered =
      let by_call = answered_at ran operation j answered in
      let used = by_call.answers.set.used_before in
      let same = by_call.same in
      let (began, before, begun) = was_begun ran operation j by_call.is_open (omega (arith, used, same)) in
      (began, started_of ran operation began begun (answered_no_regroup operation j began by_call begun), before)
