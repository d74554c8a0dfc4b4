-- What follows for a single row from what a call does to the rows.
use Rattle.std.proofs.Common.{◌≡◌, ℕ, true, zero, suc, ◌<◌, ◌≤◌, ◌⊎◌, ◌≢◌, inl, inr, List, [], ◌∷◌, length, Some, Result, refl, ap, sym, ◌∙◌, subst, slice_get, slice_set, arith}
use Rattle.std.proofs.lemmas.Bool.{cases_eq, false≢true}
use Rattle.std.proofs.lemmas.Option.{slice_get_within}
use Rattle.node.specs.Conditions.{is_open}
use Rattle.calls.specs.declared.call.Answer.{Answer}
use Rattle.calls.specs.declared.call.Call.{Call}
use Rattle.fault.specs.declared.Fault.{Fault}
use Rattle.floor.specs.State.{State}
use Rattle.law.specs.Runs.{Parts}
use Rattle.law.proofs.Rows.{OpenRowSet, Keeps, StartsRow, AnswersRow, RowStep, Starts, Answers, Neither}
use Rattle.tables.specs.declared.records.OperationRow.{OperationRow}
use Rattle.tables.specs.declared.records.OperationState.TheVariants.{Answered}

pub get_set_same : {A : Type 0} (rows : List A) (place : ℕ) (row : A) → place < length rows → slice_get (slice_set rows place row) place ≡ Some row
get_set_same [] place row inside = absurd (omega arith)
get_set_same (first ∷ rows) zero row inside = refl
get_set_same (first ∷ rows) (suc place) row inside = get_set_same rows place row (omega arith)

pub get_set_other : {A : Type 0} (rows : List A) (place other : ℕ) (row : A) → other ≢ place → slice_get (slice_set rows place row) other ≡ slice_get rows other
get_set_other [] place other row differ = refl
get_set_other (first ∷ rows) zero zero row differ = absurd (differ refl)
get_set_other (first ∷ rows) zero (suc other) row differ = refl
get_set_other (first ∷ rows) (suc place) zero row differ = refl
get_set_other (first ∷ rows) (suc place) (suc other) row differ = get_set_other rows place other row (λ same. differ (ap suc same))

-- a row that is used
pub record RowIn {Q S : Type 0} (state : State Q S) (operation : ℕ) (row : OperationRow) : Type 0 where
  pub used : operation < state.desk.operations_used
  pub there : slice_get state.t.operations operation ≡ Some row

-- An open row that is set: what stands there, and elsewhere.
module _ (old new : List OperationRow) (used operation : ℕ) (row : OperationRow) (set : OpenRowSet old new used operation row) where
  pub set_there : slice_get new operation ≡ Some row
  set_there = ap (λ rows. slice_get rows operation) set.placed ∙ get_set_same old operation row (slice_get_within old operation set.was set.there)

  pub set_elsewhere : (other : ℕ) → other ≢ operation → slice_get new other ≡ slice_get old other
  set_elsewhere other differ = ap (λ rows. slice_get rows other) set.placed ∙ get_set_other old operation other row differ

  -- an answered row is not the one that is set
  pub answered_is_another : (other : ℕ) (answered : OperationRow) → slice_get old other ≡ Some answered → answered.state ≡ Answered → other ≢ operation
  answered_is_another other answered there is same =
      let was_there = set.there in
      let was_open = set.was_open in
      let same_row : set.was ≡ answered = cc in
      let is_open_now : is_open answered.state ≡ true = subst (λ (r : OperationRow). is_open r.state ≡ true) same_row was_open in
      absurd (false≢true (rw is at is_open_now))

module _ {C Q S : Type 0} (parts : Parts C Q S) (before : State Q S) (call : Call C) (answer : Result Answer Fault) (after : State Q S) where
  pub keeps_of : RowStep parts before call answer after → Keeps before after
  keeps_of (Starts starts) = starts.keeps
  keeps_of (Answers answers) = answers.keeps
  keeps_of (Neither neither) = neither.keeps

  pub count_rises : RowStep parts before call answer after → before.desk.operations_used ≤ after.desk.operations_used
  count_rises (Starts starts) = omega (arith, starts.counted)
  count_rises (Answers answers) = omega (arith, answers.same_count)
  count_rises (Neither neither) = omega (arith, neither.same_count)

  pub started_row : (starts : StartsRow parts before call answer after) → RowIn after before.desk.operations_used starts.row
  started_row starts = record {
    used = omega (arith, starts.counted);
    there = ap (λ rows. slice_get rows before.desk.operations_used) starts.placed ∙ get_set_same before.t.operations before.desk.operations_used starts.row starts.has_room;
  }

  pub answered_row : (answers : AnswersRow parts before call answer after) → RowIn after answers.operation answers.row
  answered_row answers = record {
    used = let below = answers.set.used_before in omega (arith, answers.same_count, below);
    there = set_there before.t.operations after.t.operations before.desk.operations_used answers.operation answers.row answers.set;
  }

  -- where the rows at a place are the same, and so is the count
  was_there : (operation : ℕ) (row : OperationRow) → after.desk.operations_used ≡ before.desk.operations_used
      → slice_get after.t.operations operation ≡ slice_get before.t.operations operation
      → RowIn after operation row → RowIn before operation row
  was_there operation row count same found = let below = found.used in record { used = omega (arith, count, below); there = sym same ∙ found.there }

  is_there : (operation : ℕ) (row : OperationRow) → after.desk.operations_used ≡ before.desk.operations_used
      → slice_get after.t.operations operation ≡ slice_get before.t.operations operation
      → RowIn before operation row → RowIn after operation row
  is_there operation row count same found = let below = found.used in record { used = omega (arith, count, below); there = same ∙ found.there }

  abbrev WasOrAnswers : ℕ → OperationRow → Type 0
  WasOrAnswers operation row = RowIn before operation row ⊎ ((answers : AnswersRow parts before call answer after) × (answers.operation ≡ operation))

  -- a row that is answered after a start was there before it
  answered_by_start : (operation : ℕ) (row : OperationRow) (starts : StartsRow parts before call answer after) → RowIn after operation row → row.state ≡ Answered → RowIn before operation row
  answered_by_start operation row starts found answered = elim (cases_eq operation before.desk.operations_used) [
    | inl same ↦
        let there = (started_row starts).there in
        let found_there = found.there in
        let state = starts.is_open in
        absurd (let is : starts.row ≡ row = cc in cc)
    | inr differ ↦
        let below = found.used in
        record {
          used = let distinct : operation ≢ before.desk.operations_used = differ in omega (arith, starts.counted, below, distinct);
          there = sym (ap (λ rows. slice_get rows operation) starts.placed ∙ get_set_other before.t.operations before.desk.operations_used operation starts.row differ) ∙ found.there;
        }
  ]

  -- An answered row was there before, or the call answered it.
  pub answered_by : (operation : ℕ) (row : OperationRow) → RowStep parts before call answer after → RowIn after operation row → row.state ≡ Answered → WasOrAnswers operation row
  answered_by operation row (Starts starts) found answered = inl (answered_by_start operation row starts found answered)
  answered_by operation row (Answers answers) found answered = elim (cases_eq operation answers.operation) [
    | inl same ↦ inr (answers, sym same)
    | inr differ ↦
        inl (was_there operation row answers.same_count (set_elsewhere before.t.operations after.t.operations before.desk.operations_used answers.operation answers.row answers.set operation differ) found)
  ]
  answered_by operation row (Neither neither) found answered = elim neither.edits [
    | inl same ↦ inl (was_there operation row neither.same_count (ap (λ rows. slice_get rows operation) same) found)
    | inr (other, changed, unanswered, set) ↦ elim (cases_eq operation other) [
      | inl same ↦
          let there = set_there before.t.operations after.t.operations before.desk.operations_used other changed set in
          let found_there = found.there in
          let is : row ≡ changed = cc in
          absurd (unanswered (subst (λ (r : OperationRow). r.state ≡ Answered) is answered))
      | inr differ ↦
          inl (was_there operation row neither.same_count (set_elsewhere before.t.operations after.t.operations before.desk.operations_used other changed set operation differ) found)
    ]
  ]

  -- And it stays as it is.
  pub answered_stays : (operation : ℕ) (row : OperationRow) → RowStep parts before call answer after → RowIn before operation row → row.state ≡ Answered → RowIn after operation row
  answered_stays operation row (Starts starts) found answered =
      let below = found.used in
      let differ : operation ≢ before.desk.operations_used = λ same. absurd (omega (arith, below, same)) in
      record {
        used = omega (arith, starts.counted, below);
        there = ap (λ rows. slice_get rows operation) starts.placed ∙ get_set_other before.t.operations before.desk.operations_used operation starts.row differ ∙ found.there;
      }
  answered_stays operation row (Answers answers) found answered =
      let differ = answered_is_another before.t.operations after.t.operations before.desk.operations_used answers.operation answers.row answers.set operation row found.there answered in
      is_there operation row answers.same_count (set_elsewhere before.t.operations after.t.operations before.desk.operations_used answers.operation answers.row answers.set operation differ) found
  answered_stays operation row (Neither neither) found answered = elim neither.edits [
    | inl same ↦ is_there operation row neither.same_count (ap (λ rows. slice_get rows operation) same) found
    | inr (other, changed, unanswered, set) ↦
        let differ = answered_is_another before.t.operations after.t.operations before.desk.operations_used other changed set operation row found.there answered in
        is_there operation row neither.same_count (set_elsewhere before.t.operations after.t.operations before.desk.operations_used other changed set operation differ) found
  ]
