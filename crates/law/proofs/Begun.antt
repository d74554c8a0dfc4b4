-- Which call of a run started an operation, and which one answered it.
use Rattle.std.proofs.Common.{◌≡◌, ℕ, zero, suc, ◌<◌, ◌≢◌, inl, inr, true, List, Some, Ok, ap, sym, ◌∙◌, subst, slice_get, arith}
use Rattle.std.proofs.lemmas.Bool.{cases_eq, cases_order, false≢true}
use Rattle.calls.specs.declared.call.Answer.TheVariants.{Number}
use Rattle.floor.specs.State.{State}
use Rattle.law.specs.Law.{Started, is_start}
use Rattle.law.specs.Runs.{Parts, Entry}
use Rattle.law.proofs.Opening.{FromClosed, IsOpen, RowsAt, Ended, Called, Opened, open_behind, not_open_at_start, stays_open, made_when_open}
use Rattle.law.proofs.Places.{state_at}
use Rattle.law.proofs.RowFacts.{RowIn, answered_by}
use Rattle.law.proofs.Rows.{StartsRow, AnswersRow, Starts, Answers, Neither}
use Rattle.tables.specs.declared.records.OperationRow.{OperationRow}
use Rattle.tables.specs.declared.records.OperationState.TheVariants.{Answered}

module _ {C Q S : Type 0} {parts : Parts C Q S} {calls : List (Entry C Q S)} {end : State Q S} (ran : FromClosed parts calls end) where
  -- how many rows are in use at a place
  abbrev pub used_at : ℕ → ℕ
  used_at place = (state_at ran.start calls place).desk.operations_used

  -- the call at a place starts the operation's row
  pub record BegunAt (operation place : ℕ) : Type 0 where
    pub entry : Entry C Q S
    pub there : slice_get calls place ≡ Some entry
    pub is_open : (state_at ran.start calls place).desk.is_open ≡ true
    pub starts : StartsRow parts (state_at ran.start calls place) entry.call entry.answer (state_at ran.start calls (suc place))
    pub same : used_at place ≡ operation

  -- the call at a place answers the operation's row
  pub record AnsweredAt (operation place : ℕ) : Type 0 where
    pub entry : Entry C Q S
    pub there : slice_get calls place ≡ Some entry
    pub is_open : (state_at ran.start calls place).desk.is_open ≡ true
    pub answers : AnswersRow parts (state_at ran.start calls place) entry.call entry.answer (state_at ran.start calls (suc place))
    pub same : answers.operation ≡ operation

  abbrev Open : ℕ → Type 0
  Open place = IsOpen ran place

  abbrev Rows : ℕ → Entry C Q S → Type 0
  Rows place entry = RowsAt ran place entry

  -- started before a place
  abbrev pub BegunBefore : ℕ → ℕ → Type 0
  BegunBefore operation place = (began : ℕ) × (began < place) × BegunAt operation began

  sooner : (operation place : ℕ) → BegunBefore operation place → BegunBefore operation (suc place)
  sooner operation place (began, before, begun) = (began, omega (arith, before), begun)

  begun_by : (operation place : ℕ) (entry : Entry C Q S) → slice_get calls place ≡ Some entry → Open place → Rows place entry → operation < used_at (suc place)
      → (operation < used_at place → BegunBefore operation place) → BegunBefore operation (suc place)
  begun_by operation place entry there open_before (Starts starts) used earlier = elim (cases_eq (used_at place) operation) [
    | inl same ↦ (place, omega arith, record { entry = entry; there = there; is_open = open_before; starts = starts; same = same })
    | inr differ ↦ let counted = starts.counted in let distinct : used_at place ≢ operation = differ in sooner operation place (earlier (omega (arith, used, counted, distinct)))
  ]
  begun_by operation place entry there open_before (Answers answers) used earlier = let same = answers.same_count in sooner operation place (earlier (omega (arith, used, same)))
  begun_by operation place entry there open_before (Neither neither) used earlier = let same = neither.same_count in sooner operation place (earlier (omega (arith, used, same)))

  -- A row in use was started before.
  pub was_begun : (operation place : ℕ) → Open place → operation < used_at place → BegunBefore operation place
  was_begun operation zero is_open used = absurd (not_open_at_start ran is_open)
  was_begun operation (suc place) is_open used = elim (open_behind ran place is_open) [
    | Ended same ↦
        sooner operation place (was_begun operation place (sym (ap (λ s. s.desk.is_open) same) ∙ is_open) (subst (λ (s : State Q S). operation < s.desk.operations_used) same used))
    | Called entry there open_before rows ↦ begun_by operation place entry there open_before rows used (was_begun operation place open_before)
    | Opened opens ↦ let none = opens.opens.unused in absurd (omega (arith, used, none))
  ]

  -- An answered row in use was answered before.
  pub was_answered : (operation place : ℕ) (row : OperationRow) → Open place → RowIn (state_at ran.start calls place) operation row → row.state ≡ Answered
      → (answering : ℕ) × AnsweredAt operation answering
  was_answered operation zero row is_open found answered = absurd (not_open_at_start ran is_open)
  was_answered operation (suc place) row is_open found answered = elim (open_behind ran place is_open) [
    | Ended same ↦ was_answered operation place row (sym (ap (λ s. s.desk.is_open) same) ∙ is_open) (subst (λ (s : State Q S). RowIn s operation row) same found) answered
    | Called entry there open_before rows ↦ elim (answered_by parts (state_at ran.start calls place) entry.call entry.answer (state_at ran.start calls (suc place)) operation row rows found answered) [
      | inl before ↦ was_answered operation place row open_before before answered
      | inr (answers, same) ↦ (place, record { entry = entry; there = there; is_open = open_before; answers = answers; same = same })
    ]
    | Opened opens ↦ let none = opens.opens.unused in let used = found.used in absurd (omega (arith, used, none))
  ]

  begun_of : (operation place : ℕ) (entry : Entry C Q S) → slice_get calls place ≡ Some entry → Open place → Rows place entry → is_start entry.call ≡ true
      → entry.answer ≡ Ok (Number operation)
      → BegunAt operation place
  begun_of operation place entry there is_open (Starts starts) is_started taken =
      record { entry = entry; there = there; is_open = is_open; starts = starts; same = let answered = starts.answered in cc }
  begun_of operation place entry there is_open (Answers answers) is_started taken = let delivers = answers.delivers in absurd (false≢true (rw delivers at is_started))
  begun_of operation place entry there is_open (Neither neither) is_started taken = absurd (neither.no_start operation is_started taken)

  -- The law's starts start rows.
  pub started_is_begun : (operation place : ℕ) → Started parts calls end operation place → BegunAt operation place
  started_is_begun operation place started =
      let is_started = started.starts in
      let taken = started.taken in
      let (is_open, rows) =
      made_when_open ran place started.entry started.there (λ fault refused. cc) (λ count members content opens. absurd (false≢true (rw opens at is_started))) in
      begun_of operation place started.entry started.there is_open rows is_started taken

  -- behind a start the floor is open, and has a row more
  pub open_behind_start : (operation place : ℕ) → BegunAt operation place → Open (suc place) × (used_at (suc place) ≡ suc operation)
  open_behind_start operation place begun = let counted = begun.starts.counted in let same = begun.same in (begun.starts.keeps.same_openness ∙ begun.is_open, omega (arith, counted, same))

  -- Starts rise with their calls.
  pub begun_in_order : (one other i j : ℕ) → BegunAt one i → BegunAt other j → i < j → one < other
  begun_in_order one other i j begun begun' before =
      let (is_open, counted) = open_behind_start one i begun in
      let same = begun'.same in
      let rises = (stays_open ran (suc i) j (omega (arith, before)) is_open).count_rises in
      omega (arith, counted, same, rises)

  pub begun_once : (operation i j : ℕ) → BegunAt operation i → BegunAt operation j → i ≡ j
  begun_once operation i j begun begun' = elim (cases_order i j) [
    | inl same ↦ same
    | inr (inl before) ↦ let less = begun_in_order operation operation i j begun begun' before in absurd (omega (arith, less))
    | inr (inr behind) ↦ let less = begun_in_order operation operation j i begun' begun behind in absurd (omega (arith, less))
  ]

  -- and calls with their starts
  pub calls_in_order : (one other i j : ℕ) → BegunAt one i → BegunAt other j → one < other → i < j
  calls_in_order one other i j begun begun' less = elim (cases_order i j) [
    | inl same ↦ let same_used : one ≡ other = sym begun.same ∙ ap used_at same ∙ begun'.same in absurd (omega (arith, less, same_used))
    | inr (inl before) ↦ before
    | inr (inr behind) ↦ let more = begun_in_order other one j i begun' begun behind in absurd (omega (arith, less, more))
  ]
