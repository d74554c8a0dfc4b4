-- The opening of a run, and the floor from then on.
use Rattle.std.proofs.Common.{◌≡◌, ℕ, zero, suc, ◌<◌, ◌≤◌, inl, inr, true, false, List, Some, Err, refl, ap, sym, ◌∙◌, subst, slice_get, arith}
use Rattle.std.proofs.lemmas.Bool.{cases_Bool, cases_lt, both_ways}
use Rattle.calls.specs.declared.call.Call.TheVariants as made
use Rattle.desk.specs.Tables.{closed}
use Rattle.fault.specs.declared.Fault.{Fault}
use Rattle.floor.specs.State.{State}
use Rattle.law.specs.Runs.{Parts, Entry, Run}
use Rattle.law.proofs.ClosedSteps.{OpensFloor, closed_step}
use Rattle.law.proofs.OpenSteps.{row_step}
use Rattle.law.proofs.Places.{state_at, at_start, Goes, goes_at, GoesOrEnded, goes_or_ended, upwards}
use Rattle.law.proofs.RowFacts.{keeps_of, count_rises}
use Rattle.law.proofs.Rows.{RowStep}
use Rattle.tables.specs.declared.members.Members.{Members}

-- A run from a closed floor.
pub record FromClosed {C Q S : Type 0} (parts : Parts C Q S) (calls : List (Entry C Q S)) (end : State Q S) : Type 0 where
  pub start : State Q S
  pub closed_start : start.desk ≡ closed
  pub run : Run parts start calls end

module _ {C Q S : Type 0} {parts : Parts C Q S} {calls : List (Entry C Q S)} {end : State Q S} (ran : FromClosed parts calls end) where
  abbrev pub IsOpen : ℕ → Type 0
  IsOpen place = (state_at ran.start calls place).desk.is_open ≡ true

  -- what the call at a place does to the rows
  abbrev pub RowsAt : ℕ → Entry C Q S → Type 0
  RowsAt place entry = RowStep parts (state_at ran.start calls place) entry.call entry.answer (state_at ran.start calls (suc place))

  -- the call at this place opens the floor
  pub record OpensAt (place : ℕ) : Type 0 where
    pub entry : Entry C Q S
    pub there : slice_get calls place ≡ Some entry
    pub was_closed : (state_at ran.start calls place).desk.is_open ≡ false
    pub opens : OpensFloor parts (state_at ran.start calls place) entry.call entry.answer (state_at ran.start calls (suc place))

  -- How a floor comes to be open behind a place.
  pub data OpenBehind (place : ℕ) : Type 0 where
    Ended : state_at ran.start calls (suc place) ≡ state_at ran.start calls place → OpenBehind place
    Called : (entry : Entry C Q S) → slice_get calls place ≡ Some entry → IsOpen place → RowsAt place entry → OpenBehind place
    Opened : OpensAt place → OpenBehind place

  pub rows_at : (place : ℕ) (entry : Entry C Q S) → Goes parts ran.start calls place entry → IsOpen place → RowsAt place entry
  rows_at place entry goes is_open = row_step parts (state_at ran.start calls place) (state_at ran.start calls (suc place)) entry.answer entry.call is_open goes.step

  by_call : (place : ℕ) (entry : Entry C Q S) → slice_get calls place ≡ Some entry → Goes parts ran.start calls place entry → IsOpen (suc place) → OpenBehind place
  by_call place entry there goes is_open = elim (cases_Bool (state_at ran.start calls place).desk.is_open) [
    | inl open_before ↦ Called entry there open_before (rows_at place entry goes open_before)
    | inr closed_before ↦ elim (closed_step parts (state_at ran.start calls place) (state_at ran.start calls (suc place)) entry.answer closed_before entry.call goes.step) [
      | inl opens ↦ Opened (record { entry = entry; there = there; was_closed = closed_before; opens = opens })
      | inr refused ↦ let stays = ap (λ s. s.desk.is_open) refused.nothing in absurd (both_ways _ closed_before (sym stays ∙ is_open))
    ]
  ]

  pub open_behind : (place : ℕ) → IsOpen (suc place) → OpenBehind place
  open_behind place is_open = elim (goes_or_ended parts ran.start end calls ran.run place) [
    | inl (entry, there, goes) ↦ by_call place entry there goes is_open
    | inr ended ↦ Ended ended
  ]

  pub not_open_at_start : IsOpen 0 → ⊥
  not_open_at_start is_open =
      let is_closed : ran.start.desk.is_open ≡ false = ap (λ d. d.is_open) ran.closed_start in
      both_ways ran.start.desk.is_open is_closed (subst (λ (s : State Q S). s.desk.is_open ≡ true) (at_start ran.start calls) is_open)

  -- An open floor was opened.
  pub was_opened : (place : ℕ) → IsOpen place → (opening : ℕ) × OpensAt opening
  was_opened zero is_open = absurd (not_open_at_start is_open)
  was_opened (suc place) is_open = elim (open_behind place is_open) [
    | Ended same ↦ was_opened place (sym (ap (λ s. s.desk.is_open) same) ∙ is_open)
    | Called entry there open_before rows ↦ was_opened place open_before
    | Opened opens ↦ (place, opens)
  ]

  -- what stays on an open floor, and the rows in use
  pub record StaysOpen (early late : ℕ) : Type 0 where
    pub is_open : IsOpen late
    pub same_nodes : (state_at ran.start calls late).desk.node_count ≡ (state_at ran.start calls early).desk.node_count
    pub same_rule : (state_at ran.start calls late).rule ≡ (state_at ran.start calls early).rule
    pub count_rises : (state_at ran.start calls early).desk.operations_used ≤ (state_at ran.start calls late).desk.operations_used

  stays_behind : (early place : ℕ) → StaysOpen early place → GoesOrEnded parts ran.start calls place → StaysOpen early (suc place)
  stays_behind early place stays (inl (entry, there, goes)) =
      let rows = rows_at place entry goes stays.is_open in
      let before = state_at ran.start calls place in
      let after = state_at ran.start calls (suc place) in
      let keeps = keeps_of parts before entry.call entry.answer after rows in
      let rises = count_rises parts before entry.call entry.answer after rows in
      let rose = stays.count_rises in
      record {
        is_open = keeps.same_openness ∙ stays.is_open;
        same_nodes = keeps.same_nodes ∙ stays.same_nodes;
        same_rule = keeps.same_rule ∙ stays.same_rule;
        count_rises = omega (arith, rises, rose);
      }
  stays_behind early place stays (inr ended) =
      let same = ap (λ s. s.desk.operations_used) ended in
      let rose = stays.count_rises in
      record {
        is_open = ap (λ s. s.desk.is_open) ended ∙ stays.is_open;
        same_nodes = ap (λ s. s.desk.node_count) ended ∙ stays.same_nodes;
        same_rule = ap (λ s. s.rule) ended ∙ stays.same_rule;
        count_rises = omega (arith, same, rose);
      }

  pub stays_open : (early late : ℕ) → early ≤ late → IsOpen early → StaysOpen early late
  stays_open early late below is_open =
      upwards (StaysOpen early) early (record { is_open = is_open; same_nodes = refl; same_rule = refl; count_rises = omega arith })
      (λ place _ stays. stays_behind early place stays (goes_or_ended parts ran.start end calls ran.run place)) late below

  -- What is open stands behind the opening.
  pub behind_the_opening : (opening place : ℕ) → OpensAt opening → IsOpen place → opening < place
  behind_the_opening opening place opens is_open = elim (cases_lt opening place) [
    | inl before ↦ before
    | inr behind ↦ absurd (both_ways _ opens.was_closed (stays_open place opening behind is_open).is_open)
  ]

  -- A call that was neither refused nor an opening was made on an open floor.
  pub made_when_open : (place : ℕ) (entry : Entry C Q S) → slice_get calls place ≡ Some entry → ((fault : Fault) → entry.answer ≡ Err fault → ⊥)
      → ((count : ℕ) (members : Members) (content : C) → entry.call ≡ made.Open count members content → ⊥) → IsOpen place × RowsAt place entry
  made_when_open place entry there not_refused no_opening =
      let goes = goes_at parts ran.start end calls ran.run place entry there in
      elim (cases_Bool (state_at ran.start calls place).desk.is_open) [
        | inl is_open ↦ (is_open, rows_at place entry goes is_open)
        | inr is_closed ↦ elim (closed_step parts (state_at ran.start calls place) (state_at ran.start calls (suc place)) entry.answer is_closed entry.call goes.step) [
          | inl opens ↦ absurd (no_opening opens.count opens.members opens.content opens.opens)
          | inr refused ↦ absurd (not_refused refused.fault refused.says)
        ]
      ]
