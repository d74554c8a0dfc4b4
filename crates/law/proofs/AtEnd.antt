-- What the end of a run keeps of what its calls did: answered rows stay as they were answered, and what was asked stays.
use Rattle.std.proofs.Common.{◌≡◌, ℕ, suc, ◌<◌, ◌≤◌, inl, inr, true, List, length, ap, sym, ◌∙◌, subst, arith}
use Rattle.std.proofs.lemmas.Option.{slice_get_within}
use Rattle.floor.specs.State.{State}
use Rattle.link.proofs.Terms.{kind_said}
use Rattle.protocol.proofs.OrderHolds.{order_holds, linearizable}
use Rattle.protocol.specs.Law.{OrderLaw}
use Rattle.protocol.specs.Line.{Line}
use Rattle.protocol.specs.Moves.{Reached, Later}
use Rattle.protocol.specs.State.{System}
use Rattle.law.specs.Runs.{Parts, Entry}
use Rattle.law.proofs.Begun.{BegunAt, AnsweredAt, was_answered}
use Rattle.law.proofs.Linked.{Linked, Stands}
use Rattle.law.proofs.Opening.{FromClosed, IsOpen, OpensAt, rows_at, stays_open, behind_the_opening}
use Rattle.law.proofs.Places.{state_at, GoesOrEnded, goes_or_ended, at_end, upwards}
use Rattle.law.proofs.RowFacts.{RowIn, answered_row, answered_stays, started_row}
use Rattle.law.proofs.RowsSaid.{same_kind, same_content, counted}
use Rattle.law.proofs.Systems.{setting, points}
use Rattle.tables.specs.declared.records.OperationKind.TheVariants.{Write}
use Rattle.tables.specs.declared.records.OperationRow.{OperationRow}
use Rattle.tables.specs.declared.records.OperationState.TheVariants.{Answered}

module _ {C Q S : Type 0} {parts : Parts C Q S} {calls : List (Entry C Q S)} {end : State Q S} (ran : FromClosed parts calls end) where
  pub ends : state_at ran.start calls (length calls) ≡ end
  ends = at_end parts ran.start end calls ran.run (length calls) (omega arith)

  -- an open end
  pub open_at_end : end.desk.is_open ≡ true → IsOpen ran (length calls)
  open_at_end is_open = ap (λ (s : State Q S). s.desk.is_open) ends ∙ is_open

  -- An answered row at a place is there at each later one.
  pub answered_later : (operation : ℕ) (row : OperationRow) (early late : ℕ) → early ≤ late → IsOpen ran early → RowIn (state_at ran.start calls early) operation row → row.state ≡ Answered
      → RowIn (state_at ran.start calls late) operation row
  answered_later operation row early late below is_open found answered =
      upwards (λ place. RowIn (state_at ran.start calls place) operation row) early found
      (λ place from here. next place (stays_open ran early place from is_open).is_open here (goes_or_ended parts ran.start end calls ran.run place)) late below
    where
      next : (place : ℕ) → IsOpen ran place → RowIn (state_at ran.start calls place) operation row → GoesOrEnded parts ran.start calls place
          → RowIn (state_at ran.start calls (suc place)) operation row
      next place open_here here (inl (entry, there, goes)) =
          answered_stays parts (state_at ran.start calls place) entry.call entry.answer (state_at ran.start calls (suc place)) operation row (rows_at ran place entry goes open_here) here answered
      next place open_here here (inr ended) = subst (λ (s : State Q S). RowIn s operation row) (sym ended) here

  -- What a call answered is there at each later place, as it was answered;
  pub answer_stays : (operation place : ℕ) (answered : AnsweredAt ran operation place) (late : ℕ) → place < late → RowIn (state_at ran.start calls late) operation answered.answers.row
  answer_stays operation place answered late before =
      let after = state_at ran.start calls (suc place) in
      let answers = answered.answers in
      let then_there : RowIn after operation answers.row =
      subst (λ o. RowIn after o answers.row) answered.same (answered_row parts (state_at ran.start calls place) answered.entry.call answered.entry.answer after answers) in
      let open_then : IsOpen ran (suc place) = answers.keeps.same_openness ∙ answered.is_open in
      answered_later operation answers.row (suc place) late (omega (arith, before)) open_then then_there answers.is_answered

  -- so it is at the end,
  pub answered_row_at_end : (operation place : ℕ) (answered : AnsweredAt ran operation place) → RowIn end operation answered.answers.row
  answered_row_at_end operation place answered =
      let at_last = answer_stays operation place answered (length calls) (slice_get_within calls place answered.entry answered.there) in
      subst (λ (s : State Q S). RowIn s operation answered.answers.row) ends at_last

  pub row_at_end : (operation place : ℕ) (row : OperationRow) (answered : AnsweredAt ran operation place) → RowIn end operation row → answered.answers.row ≡ row
  row_at_end operation place row answered found =
      let there = (answered_row_at_end operation place answered).there in
      let here = found.there in
      cc

  pub answered_at_end : (operation place : ℕ) (row : OperationRow) → AnsweredAt ran operation place → RowIn end operation row → row.state ≡ Answered
  answered_at_end operation place row answered found = subst (λ (r : OperationRow). r.state ≡ Answered) (row_at_end operation place row answered found) answered.answers.is_answered

  -- and what is answered there was answered by a call.
  pub answered_before_end : (operation : ℕ) (row : OperationRow) → end.desk.is_open ≡ true → RowIn end operation row → row.state ≡ Answered → (place : ℕ) × AnsweredAt ran operation place
  answered_before_end operation row is_open found answered =
      let at_end : RowIn (state_at ran.start calls (length calls)) operation row = subst (λ (s : State Q S). RowIn s operation row) (sym ends) found in
      was_answered ran operation (length calls) row (open_at_end is_open) at_end answered

-- Two points of a run, of which the second is its end.
module _ {C Q S : Type 0} {parts : Parts C Q S} {calls : List (Entry C Q S)} {end : State Q S} (link : Linked parts) (ran : FromClosed parts calls end) (opening : ℕ) (opens : OpensAt ran opening) where
  pub record EndPoints (early : ℕ) : Type 0 where
    pub first : System
    pub second : System
    pub first_stands : Stands parts (state_at ran.start calls early) first
    pub second_stands : Stands parts end second
    pub reached : Reached (setting link ran opening opens) first
    pub later : Later (setting link ran opening opens) first second

  pub end_points : (early : ℕ) → opening < early → early ≤ length calls → EndPoints early
  end_points early behind below =
      let two = points link ran opening opens early (length calls) behind below in
      record {
        first = two.first;
        second = two.second;
        first_stands = two.first_stands;
        second_stands = subst (λ (s : State Q S). Stands parts s two.second) (ends ran) two.second_stands;
        reached = two.reached;
        later = two.later;
      }

  pub law_at : (early : ℕ) (two : EndPoints early) → OrderLaw (setting link ran opening opens) two.first two.second
  law_at early two = order_holds (setting link ran opening opens) two.first two.second two.reached two.later

  pub line_at : (early : ℕ) (two : EndPoints early) → Line (setting link ran opening opens) two.first two.second
  line_at early two = linearizable (setting link ran opening opens) two.first two.second two.reached two.later

  -- the system behind the call that started an operation, and that at the end
  module _ (operation place : ℕ) (begun : BegunAt ran operation place) where
    inside : place < length calls
    inside = slice_get_within calls place begun.entry begun.there

    pub behind_start : EndPoints (suc place)
    behind_start =
        let behind = behind_the_opening ran opening place opens begun.is_open in
        let below = inside in
        end_points (suc place) (omega (arith, behind)) (omega (arith, below))

    begun_there : RowIn (state_at ran.start calls (suc place)) operation begun.starts.row
    begun_there =
        let before = state_at ran.start calls place in
        let after = state_at ran.start calls (suc place) in
        subst (λ o. RowIn after o begun.starts.row) begun.same (started_row parts before begun.entry.call begun.entry.answer after begun.starts)

    -- At the end the row is of the kind that it began with,
    pub begun_kind : (row : OperationRow) → RowIn end operation row → kind_said row.kind ≡ kind_said begun.starts.row.kind
    begun_kind row found =
        let two = behind_start in
        let state = state_at ran.start calls (suc place) in
        let stays = (law_at (suc place) two).requests_stay operation (counted parts state two.first two.first_stands operation begun.starts.row begun_there) in
        sym (same_kind parts end two.second two.second_stands operation row found) ∙ stays.1.kind ∙ same_kind parts state two.first two.first_stands operation begun.starts.row begun_there

    -- and that of a write has what it began with.
    pub begun_content : (row : OperationRow) → RowIn end operation row → begun.starts.row.kind ≡ Write → row.copy.content ≡ begun.starts.row.copy.content
    begun_content row found write =
        let two = behind_start in
        let state = state_at ran.start calls (suc place) in
        let stays = (law_at (suc place) two).requests_stay operation (counted parts state two.first two.first_stands operation begun.starts.row begun_there) in
        let is_write = same_kind parts state two.first two.first_stands operation begun.starts.row begun_there ∙ ap kind_said write in
        sym (same_content parts end two.second two.second_stands operation row found) ∙ ap (λ c. c.content) (stays.1.written is_write)
        ∙ same_content parts state two.first two.first_stands operation begun.starts.row begun_there
