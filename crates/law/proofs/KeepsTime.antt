-- The counted operations stand in one order, which keeps real time.
use Rattle.std.proofs.Common.{◌≡◌, ℕ, ◌<◌, ◌⊎◌, ◌≢◌, inl, inr, true, List, length, sym, ◌∙◌, subst, arith}
use Rattle.std.proofs.lemmas.Option.{slice_get_within}
use Rattle.floor.specs.State.{State}
use Rattle.protocol.specs.Law as law
use Rattle.law.specs.Law.{Started, Answered, Counted, StartedBefore, Sooner, Ahead}
use Rattle.law.specs.Runs.{Parts, Entry}
use Rattle.law.proofs.AnswersStay.{was_started}
use Rattle.law.proofs.AtEnd.{answer_stays, EndPoints, end_points, line_at}
use Rattle.law.proofs.Begun.{BegunAt, AnsweredAt, started_is_begun, begun_once}
use Rattle.law.proofs.Effects.{took_effect}
use Rattle.law.proofs.Linked.{Linked}
use Rattle.law.proofs.Looks.{Seen, seen_by_look}
use Rattle.law.proofs.Opening.{FromClosed, OpensAt, was_opened, behind_the_opening}
use Rattle.law.proofs.Order.{started_row, ahead_said, ahead_of}
use Rattle.law.proofs.Places.{state_at}
use Rattle.law.proofs.ReadsGive.{counted_looks, opened_end}
use Rattle.law.proofs.RowsSaid.{said_answered}
use Rattle.law.proofs.Tags.{not_higher_than_itself, higher_goes_on}
use Rattle.law.proofs.Told.{answered_at}
use Rattle.tables.specs.declared.records.OperationRow.{OperationRow}
use Rattle.tables.specs.Copies.{is_higher}

module _ {C Q S : Type 0} {parts : Parts C Q S} {calls : List (Entry C Q S)} {end : State Q S} (link : Linked parts) (ran : FromClosed parts calls end) where
  abbrev IsCounted : ℕ → OperationRow → Type 0
  IsCounted operation row = Counted parts calls end operation row

  abbrev IsAhead : ℕ → OperationRow → ℕ → OperationRow → Type 0
  IsAhead one row other row' = Ahead parts calls end one row other row'

  seen : (operation : ℕ) (row : OperationRow) → IsCounted operation row → Seen end operation row
  seen operation row counted = seen_by_look end operation row (counted_looks parts calls end operation row counted)

  -- Each counted operation was started, by one call.
  pub is_started : (operation : ℕ) (row : OperationRow) → IsCounted operation row → (place : ℕ) × Started parts calls end operation place
  is_started operation row (inl answered) = let (place, started, _) = was_started link ran operation answered.at answered.answered in (place, started)
  is_started operation row (inr returned) =
      let looks = seen operation row (inr returned) in
      let (opening, opens, _) = opened_end link ran looks.is_open in
      started_row link ran opening opens looks.is_open operation row looks.row_in (λ regroup. let write = returned.write in absurd (cc))

  pub started_once : (operation i j : ℕ) → Started parts calls end operation i → Started parts calls end operation j → i ≡ j
  started_once operation i j started started' = begun_once ran operation i j (started_is_begun ran operation i started) (started_is_begun ran operation j started')

  -- It is an order:
  pub not_ahead_of_itself : (one : ℕ) (row : OperationRow) → IsAhead one row one row → ⊥
  not_ahead_of_itself one row (inl higher) = not_higher_than_itself row.copy.tag higher
  not_ahead_of_itself one row (inr (same, inl (write, read))) = absurd (cc)
  not_ahead_of_itself one row (inr (same, inr (read, read', before))) =
      let one_call = started_once one before.i before.j before.first before.second in
      let less = before.before in
      absurd (omega (arith, one_call, less))

  starts_go_on : (one other third : ℕ) → StartedBefore parts calls end one other → StartedBefore parts calls end other third → StartedBefore parts calls end one third
  starts_go_on one other third before before' =
      let one_call = started_once other before.j before'.i before.second before'.first in
      let less = before.before in
      let less' = before'.before in
      record { i = before.i; j = before'.j; first = before.first; second = before'.second; before = omega (arith, one_call, less, less') }

  sooner_goes_on : (one other third : ℕ) (row row' row'' : OperationRow) → Sooner parts calls end one row other row' → Sooner parts calls end other row' third row''
      → Sooner parts calls end one row third row''
  sooner_goes_on one other third row row' row'' (inl (write, read)) (inl (write', read')) = absurd (cc)
  sooner_goes_on one other third row row' row'' (inl (write, read)) (inr (read', read'', before)) = inl (write, read'')
  sooner_goes_on one other third row row' row'' (inr (read, read', before)) (inl (write, read'')) = absurd (cc)
  sooner_goes_on one other third row row' row'' (inr (read, read', before)) (inr (_, read'', before')) = inr (read, read'', starts_go_on one other third before before')

  pub goes_on : (one other third : ℕ) (row row' row'' : OperationRow) → IsAhead one row other row' → IsAhead other row' third row'' → IsAhead one row third row''
  goes_on one other third row row' row'' (inl higher) (inl higher') = inl (higher_goes_on row''.copy.tag row'.copy.tag row.copy.tag higher' higher)
  goes_on one other third row row' row'' (inl higher) (inr (same, sooner)) = inl (subst (λ tag. is_higher tag row.copy.tag ≡ true) same higher)
  goes_on one other third row row' row'' (inr (same, sooner)) (inl higher) = inl (subst (λ tag. is_higher row''.copy.tag tag ≡ true) (sym same) higher)
  goes_on one other third row row' row'' (inr (same, sooner)) (inr (same', sooner')) = inr (same ∙ same', sooner_goes_on one other third row row' row'' sooner sooner')

  -- of any two counted operations one is ahead,
  pub orders_any_two : (one other : ℕ) (row row' : OperationRow) → IsCounted one row → IsCounted other row' → one ≢ other → IsAhead one row other row' ⊎ IsAhead other row' one row
  orders_any_two one other row row' counted counted' differ =
      let looks = seen one row counted in
      let looks' = seen other row' counted' in
      let (opening, opens, two) = opened_end link ran looks.is_open in
      let line = line_at link ran opening opens (length calls) two in
      elim (line.orders_any_two one other (took_effect link ran opening opens (length calls) two one row counted) (took_effect link ran opening opens (length calls) two other row' counted') differ) [
        | inl ahead ↦ inl (ahead_of link ran opening opens looks.is_open (length calls) two one other row row' looks.row_in looks'.row_in ahead)
        | inr ahead ↦ inr (ahead_of link ran opening opens looks.is_open (length calls) two other one row' row looks'.row_in looks.row_in ahead)
      ]

  -- In the system before a call that starts an operation that one has no row yet, and what was answered by then is answered;
  in_time : (opening : ℕ) (opens : OpensAt ran opening) (one other i j : ℕ) → AnsweredAt ran one i → BegunAt ran other j → i < j → (two : EndPoints link ran opening opens j)
      → law.AnsweredBefore two.first one other
  in_time opening opens one other i j answered begun before two =
      let there = answer_stays ran one i answered j before in
      let counted = two.first_stands.represents.operations_counted in
      let same = begun.same in (
        said_answered parts (state_at ran.start calls j) two.first two.first_stands one answered.answers.row there answered.answers.is_answered,
        omega (arith, counted, same),
      )

  -- so no operation stands ahead of one that was answered before it started.
  pub keeps_time : (one other : ℕ) (row row' : OperationRow) (i j : ℕ) → IsCounted one row → IsCounted other row' → Answered parts calls end one i → Started parts calls end other j → i < j
      → IsAhead other row' one row → ⊥
  keeps_time one other row row' i j counted counted' answered started before ahead =
      let looks = seen one row counted in
      let looks' = seen other row' counted' in
      let begun = started_is_begun ran other j started in
      let (opening, opens) = was_opened ran j begun.is_open in
      let below = slice_get_within calls j begun.entry begun.there in
      let two = end_points link ran opening opens j (behind_the_opening ran opening j opens begun.is_open) (omega (arith, below)) in
      let line = line_at link ran opening opens j two in
      let first = line.keeps_real_time one other (in_time opening opens one other i j (answered_at ran one i answered) begun before two) (took_effect link ran opening opens j two other row' counted') in
      let second = ahead_said link ran opening opens looks.is_open j two other one row' row looks'.row_in looks.row_in ahead in
      line.not_ahead_of_itself one (line.goes_on one other one first second)
