-- On an open floor the tables stay served, so each operation that was started can be looked at.
use Rattle.std.proofs.Common.{◌≡◌, ℕ, suc, ◌<◌, inl, inr, List, length, Ok, ap, ◌∙◌, subst, arith}
use Rattle.std.proofs.lemmas.Option.{slice_get_within}
use Rattle.desk.specs.Asking.{served}
use Rattle.floor.specs.State.{State}
use Rattle.law.specs.Law.{ShownAtEnd, Started}
use Rattle.law.specs.Runs.{Parts, Entry}
use Rattle.law.proofs.AtEnd.{ends, end_points}
use Rattle.law.proofs.Begun.{started_is_begun, open_behind_start}
use Rattle.law.proofs.Linked.{Linked}
use Rattle.law.proofs.Looks.{look_answers}
use Rattle.law.proofs.Opening.{FromClosed, OpensAt, was_opened, behind_the_opening, stays_open}
use Rattle.law.proofs.Places.{state_at, GoesOrEnded, goes_or_ended, upwards}
use Rattle.law.proofs.RowsSaid.{row_of}
use Rattle.law.proofs.Sizes.{sized, served_alike}
use Rattle.law.proofs.Systems.{is_open_after, points}
use Rattle.tables.specs.declared.records.OperationRow.{OperationRow}

module _ {C Q S : Type 0} {parts : Parts C Q S} {calls : List (Entry C Q S)} {end : State Q S} (link : Linked parts) (ran : FromClosed parts calls end) where
  abbrev Served : ℕ → Type 0
  Served place = served (state_at ran.start calls place).desk (state_at ran.start calls place).t ≡ Ok tt

  module _ (opening : ℕ) (opens : OpensAt ran opening) where
    served_next : (place : ℕ) → opening < place → Served place → GoesOrEnded parts ran.start calls place → Served (suc place)
    served_next place behind serves (inl (entry, there, goes)) =
        let before = state_at ran.start calls place in
        let after = state_at ran.start calls (suc place) in
        let lawful = (points link ran opening opens place place behind (omega arith)).first_stands.lawful in
        let same = sized parts link.narrow before after entry.answer entry.call (is_open_after link ran opening opens place behind) lawful goes.step in
        served_alike before.desk before.t after.desk after.t same serves
    served_next place behind serves (inr ended) = ap (λ (s : State Q S). served s.desk s.t) ended ∙ serves

    -- Behind the opening the tables are served at each place.
    pub served_behind : (place : ℕ) → opening < place → Served place
    served_behind place behind =
        upwards Served (suc opening) opens.opens.serves
        (λ between from serves. served_next between (omega (arith, from)) serves (goes_or_ended parts ran.start end calls ran.run between)) place (omega (arith, behind))

  pub can_look : (operation i : ℕ) → Started parts calls end operation i → (row : OperationRow) × ShownAtEnd parts calls end operation row
  can_look operation i started =
      let begun = started_is_begun ran operation i started in
      let (opening, opens) = was_opened ran i begun.is_open in
      let behind = behind_the_opening ran opening i opens begun.is_open in
      let inside = slice_get_within calls i begun.entry begun.there in
      let (open_then, counted) = open_behind_start ran operation i begun in
      let rises = (stays_open ran (suc i) (length calls) (omega (arith, inside)) open_then).count_rises in
      let two = end_points link ran opening opens (suc i) (omega (arith, behind)) (omega (arith, inside)) in
      let same_count = two.second_stands.represents.operations_counted in
      let at_end = ap (λ (s : State Q S). s.desk.operations_used) (ends ran) in
      let (row, found) = row_of parts end two.second two.second_stands operation (omega (arith, counted, rises, same_count, at_end)) in
      let serves = subst (λ (s : State Q S). served s.desk s.t ≡ Ok tt) (ends ran) (served_behind opening opens (length calls) (omega (arith, behind, inside))) in
      (row, look_answers end operation row serves found)
