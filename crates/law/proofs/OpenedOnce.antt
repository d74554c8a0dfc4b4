-- A floor is opened once: the call that the law calls an opening was made on a closed floor, and left it open.
use Rattle.std.proofs.Common.{◌≡◌, ℕ, suc, ◌<◌, inl, inr, false, List, Result, ◌∙◌, subst, arith}
use Rattle.std.proofs.lemmas.Bool.{cases_Bool, cases_order, both_ways}
use Rattle.calls.specs.declared.call.Answer.{Answer}
use Rattle.calls.specs.declared.call.Call.TheVariants as made
use Rattle.desk.specs.Opening.{opened_nodes, opening_copy}
use Rattle.fault.specs.declared.Fault.{Fault}
use Rattle.floor.specs.State.{State}
use Rattle.law.specs.Law.{Opened}
use Rattle.law.specs.Runs.{Parts, Entry, Step}
use Rattle.law.proofs.ClosedSteps.{closed_step}
use Rattle.law.proofs.OpenSteps.{opening_refused}
use Rattle.law.proofs.Opening.{FromClosed, IsOpen, stays_open}
use Rattle.law.proofs.Outcomes.{Refused}
use Rattle.law.proofs.Places.{state_at, goes_at}
use Rattle.tables.specs.declared.members.Members.{Members}

module _ {C Q S : Type 0} {parts : Parts C Q S} {calls : List (Entry C Q S)} {end : State Q S} (ran : FromClosed parts calls end) where
  -- the floor before an opening and behind it
  pub record FloorOpened (place count : ℕ) (members : Members) (content : C) : Type 0 where
    pub was_closed : (state_at ran.start calls place).desk.is_open ≡ false
    pub is_open : IsOpen ran (suc place)
    pub counted : (state_at ran.start calls (suc place)).desk.node_count ≡ count
    pub nodes : (state_at ran.start calls (suc place)).t.nodes ≡ opened_nodes (state_at ran.start calls place).t.nodes count members (opening_copy (parts.meaning content))

  pub opened_floor : (place count : ℕ) (members : Members) (content : C) → Opened parts calls end place count members content → FloorOpened place count members content
  opened_floor place count members content opened = elim (cases_Bool before.desk.is_open) [
    | inl open_already ↦ absurd (taken_is_not_refused (opening_refused parts before after answer open_already count members content opening_step))
    | inr closed_before ↦ elim (closed_step parts before after answer closed_before (made.Open count members content) opening_step) [
      | inl opens ↦
          let same = opens.opens in
          let same_count : opens.count ≡ count = cc in
          let same_members : opens.members ≡ members = cc in
          let same_content : opens.content ≡ content = cc in
          record {
            was_closed = closed_before;
            is_open = opens.is_open;
            counted = opens.counted ∙ same_count;
            nodes = opens.nodes ∙ λ k. opened_nodes before.t.nodes (same_count k) (same_members k) (opening_copy (parts.meaning (same_content k)));
          }
      | inr refused ↦ absurd (taken_is_not_refused refused)
    ]
  ]
    where
      before : State Q S
      before = state_at ran.start calls place

      after : State Q S
      after = state_at ran.start calls (suc place)

      answer : Result Answer Fault
      answer = opened.entry.answer

      opening_step : Step parts before (made.Open count members content) answer after
      opening_step = subst (λ call. Step parts before call answer after) opened.opens (goes_at parts ran.start end calls ran.run place opened.entry opened.there).step

      taken_is_not_refused : Refused before answer after → ⊥
      taken_is_not_refused refused = let taken = opened.taken in let says = refused.says in absurd (cc)

  not_again : (i j : ℕ) → IsOpen ran (suc i) → (state_at ran.start calls j).desk.is_open ≡ false → i < j → ⊥
  not_again i j is_open was_closed before = both_ways _ was_closed (stays_open ran (suc i) j (omega (arith, before)) is_open).is_open

  pub opened_once : (i j count count' : ℕ) (members members' : Members) (content content' : C) → Opened parts calls end i count members content → Opened parts calls end j count' members' content' → i ≡ j
  opened_once i j count count' members members' content content' first second =
      let floor = opened_floor i count members content first in
      let floor' = opened_floor j count' members' content' second in
      elim (cases_order i j) [
        | inl same ↦ same
        | inr (inl before) ↦ absurd (not_again i j floor.is_open floor'.was_closed before)
        | inr (inr behind) ↦ absurd (not_again j i floor'.is_open floor.was_closed behind)
      ]
