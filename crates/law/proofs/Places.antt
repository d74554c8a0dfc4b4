-- The states of a run by place: that before each call, and that at the end.
use Rattle.std.proofs.Common.{◌≡◌, ℕ, zero, suc, ◌≤◌, ◌⊎◌, ◌≢◌, inl, inr, List, [], ◌∷◌, length, Option, Some, None, refl, sym, ◌∙◌, subst, slice_get, arith}
use Rattle.std.proofs.lemmas.Bool.{cases_eq}
use Rattle.std.proofs.lemmas.Option.{slice_get_cases, gets}
use Rattle.floor.specs.State.{State}
use Rattle.law.specs.Runs.{Parts, Step, Entry, Run}

-- the state before the call at a place, and the last one from the end on
abbrev pub state_at : {C Q S : Type 0} → State Q S → List (Entry C Q S) → ℕ → State Q S
state_at start [] place = start
state_at start (entry ∷ entries) zero = start
state_at start (entry ∷ entries) (suc place) = state_at entry.after entries place

-- before any call stands what the run starts with
pub at_start : {C Q S : Type 0} (start : State Q S) (calls : List (Entry C Q S)) → state_at start calls 0 ≡ start
at_start start [] = refl
at_start start (entry ∷ entries) = refl

module _ {C Q S : Type 0} (parts : Parts C Q S) where
  -- the call at a place goes from the state there to the next
  pub record Goes (start : State Q S) (calls : List (Entry C Q S)) (place : ℕ) (entry : Entry C Q S) : Type 0 where
    pub from : entry.before ≡ state_at start calls place
    pub to : entry.after ≡ state_at start calls (suc place)
    pub step : Step parts (state_at start calls place) entry.call entry.answer (state_at start calls (suc place))

  pub goes_at : (start end : State Q S) (calls : List (Entry C Q S)) → Run parts start calls end → (place : ℕ) (entry : Entry C Q S) → slice_get calls place ≡ Some entry
      → Goes start calls place entry
  goes_at start end [] run place entry there = absurd (cc)
  goes_at start end (first ∷ entries) (from, step, rest) zero entry there =
      let same : first ≡ entry = cc in
      let to : first.after ≡ state_at first.after entries 0 = sym (at_start first.after entries) in
      let step_to = subst (λ s. Step parts first.before first.call first.answer s) to step in
      let step_from = subst (λ s. Step parts s first.call first.answer (state_at first.after entries 0)) from step_to in
      subst (Goes start (first ∷ entries) 0) same (record { from = from; to = to; step = step_from })
  goes_at start end (first ∷ entries) (from, step, rest) (suc place) entry there =
      let later = goes_at first.after end entries rest place entry there in
      record { from = later.from; to = later.to; step = later.step }

  pub at_end : (start end : State Q S) (calls : List (Entry C Q S)) → Run parts start calls end → (place : ℕ) → length calls ≤ place → state_at start calls place ≡ end
  at_end start end [] run place past = sym run
  at_end start end (first ∷ entries) (from, step, rest) zero past = absurd (omega arith)
  at_end start end (first ∷ entries) (from, step, rest) (suc place) past = at_end first.after end entries rest place (omega arith)

  -- At each place a call goes on, or the run has ended.
  abbrev pub GoesOrEnded : State Q S → List (Entry C Q S) → ℕ → Type 0
  GoesOrEnded start calls place =
      ((entry : Entry C Q S) × (slice_get calls place ≡ Some entry) × Goes start calls place entry) ⊎ (state_at start calls (suc place) ≡ state_at start calls place)

  pub goes_or_ended : (start end : State Q S) (calls : List (Entry C Q S)) → Run parts start calls end → (place : ℕ) → GoesOrEnded start calls place
  goes_or_ended start end calls run place = go (slice_get calls place) refl
    where
      go : (found : Option (Entry C Q S)) → slice_get calls place ≡ found → GoesOrEnded start calls place
      go (Some entry) there = inl (entry, there, goes_at start end calls run place entry there)
      go None none =
          let past : length calls ≤ place = grind (arith, gets, slice_get_cases calls place) in
          inr (at_end start end calls run (suc place) (omega arith) ∙ sym (at_end start end calls run place past))

-- what goes on from a place goes on to each later one
pub upwards : (P : ℕ → Type 0) (early : ℕ) → P early → ((place : ℕ) → early ≤ place → P place → P (suc place)) → (late : ℕ) → early ≤ late → P late
upwards P early holds next zero below = let same : early ≡ 0 = omega (arith, below) in subst P same holds
upwards P early holds next (suc late) below = elim (cases_eq early (suc late)) [
  | inl same ↦ subst P same holds
  | inr differ ↦ let sooner : early ≤ late = let distinct : early ≢ suc late = differ in omega (arith, below, distinct) in next late sooner (upwards P early holds next late sooner)
]
