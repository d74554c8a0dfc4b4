-- What holds of every number of a range from 0.
use Rattle.std.proofs.Common.{◌≡◌, ℕ, zero, suc, ◌+◌, ◌<◌, ◌≤◌, true, Bool, ◌&&◌, take, take_all, get_or, arith, ◌∙◌, ap, List, length, inl, inr, refl, sym}
use Rattle.std.specs.List.{range_with_len, list_all}
use Rattle.std.specs.Cmp.Derive.{both_true}
use Rattle.std.proofs.lemmas.List.Folds.{list_all_more, list_all_at}
use Rattle.std.proofs.lemmas.List.FromFn.{get_or-range_with_len, length-range_with_len}
use Rattle.std.proofs.lemmas.Bool.{cases_Bool}

module _ (p : ℕ → Bool) (n : ℕ) where
  -- the numbers from 0 on
  abbrev range : List ℕ
  range = range_with_len 0 n

  -- the number at a place of a range from 0 is that of the place
  at_place : (i : ℕ) → i < n → get_or range i 0 ≡ i
  at_place i inside = get_or-range_with_len 0 n i 0 inside ∙ omega arith

  -- each place is within the range
  within : (i : ℕ) → i < n → i < length range
  within i inside = omega (arith, length-range_with_len 0 n)

  -- All before the next hold, if all before this one do and it does.
  pub all_before_next : (i : ℕ) → i < n → list_all p (take (i + 1) range) ≡ (list_all p (take i range) && p i)
  all_before_next i inside = list_all_more p range i 0 (within i inside) ∙ ap (λ (k : ℕ). list_all p (take i range) && p k) (at_place i inside)

  -- If all hold, each does.
  pub each_of_all : (i : ℕ) → list_all p range ≡ true → i < n → p i ≡ true
  each_of_all i all inside = elim (cases_Bool (p i)) [
    | inl holds ↦ holds
    | inr fails ↦ absurd (cc (list_all_at p range i 0 (within i inside) (ap p (at_place i inside) ∙ fails)))
  ]

  -- If each before a place holds, all of them do,
  all_before : ((i : ℕ) → i < n → p i ≡ true) → (i : ℕ) → i ≤ n → list_all p (take i range) ≡ true
  all_before each zero inside = refl
  all_before each (suc i) inside =
      let next : suc i ≡ i + 1 = omega arith in
      rw next (all_before_next i inside ∙ both_true (all_before each i (omega arith)) (each i inside))

  -- and so if each does.
  pub all_of_each : ((i : ℕ) → i < n → p i ≡ true) → list_all p range ≡ true
  all_of_each each =
      sym (ap (list_all p) (take_all n range (omega (arith, length-range_with_len 0 n)))) ∙ all_before each n (omega arith)
