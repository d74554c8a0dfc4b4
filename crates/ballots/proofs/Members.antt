-- What the tests and the highest over the acceptors of a set tell of each of them.
use Rattle.std.specs.Prelude.{◌≡◌, ℕ, zero, suc, ◌+◌, ◌<◌, ◌≤◌, max, ◌==◌, Bool, true, List, [], ◌∷◌, length, get_or, filter}
use Rattle.std.specs.List.{enumerate_from, list_all, fold}
use Rattle.std.proofs.Common.{zero-add, arith}
use Rattle.std.proofs.lemmas.Bool.{eqb-true}
use Rattle.quorum.specs.Sets.{member}
use Rattle.ballots.specs.declared.instance.Instance.{Instance}
use Rattle.ballots.specs.Limits.{acceptors}
use Rattle.ballots.specs.Board.{Each}
use Rattle.ballots.specs.Instance.{fresh, acceptor_at, all_promised, all_accepted, highest_accepted}

-- Those of some items that are inside, each with its place, the first at a given place.
module _ {X : Type 0} (default : X) (inside : ℕ → Bool) where
  abbrev inside_of : ℕ → List X → List (ℕ × X)
  inside_of first items = filter (λ p. inside p.0) (enumerate_from first items)

  -- What passes for all that are inside passes for the first, if it is inside, and for the rest.
  each_passes : (test : X → Bool) (items : List X) (first place : ℕ) → list_all (λ p. test p.1) (inside_of first items) ≡ true
      → place < length items → inside (first + place) ≡ true → test (get_or items place default) ≡ true
  each_passes test [] first place pass below in_set = absurd (omega arith)
  each_passes test (item ∷ items) first zero pass below in_set = grind arith
  each_passes test (item ∷ items) first (suc place) pass below in_set = grind (arith, each_passes test items (first + 1) place)

  module _ (number : X → ℕ) where
    -- The highest number of these, or where it began if that is higher.
    abbrev highest : ℕ → ℕ → List X → ℕ
    highest best first items = fold (λ best p. max (number p.1) best) best (inside_of first items)

    -- The highest so far only grows.
    highest_grows : (items : List X) (best first : ℕ) → best ≤ highest best first items
    highest_grows [] best first = omega arith
    highest_grows (item ∷ items) best first = grind (arith, highest_grows items (max (number item) best) (first + 1), highest_grows items best (first + 1))

    -- Once an item that is inside is passed, the highest so far is not below its number.
    each_is_below : (items : List X) (best first place : ℕ) → place < length items → inside (first + place) ≡ true
        → number (get_or items place default) ≤ highest best first items
    each_is_below [] best first place below in_set = absurd (omega arith)
    each_is_below (item ∷ items) best first zero below in_set = grind (arith, highest_grows items (max (number item) best) (first + 1))
    each_is_below (item ∷ items) best first (suc place) below in_set =
        grind (arith, each_is_below items best (first + 1) place, each_is_below items (max (number item) best) (first + 1) place)

    -- A test that the start and each item's number pass, the highest passes: it is one of these.
    highest_passes : (test : ℕ → Bool) (items : List X) (best first : ℕ) → test best ≡ true
        → ((place : ℕ) → test (number (get_or items place default)) ≡ true) → test (highest best first items) ≡ true
    highest_passes test [] best first start each = start
    highest_passes test (item ∷ items) best first start each =
        let rest = λ (better : ℕ) (passes : test better ≡ true). highest_passes test items better (first + 1) passes (λ place. each (suc place)) in
        grind (arith, each 0)

-- The same of the five acceptors of an instance and a set.
module _ (x : Instance) (five : length x.acceptors ≡ acceptors) (set : ℕ) where
  -- The test of all passes for each.
  pub promised_by_each : (ballot : ℕ) → all_promised x ballot set ≡ true → Each set (λ a. (acceptor_at x a).promised ≡ ballot)
  promised_by_each ballot all a below in_set = eqb-true _ _
      (each_passes fresh (λ place. member place set) (λ a. a.promised == ballot) x.acceptors 0 a all (omega arith) (rw zero-add in_set))

  -- The test of all passes for each.
  pub accepted_by_each : (ballot : ℕ) → all_accepted x ballot set ≡ true → Each set (λ a. (acceptor_at x a).accepted ≡ ballot)
  accepted_by_each ballot all a below in_set = eqb-true _ _
      (each_passes fresh (λ place. member place set) (λ a. a.accepted == ballot) x.acceptors 0 a all (omega arith) (rw zero-add in_set))

  -- No acceptor of the set accepted a higher one.
  pub accepted_below_highest : Each set (λ a. (acceptor_at x a).accepted ≤ highest_accepted x set)
  accepted_below_highest a below in_set = each_is_below fresh (λ place. member place set) (λ a. a.accepted) x.acceptors 0 0 a (omega arith) (rw zero-add in_set)

  -- The highest is 0 or what an acceptor accepted, so it passes a test that these pass.
  pub highest_accepted_passes : (test : ℕ → Bool) → test 0 ≡ true → ((a : ℕ) → test (acceptor_at x a).accepted ≡ true) → test (highest_accepted x set) ≡ true
  highest_accepted_passes test = highest_passes fresh (λ place. member place set) (λ a. a.accepted) test x.acceptors 0 0
