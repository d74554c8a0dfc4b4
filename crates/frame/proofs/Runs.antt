-- Every field passes exactly if the judgement is the answer that was to be given, and no fault.
use Rattle.std.proofs.Common.{◌≡◌, ◌↔◌, true, List, [], ◌∷◌, Ok, arith}
use Rattle.std.specs.List.{AllByRecursion}
use Rattle.frame.specs.Fields.{Test, judged, judged_runs}

-- each field of a run passes, and of each run
abbrev pub Pass : List Test → Type 0
Pass tests = AllByRecursion (λ (test : Test). test.passes ≡ true) tests

abbrev pub PassAll : List (List Test) → Type 0
PassAll runs = AllByRecursion Pass runs

pub judged_exactly : {X : Type 0} (tests : List Test) (x y : X) → (judged tests x ≡ Ok y) ↔ (Pass tests × (x ≡ y))
judged_exactly [] x y = grind arith
judged_exactly (test ∷ tests) x y = grind (arith, judged_exactly tests x y)

pub runs_exactly : {X : Type 0} (runs : List (List Test)) (x y : X) → (judged_runs runs x ≡ Ok y) ↔ (PassAll runs × (x ≡ y))
runs_exactly [] x y = grind arith
runs_exactly (run ∷ runs) x y = grind (arith, judged_exactly {X = Unit {0}} run tt tt, runs_exactly runs x y)
