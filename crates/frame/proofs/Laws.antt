-- What a kind of content promises, as the theorems about frames take it.
use Rattle.std.proofs.Common.{◌≡◌, ℕ, ◌≤◌, List, length, Some, Option}
use Rattle.content.specs.Bytes.{AllBytes, widest}

pub record Laws {C : Type 0} (width : ℕ) (meaning : C → List ℕ) (reads : List ℕ → Option C) : Type 0 where
  pub bounded : width ≤ widest
  pub fills : (value : C) → length (meaning value) ≡ width
  pub reads_written : (value : C) → reads (meaning value) ≡ Some value
  pub writes_read : (bytes : List ℕ) (value : C) → AllBytes bytes → reads bytes ≡ Some value → meaning value ≡ bytes
