-- What holds of rows and records holds of them with one replaced by another of which it holds.
use Rattle.std.proofs.Common.{◌≢◌, ℕ, zero, suc, ◌<◌, ◌≤◌, List, [], ◌∷◌, slice_get, arith}
use Rattle.std.specs.Prelude.{slice_set}
use Rattle.std.specs.Option.{IfSome}
use Rattle.tables.specs.declared.records.NodeRecord.{NodeRecord}
use Rattle.node.specs.Applying.{with_record}
use Rattle.desk.specs.Asking.{record_of}

-- at each place, where it holds of the one that comes and, elsewhere, of the one that stands there
at_each_place : {X : Type 0} (P : X → Type 0) (xs : List X) (place i : ℕ) (x : X) → P x → (i ≢ place → IfSome (slice_get xs i) P) → IfSome (slice_get (slice_set xs place x) i) P
at_each_place P [] place i x holds other = tt
at_each_place P (y ∷ ys) zero zero x holds other = holds
at_each_place P (y ∷ ys) zero (suc i) x holds other = other (λ same. omega arith)
at_each_place P (y ∷ ys) (suc place) zero x holds other = other (λ same. omega arith)
at_each_place P (y ∷ ys) (suc place) (suc i) x holds other = at_each_place P ys place i x holds (λ differs. other (λ same. differs (omega arith)))

module _ {X : Type 0} (P : X → Type 0) (used : ℕ) (xs : List X) (all : (i : ℕ) → i < used → IfSome (slice_get xs i) P) (x : X) (holds : P x) where
  -- one row replaced
  pub row_replaced : (place i : ℕ) → i < used → IfSome (slice_get (slice_set xs place x) i) P
  row_replaced place i below = at_each_place P xs place i x holds (λ _. all i below)

  -- one row added behind those that are used
  pub row_added : (i : ℕ) → i < suc used → IfSome (slice_get (slice_set xs used x) i) P
  row_added i below = at_each_place P xs used i x holds (λ differs. all i (omega arith))

-- one record replaced
pub record_replaced : (P : NodeRecord → Type 0) (count : ℕ) (nodes : List NodeRecord) → ((node : ℕ) → node ≤ count → IfSome (record_of nodes node) P) → (changed : ℕ) (written : NodeRecord) → P written
    → (node : ℕ) → node ≤ count → IfSome (record_of (with_record nodes changed written) node) P
record_replaced P count nodes all zero written holds node within = all node within
record_replaced P count nodes all (suc place) written holds zero within = tt
record_replaced P count nodes all (suc place) written holds (suc i) within = at_each_place P nodes place i written holds (λ _. all (suc i) within)
