-- What can be found in a table of which one entry was replaced.
use Rattle.std.proofs.Common.{◌≡◌, ℕ, zero, suc, ◌<◌, ◌≢◌, List, [], ◌∷◌, length, take, slice_get, slice_set, Some, refl, sym, ap, arith}
use Rattle.std.proofs.lemmas.Option.{none-some, same_Some}
use Rattle.tables.specs.declared.records.NodeRecord.{NodeRecord}
use Rattle.node.specs.Applying.{with_record}
use Rattle.desk.specs.Asking.{record_of}

module _ {A : Type 0} where
  pub found_here : (entries : List A) (index : ℕ) (value : A) → index < length entries → slice_get (slice_set entries index value) index ≡ Some value
  found_here [] index value inside = absurd (omega arith)
  found_here (entry ∷ entries) zero value inside = refl
  found_here (entry ∷ entries) (suc index) value inside = found_here entries index value (omega arith)

  pub found_elsewhere : (entries : List A) (index other : ℕ) (value : A) → other ≢ index → slice_get (slice_set entries index value) other ≡ slice_get entries other
  found_elsewhere [] index other value is_other = refl
  found_elsewhere (entry ∷ entries) zero zero value is_other = absurd (is_other refl)
  found_elsewhere (entry ∷ entries) zero (suc other) value is_other = refl
  found_elsewhere (entry ∷ entries) (suc index) zero value is_other = refl
  found_elsewhere (entry ∷ entries) (suc index) (suc other) value is_other = found_elsewhere entries index other value (λ same. is_other (ap suc same))

  -- what is found at the index is the new value
  pub is_new_value : (entries : List A) (index : ℕ) (value found : A) → slice_get (slice_set entries index value) index ≡ Some found → found ≡ value
  is_new_value [] index value found is = absurd (none-some found is)
  is_new_value (entry ∷ entries) zero value found is = sym (same_Some value found is)
  is_new_value (entry ∷ entries) (suc index) value found is = is_new_value entries index value found is

  -- What is found among the first entries is found among all.
  pub found_in_all : (entries : List A) (count index : ℕ) (found : A) → slice_get (take count entries) index ≡ Some found → (index < count) × (slice_get entries index ≡ Some found)
  found_in_all [] zero index found is = absurd (none-some found is)
  found_in_all [] (suc count) index found is = absurd (none-some found is)
  found_in_all (entry ∷ entries) zero index found is = absurd (none-some found is)
  found_in_all (entry ∷ entries) (suc count) zero found is = (omega arith, is)
  found_in_all (entry ∷ entries) (suc count) (suc index) found is = let (below, found_there) = found_in_all entries count index found is in (omega arith, found_there)

pub new_record : (nodes : List NodeRecord) (node : ℕ) (value found : NodeRecord) → record_of (with_record nodes node value) node ≡ Some found → found ≡ value
new_record nodes zero value found is = absurd (none-some found is)
new_record nodes (suc place) value found is = is_new_value nodes place value found is

pub other_record : (nodes : List NodeRecord) (node other : ℕ) (value : NodeRecord) → other ≢ node → record_of (with_record nodes node value) other ≡ record_of nodes other
other_record nodes zero zero value is_other = refl
other_record nodes zero (suc other) value is_other = refl
other_record nodes (suc place) zero value is_other = refl
other_record nodes (suc place) (suc other) value is_other = found_elsewhere nodes place other value (λ same. is_other (ap suc same))
