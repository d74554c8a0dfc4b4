-- The majority, as two families of sets: more than half of the places answer an operation, and as many freeze a group. It is defined anew, as a set is a function here; nothing ties it to `Majority` of the crate `quorum`. That two such sets share a place is a lemma, which is checked.
use Rattle.std.proofs.Common.{◌≡◌, ℕ, zero, suc, ◌+◌, ◌*◌, ◌<◌, ◌≤◌, Bool, true, false, nat_lt, if◌then◌else◌, refl, ap, arith, List, ltb-true}
use Rattle.protocol.specs.State.{Places, Content, Setting}

abbrev pub one_if : Bool → ℕ
one_if joined = if joined then 1 else 0

-- how many of the places below the size are in the set
abbrev pub count : ℕ → Places → ℕ
count zero set = 0
count (suc size) set = one_if (set size) + count size set

abbrev pub more_than_half : ℕ → Places → Bool
more_than_half size set = nat_lt size (2 * count size set)

module _ (one other : Places) where
  abbrev Shared : ℕ → Type 0
  Shared size = (place : ℕ) × (place < size) × (one place ≡ true) × (other place ≡ true)

  -- Two sets that count more places than there are share one: the last place, or else one before it.
  overlap : (size : ℕ) → size < count size one + count size other → Shared size
  overlap zero more = absurd (omega arith)
  overlap (suc size) more = last (one size) refl (other size) refl (overlap size)
    where
      Before : Type 0
      Before = size < count size one + count size other → Shared size

      earlier : one_if (one size) + one_if (other size) ≤ 1 → Before → Shared (suc size)
      earlier not_both before = let (place, is_before, in_one, in_other) = before (omega arith) in (place, omega arith, in_one, in_other)

      last : (in_one : Bool) → one size ≡ in_one → (in_other : Bool) → other size ≡ in_other → Before → Shared (suc size)
      last true here true there before = (size, omega arith, here, there)
      last true here false there before = earlier (omega (arith, ap one_if here, ap one_if there)) before
      last false here true there before = earlier (omega (arith, ap one_if here, ap one_if there)) before
      last false here false there before = earlier (omega (arith, ap one_if here, ap one_if there)) before

  -- More than half and more than half are more than all.
  pub majorities_share : (size : ℕ) → more_than_half size one ≡ true → more_than_half size other ≡ true → Shared size
  majorities_share size first second = overlap size (omega (arith, ltb-true size (2 * count size one) first, ltb-true size (2 * count size other) second))

-- more than half answer and freeze; the first members and the first content
abbrev pub majority_of : List ℕ → Content → Setting
majority_of members content = record {
  answers = more_than_half;
  freezes = more_than_half;
  share = λ size answering freezing answers freezes. let (place, below, in_one, in_other) = majorities_share answering freezing size answers freezes in (place, in_one, in_other);
  members = members;
  content = content;
}
