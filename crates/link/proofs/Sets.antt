-- Sets of places: functions in the protocol, bits in the tables.
use Rattle.std.proofs.Common.{◌≡◌, ℕ, zero, suc, ◌+◌, ◌*◌, ◌/◌, ◌^◌, ◌<◌, Bool, true, false, ◌||◌, ◌==◌, ◌≢◌, if◌then◌else◌, refl, sym, ap, ◌∙◌, inl, inr, arith}
use Rattle.std.proofs.lemmas.Bool.{cases_eq}
use Rattle.std.proofs.lemmas.Bool.Decides.{nat_tests}
use Rattle.std.proofs.lemmas.Nat.Bits.{bit_at-zero, bit_at-suc, bit_at-lt, bit_at_or, bit_at-pow_same, bit_at-pow_other}
use Rattle.std.specs.Int.Bits.{bit_or}
use Rattle.quorum.specs.Limits.{largest_group}
use Rattle.quorum.specs.Sets.{member}
use Rattle.protocol.specs.State.{Places, joined_by}

-- a set of places, of which those below n count, as bits
abbrev pub bits_below : ℕ → Places → ℕ
bits_below zero places = 0
bits_below (suc n) places = (if places 0 then 1 else 0) + 2 * bits_below n (λ place. places (suc place))

abbrev pub bits_of : Places → ℕ
bits_of places = bits_below largest_group places

-- the next place of a set is the place of half the set
member_half : (set place : ℕ) → member (suc place) set ≡ member place (set / 2)
member_half set place = grind (arith, bit_at-suc set place)

-- the places of a set, as bits again
bits_of_member : (n set : ℕ) → set < 2 ^ n → bits_below n (λ place. member place set) ≡ set
bits_of_member zero set below = grind arith
bits_of_member (suc n) set below =
    let halves : bits_below n (λ place. member (suc place) set) ≡ bits_below n (λ place. member place (set / 2)) = ap (bits_below n) (λ i place. member_half set place i) in
    let rest = bits_of_member n (set / 2) (omega arith) in
    grind (arith, nat_tests)

-- Bits are the set of the places that are in it.
pub bits_are : (set : ℕ) (places : Places) → set < 2 ^ largest_group → ((place : ℕ) → places place ≡ member place set) → bits_of places ≡ set
bits_are set places below same = ap bits_of (λ i place. same place i) ∙ bits_of_member largest_group set below

lowest_member : (low : Bool) (rest : ℕ) → member 0 ((if low then 1 else 0) + 2 * rest) ≡ low
lowest_member true rest = grind (arith, nat_tests)
lowest_member false rest = grind (arith, nat_tests)

without_lowest : (low : Bool) (rest : ℕ) → ((if low then 1 else 0) + 2 * rest) / 2 ≡ rest
without_lowest true rest = omega arith
without_lowest false rest = omega arith

member_of_bits_below : (n : ℕ) (places : Places) (place : ℕ) → place < n → member place (bits_below n places) ≡ places place
member_of_bits_below zero places place below = absurd (omega arith)
member_of_bits_below (suc n) places zero below = lowest_member (places 0) (bits_below n (λ place. places (suc place)))
member_of_bits_below (suc n) places (suc place) below =
    let rest = bits_below n (λ place. places (suc place)) in
    member_half (bits_below (suc n) places) place ∙ ap (member place) (without_lowest (places 0) rest) ∙ member_of_bits_below n (λ place. places (suc place)) place (omega arith)

-- A place below seven is in the bits if it is in the set.
pub member_of_bits : (places : Places) (place : ℕ) → place < largest_group → member place (bits_of places) ≡ places place
member_of_bits places place below = member_of_bits_below largest_group places place below

-- The empty set has no places, and a set that is not empty has one.
pub nobody_in_nothing : (place : ℕ) → member place 0 ≡ false
nobody_in_nothing place = grind (arith, nat_tests, bit_at-zero place)

pub somebody_in : (n set : ℕ) → set < 2 ^ n → set ≢ 0 → (place : ℕ) × (member place set ≡ true)
somebody_in zero set below some = absurd (some (omega arith))
somebody_in (suc n) set below some = by_lowest (member 0 set) refl (somebody_in n (set / 2) (omega arith))
  where
    by_lowest : (low : Bool) → member 0 set ≡ low → (set / 2 ≢ 0 → (place : ℕ) × (member place (set / 2) ≡ true)) → (place : ℕ) × (member place set ≡ true)
    by_lowest true is further = (0, is)
    by_lowest false is further = let (place, inside) = further (λ none. some (grind (arith, nat_tests))) in (suc place, member_half set place ∙ inside)

-- A place that is joined is in the set, and others are as they were.
pub member_joined : (set new place : ℕ) → member place (bit_or set (2 ^ new)) ≡ (member place set || place == new)
member_joined set new place = elim (cases_eq place new) [
  | inl same ↦ grind (arith, nat_tests, bit_at_or set (2 ^ new) place, bit_at-pow_same new, bit_at-lt set place)
  | inr other ↦ grind (arith, nat_tests, bit_at_or set (2 ^ new) place, bit_at-pow_other new place, bit_at-lt set place)
]

-- A set with a place joined, as bits and as a function.
pub joined_alike : (set new : ℕ) (places : Places) → ((place : ℕ) → places place ≡ member place set) → (place : ℕ) → joined_by places new place ≡ member place (bit_or set (2 ^ new))
joined_alike set new places same place = ap (λ inside. inside || place == new) (same place) ∙ sym (member_joined set new place)
