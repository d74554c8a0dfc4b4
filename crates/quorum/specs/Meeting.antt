-- The quorum argument, once for all weights: two sets that share no place weigh together at most as much as all places.
use Rattle.std.specs.Prelude.{◌≡◌, ℕ, zero, suc, ◌+◌, ◌*◌, ◌/◌, ◌^◌, ◌<◌, ◌≤◌, Bool, true, false, ◌⊎◌, List, [], ◌∷◌, ◌≢◌, bit_and, if◌then◌else◌}
use Rattle.std.proofs.Common.{◌∙◌, inr, arith}
use Rattle.std.proofs.lemmas.Nat.Bits.{bit_at_and, bit_at-zero, bit_at-suc, bit_at_ones}
use Rattle.std.proofs.lemmas.Bool.Decides.{nat_tests}
use Rattle.quorum.specs.Sets.{member, everyone, Share}
use Rattle.quorum.specs.Rules.{weight}
use Rattle.quorum.specs.Weights.{weight_nobody}

-- the next place of a set is the place of half the set
member_half : (place set : ℕ) → member (suc place) set ≡ member place (set / 2)
member_half place set = grind (arith, bit_at-suc set place)

share_next : (n a b : ℕ) → Share n (a / 2) (b / 2) → Share (suc n) a b
share_next n a b (place, below, in_a, in_b) = (suc place, omega arith, member_half place a ∙ in_a, member_half place b ∙ in_b)

-- one place weighs w: where not both sets have it, they have it together at most once
once : (p q : Bool) (w : ℕ) → ((p ≡ true) × (q ≡ true)) ⊎ ((if p then w else 0) + (if q then w else 0) ≤ w)
once true q w = grind arith
once false q w = grind arith

pub first_of_everyone : (n : ℕ) → member 0 (everyone (suc n)) ≡ true
first_of_everyone n = grind (arith, nat_tests, bit_at_ones (suc n) 0)

share_or_fit : (ws : List ℕ) (n a b : ℕ) → a < 2 ^ n → b < 2 ^ n → Share n a b ⊎ (weight ws a + weight ws b ≤ weight ws (everyone n))
share_or_fit ws zero a b a_below b_below =
    inr (grind (arith, weight_nobody ws))
share_or_fit [] (suc n) a b a_below b_below = inr (omega arith)
share_or_fit (w ∷ ws) (suc n) a b a_below b_below =
    let first = first_of_everyone n in
    let rest = share_or_fit ws n (a / 2) (b / 2) (omega arith) (omega arith) in
    let here : member 0 a ≡ true → member 0 b ≡ true → Share (suc n) a b = λ in_a in_b. (0, omega arith, in_a, in_b) in
    let there = share_next n a b in
    grind arith

-- two sets that each have more than half of the weight share a place
pub halves_share : (ws : List ℕ) (size a b : ℕ) → a < 2 ^ size → b < 2 ^ size
    → weight ws (everyone size) < 2 * weight ws a → weight ws (everyone size) < 2 * weight ws b → Share size a b
halves_share ws size a b a_below b_below a_heavy b_heavy =
    let meet = share_or_fit ws size a b a_below b_below in
    grind arith

member_of_both : (place a b : ℕ) → member place a ≡ true → member place b ≡ true → bit_and a b ≢ 0
member_of_both place a b in_a in_b none = grind (arith, nat_tests, bit_at_and a b place, bit_at-zero place)

-- sets that share a place are not apart as bits
pub sharing_overlap : (size a b : ℕ) → Share size a b → bit_and a b ≢ 0
sharing_overlap size a b (place, _, in_a, in_b) = member_of_both place a b in_a in_b
