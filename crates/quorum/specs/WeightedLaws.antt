-- The laws of the rule by weight.
use Rattle.std.specs.Prelude.{◌≡◌, ℕ, zero, suc, ◌≤◌, true, List, [], ◌∷◌, slice_index}
use Rattle.std.proofs.Common.{arith, pow_pos}
use Rattle.std.proofs.lemmas.Bool.Decides.{nat_tests}
use Rattle.quorum.specs.Limits.{largest_group}
use Rattle.quorum.specs.Sets.{everyone, Share}
use Rattle.quorum.specs.Rules.{weight, outweighs_half}
use Rattle.quorum.specs.Meeting.{halves_share, first_of_everyone}

pub outweighing_halves_meet : (ws : List ℕ) (size a b : ℕ) → outweighs_half ws size a ≡ true → outweighs_half ws size b ≡ true → Share size a b
outweighing_halves_meet ws size a b a_wins b_wins =
    halves_share ws size a b (grind (arith, nat_tests)) (grind (arith, nat_tests)) (grind (arith, nat_tests)) (grind (arith, nat_tests))

-- the first place weighs something, and everyone has it
some_weight : (ws : List ℕ) (size : ℕ) → 1 ≤ slice_index ws 0 → 1 ≤ size → 1 ≤ weight ws (everyone size)
some_weight [] size first least = absurd (omega arith)
some_weight (w ∷ ws) zero first least = absurd (omega arith)
some_weight (w ∷ ws) (suc n) first least = grind (arith, first_of_everyone n)

pub everyone_outweighs_half : (ws : List ℕ) (size : ℕ) → 1 ≤ slice_index ws 0 → 1 ≤ size → size ≤ largest_group → outweighs_half ws size (everyone size) ≡ true
everyone_outweighs_half ws size first least most = grind (arith, nat_tests, some_weight ws size first least, pow_pos size)
