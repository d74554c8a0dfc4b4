-- The majority is the rule of equal weights.
use Rattle.std.specs.Prelude.{◌≡◌, ℕ, zero, suc, ◌/◌, ◌^◌, ◌<◌, ◌≤◌, true, replicate, count_ones}
use Rattle.std.proofs.Common.{◌∙◌, arith, pow_pos}
use Rattle.std.specs.Int.Count.{ones_step, ones-ones}
use Rattle.std.proofs.lemmas.Nat.{ones-le}
use Rattle.std.proofs.lemmas.Bool.Decides.{nat_tests}
use Rattle.quorum.specs.Limits.{largest_group}
use Rattle.quorum.specs.Sets.{everyone, Share}
use Rattle.quorum.specs.Rules.{more_than_half, weight}
use Rattle.quorum.specs.Meeting.{halves_share}

-- where each of n places weighs 1, a set weighs its members
weight_members : (n set : ℕ) → set < 2 ^ n → weight (replicate n 1) set ≡ count_ones set
weight_members zero set below = grind (arith, ones-le)
weight_members (suc n) set below = grind (arith, nat_tests, weight_members n (set / 2) (omega arith), ones_step set)

pub majorities_meet : (size a b : ℕ) → more_than_half size a ≡ true → more_than_half size b ≡ true → Share size a b
majorities_meet size a b a_wins b_wins =
    let a_below : a < 2 ^ size = grind (arith, nat_tests) in
    let b_below : b < 2 ^ size = grind (arith, nat_tests) in
    let a_weight = weight_members size a a_below in
    let b_weight = weight_members size b b_below in
    let total = weight_members size (everyone size) (omega arith) ∙ ones-ones size in
    halves_share (replicate size 1) size a b a_below b_below (grind (arith, nat_tests)) (grind (arith, nat_tests))

pub everyone_is_majority : (size : ℕ) → 1 ≤ size → size ≤ largest_group → more_than_half size (everyone size) ≡ true
everyone_is_majority size least most = grind (arith, nat_tests, ones-ones size, pow_pos size)
