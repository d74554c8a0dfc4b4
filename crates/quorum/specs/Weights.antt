-- The weight of a set, place by place.
use Rattle.std.specs.Prelude.{◌≡◌, ℕ, suc, ◌+◌, ◌*◌, ◌/◌, ◌^◌, ◌<◌, ◌≤◌, true, ◌&&◌, List, [], ◌∷◌, length, drop, nat_le, slice_index, refl, sum_by, if◌then◌else◌}
use Rattle.std.specs.List.{enumerate_from}
use Rattle.std.proofs.Common.{ap, ◌∙◌, arith}
use Rattle.std.proofs.lemmas.List.{get_or_past, at_drop_more}
use Rattle.std.proofs.lemmas.List.Sums.{AllPass-from_list_all, sum_by-cons}
use Rattle.std.proofs.lemmas.Nat.{shr-shr}
use Rattle.std.proofs.lemmas.Bool.Decides.{nat_tests}
use Rattle.quorum.specs.Limits.{heaviest}
use Rattle.quorum.specs.Sets.{member}
use Rattle.quorum.specs.Rules.{weight, none_too_heavy}

-- the weights whose places are in the set, summed
abbrev pub weight_of_members : List ℕ → ℕ → ℕ
weight_of_members ws set = sum_by (λ p. if member p.0 set then p.1 else 0) (enumerate_from 0 ws)

-- place n is the first: its weight counts if bit n of the set is 1
from_place : (n : ℕ) (ws : List ℕ) (set : ℕ) → sum_by (λ p. if member p.0 set then p.1 else 0) (enumerate_from n ws) ≡ weight ws (set / 2 ^ n)
from_place n [] set = refl
from_place n (w ∷ ws) set =
    let rest = from_place (n + 1) ws set in
    let half = shr-shr set n 1 in
    let one_more = sum_by-cons (λ (p : ℕ × ℕ). if member p.0 set then p.1 else 0) (n, w) (enumerate_from (n + 1) ws) in
    grind (arith, nat_tests)

-- what the weights from place i on add, one place taken off
pub weight_more : (ws : List ℕ) (i rest : ℕ) → i < length ws → weight (drop i ws) rest ≡ (if member 0 rest then slice_index ws i else 0) + weight (drop (i + 1) ws) (rest / 2)
weight_more ws i rest h = at_drop_more (λ (l : List ℕ). weight l rest) ws i 0 h

pub weight_of_members_is : (ws : List ℕ) (set : ℕ) → weight_of_members ws set ≡ weight ws set
weight_of_members_is ws set = from_place 0 ws set ∙ ap (weight ws) (omega arith)

pub weight_nobody : (ws : List ℕ) → weight ws 0 ≡ 0
weight_nobody [] = refl
weight_nobody (w ∷ ws) = omega (arith, weight_nobody ws)

-- where no place weighs more than the heaviest, a set weighs at most that for each place
pub weight_most : (ws : List ℕ) (set : ℕ) → ((place : ℕ) → slice_index ws place ≤ heaviest) → weight ws set ≤ heaviest * length ws
weight_most [] set light = omega arith
weight_most (w ∷ ws) set light =
    let first = light 0 in
    let rest = weight_most ws (set / 2) (λ place. light (suc place)) in
    grind (arith, nat_tests)

pub light_more : (ws : List ℕ) (i : ℕ) → i < length ws → none_too_heavy (drop i ws) ≡ (nat_le (slice_index ws i) heaviest && none_too_heavy (drop (i + 1) ws))
light_more ws i h = at_drop_more none_too_heavy ws i 0 h

pub light_at : (ws : List ℕ) → none_too_heavy ws ≡ true → (place : ℕ) → slice_index ws place ≤ heaviest
light_at ws h place =
    let inside = AllPass-from_list_all (λ w. nat_le w heaviest) ws h place 0 in
    grind (arith, nat_tests, get_or_past)
