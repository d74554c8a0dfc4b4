-- The two rules.
use Rattle.std.specs.Prelude.{ℕ, ◌+◌, ◌*◌, ◌/◌, Bool, if◌then◌else◌, ◌&&◌, List, [], ◌∷◌, Ok, Err, Result, count_ones, nat_le, nat_lt, slice_index}
use Rattle.std.specs.List.{list_all}
use Rattle.refusal.specs.declared.Refusal.{Refusal}
use Rattle.refusal.specs.declared.Refusal.TheVariants.{Unlawful}
use Rattle.quorum.specs.declared.weighted.Weighted.{Weighted}
use Rattle.quorum.specs.Limits.{heaviest}
use Rattle.quorum.specs.Sets.{member, everyone, in_bounds}

-- Majority: twice the members of the set exceed the size. `count_ones set` is the number of places in the set.
abbrev pub more_than_half : ℕ → ℕ → Bool
more_than_half size set = in_bounds size set && nat_lt size (2 * count_ones set)

-- the weight of a set: the first weight counts if place 0 is in it, the others by the places moved down by one
abbrev pub weight : List ℕ → ℕ → ℕ
weight [] set = 0
weight (w ∷ ws) set = (if member 0 set then w else 0) + weight ws (set / 2)

-- Weighted: twice the set's weight exceeds the weight of all places below the size
abbrev pub outweighs_half : List ℕ → ℕ → ℕ → Bool
outweighs_half weights size set = in_bounds size set && nat_lt (weight weights (everyone size)) (2 * weight weights set)

-- no weight is above the heaviest
abbrev pub none_too_heavy : List ℕ → Bool
none_too_heavy ws = list_all (λ w. nat_le w heaviest) ws

-- which weights make a rule: the first at least 1, none above 100
abbrev pub weighted : List ℕ → Result (List ℕ) Refusal
weighted weights = if nat_le 1 (slice_index weights 0) && none_too_heavy weights then Ok weights else Err Unlawful

-- the weights of a rule
abbrev pub weights_of : Weighted → List ℕ
weights_of rule = rule.weights

-- a rule that was made or refused, by its weights
abbrev pub rule_weights : Result Weighted Refusal → Result (List ℕ) Refusal
rule_weights (Ok rule) = Ok (weights_of rule)
rule_weights (Err refusal) = Err refusal
