-- The limits of groups and weights.
use Rattle.std.specs.Prelude.{ℕ}

-- the most members of a group
abbrev pub largest_group : ℕ
largest_group = 7

-- the most that one place may weigh
abbrev pub heaviest : ℕ
heaviest = 100
