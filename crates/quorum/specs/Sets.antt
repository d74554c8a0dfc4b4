-- Sets of places. A set is a number: place i is in it if bit i is 1.
use Rattle.std.specs.Prelude.{◌≡◌, ℕ, ◌-◌, ◌/◌, ◌%◌, ◌^◌, ◌<◌, Bool, true, ◌&&◌, ◌==◌, nat_le, nat_lt}
use Rattle.quorum.specs.Limits.{largest_group}

-- the place is in the set
abbrev pub member : ℕ → ℕ → Bool
member place set = (set / 2 ^ place % 2) == 1

-- the set of all places below a size
abbrev pub everyone : ℕ → ℕ
everyone size = 2 ^ size - 1

-- a group may have this size: 1 to 7
abbrev pub is_size : ℕ → Bool
is_size size = nat_le 1 size && nat_le size largest_group

-- the set has only places below a size that a group may have
abbrev pub in_bounds : ℕ → ℕ → Bool
in_bounds size set = is_size size && nat_lt set (2 ^ size)

-- some place below the size is in both sets
abbrev pub Share : ℕ → ℕ → ℕ → Type 0
Share size one other = (place : ℕ) × (place < size) × (member place one ≡ true) × (member place other ≡ true)
