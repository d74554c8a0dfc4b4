-- The limits of ballots.
use Rattle.std.specs.Prelude.{ℕ, ◌%◌}
use Rattle.chooser.specs.Limits.{most_offers}

-- how many acceptors each number has
abbrev pub acceptors : ℕ
acceptors = 5

-- the highest ballot; the lowest is 1
abbrev pub last_ballot : ℕ
last_ballot = 15

-- the place of the offer that a ballot belongs to, counted from 0
abbrev pub owner : ℕ → ℕ
owner ballot = ballot % most_offers
