-- The limits of a chooser.
use Rattle.std.specs.Prelude.{ℕ}

-- how many numbers it decides, from 0 on
abbrev pub numbers : ℕ
numbers = 16

-- the most offers under one number
abbrev pub most_offers : ℕ
most_offers = 8

-- the highest offer
abbrev pub highest_offer : ℕ
highest_offer = 255
