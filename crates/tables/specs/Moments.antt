-- Moments: how many starts and answers there have been, in 32 bits.
use Rattle.std.specs.Prelude.{ℕ, suc, ◌-◌, ◌^◌, min}

abbrev pub last_moment : ℕ
last_moment = 2 ^ 32 - 1

-- the moment that the next start or answer keeps
abbrev pub next_moment : ℕ → ℕ
next_moment moment = min (suc moment) last_moment
