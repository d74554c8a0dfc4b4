-- The numbers and the words of refusals, as the contracts cite them.
use Rattle.std.specs.Prelude.{ℕ, List, ◌++◌, codes, decimal}
use Rattle.refusal.specs.declared.Refusal.{Refusal}
use Rattle.refusal.specs.declared.Refusal.TheVariants.{NoSlot, Unlawful, TooFewSlots}

-- the number of a reason
abbrev pub number : Refusal → ℕ
number NoSlot = 3
number Unlawful = 13
number TooFewSlots = 19

-- a reason in words
abbrev pub words : Refusal → List ℕ
words NoSlot = codes "slot too high or empty"
words Unlawful = codes "outside its bounds"
words TooFewSlots = codes "too few empty slots"

-- as it is printed: the number, a colon, the words
abbrev pub shown_refusal : Refusal → List ℕ
shown_refusal refusal = decimal (number refusal) ++ (codes ": " ++ words refusal)
