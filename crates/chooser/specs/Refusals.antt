-- The numbers and the words of a chooser's refusals, as the contracts cite them.
use Rattle.std.specs.Prelude.{ℕ, List, ◌++◌, codes, decimal}
use Rattle.chooser.specs.declared.refusal.ChooserRefusal.{ChooserRefusal}
use Rattle.chooser.specs.declared.refusal.ChooserRefusal.TheVariants.{TooHigh, Full, NotAllowed}

-- the number of a reason
abbrev pub refusal_number : ChooserRefusal → ℕ
refusal_number TooHigh = 1
refusal_number Full = 2
refusal_number NotAllowed = 3

-- a reason in words
abbrev pub refusal_words : ChooserRefusal → List ℕ
refusal_words TooHigh = codes "number above 15"
refusal_words Full = codes "eight offers stand"
refusal_words NotAllowed = codes "step not allowed"

-- as it is printed: the number, a colon, the words
abbrev pub shown_refusal : ChooserRefusal → List ℕ
shown_refusal refusal = decimal (refusal_number refusal) ++ (codes ": " ++ refusal_words refusal)
