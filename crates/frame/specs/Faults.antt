-- The causes of faults, their numbers and words, as the contracts cite them.
use Rattle.std.specs.Prelude.{ℕ, List, ◌++◌, codes, decimal}
use Rattle.frame.specs.declared.fault.Cause.{Cause}
use Rattle.frame.specs.declared.fault.Cause.TheVariants.{Kind, Field, Content, Rest}
use Rattle.frame.specs.declared.fault.FrameFault.{FrameFault}

-- the fault of this cause whose field begins at this byte
abbrev pub fault : Cause → ℕ → FrameFault
fault cause offset = record { cause = cause; offset = offset }

-- the number of a cause
abbrev pub number : Cause → ℕ
number Kind = 1
number Field = 2
number Content = 3
number Rest = 4

-- a cause as it is printed
abbrev pub shown_cause : Cause → List ℕ
shown_cause Kind = codes "kind"
shown_cause Field = codes "field"
shown_cause Content = codes "content"
shown_cause Rest = codes "rest"

-- a fault as it is printed: cause 2 (field), offset 8
abbrev pub shown_fault : FrameFault → List ℕ
shown_fault fault =
    codes "cause " ++ (decimal (number fault.cause) ++ (codes " (" ++ (shown_cause fault.cause ++ (codes "), offset " ++ decimal fault.offset))))
