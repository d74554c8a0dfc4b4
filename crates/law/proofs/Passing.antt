-- What holds where a chain of grounds stops nothing.
use Rattle.std.proofs.Common.{◌≡◌, Bool, true, false, if◌then◌else◌, Some, None, Option, Ok, Err, Result, refl}
use Rattle.std.specs.Prelude.{ok_or}
use Rattle.std.specs.Result.{result_and}
use Rattle.fault.specs.declared.Fault.{Fault}
use Rattle.desk.specs.Asking.{and_then}

pub and_then_passes : {A B : Type 0} (first : Result A Fault) (next : A → Result B Fault) (value : B) → and_then first next ≡ Ok value
    → (found : A) × (first ≡ Ok found) × (next found ≡ Ok value)
and_then_passes (Ok found) next value passes = (found, refl, passes)
and_then_passes (Err fault) next value passes = absurd (cc)

pub result_and_passes : {A B : Type 0} (first : Result A Fault) (rest : Result B Fault) (value : B) → result_and first rest ≡ Ok value → (found : A) × (first ≡ Ok found) × (rest ≡ Ok value)
result_and_passes (Ok found) rest value passes = (found, refl, passes)
result_and_passes (Err fault) rest value passes = absurd (cc)

-- a test that lets pass
pub test_passes : {A : Type 0} (test : Bool) (answer : Result A Fault) (fault : Fault) (value : A) → ◌≡◌ {A = Result A Fault} (if test then answer else Err fault) (Ok value)
    → (test ≡ true) × (answer ≡ Ok value)
test_passes true answer fault value passes = (refl, passes)
test_passes false answer fault value passes = absurd (cc)

-- a test that stops
pub test_stops_not : {A : Type 0} (test : Bool) (answer : Result A Fault) (fault : Fault) (value : A) → ◌≡◌ {A = Result A Fault} (if test then Err fault else answer) (Ok value)
    → (test ≡ false) × (answer ≡ Ok value)
test_stops_not true answer fault value passes = absurd (cc)
test_stops_not false answer fault value passes = (refl, passes)

pub found_passes : {A : Type 0} (found : Option A) (fault : Fault) (value : A) → ok_or found fault ≡ Ok value → found ≡ Some value
found_passes (Some value) fault other passes = cc
found_passes None fault value passes = absurd (cc)
