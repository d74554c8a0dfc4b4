-- What holds of the value that is answered to what a call asks, where the call does not stop.
use Rattle.std.proofs.Common.{◌≡◌, Bool, true, false, Result, Ok, Err, refl, if◌then◌else◌}
use Rattle.std.specs.Result.{IfOk, result_and}
use Rattle.fault.specs.declared.Fault.{Fault}
use Rattle.desk.specs.Asking.{and_then}

-- a test is to be passed first
pub where_true : {A : Type 0} (P : A → Type 0) (test : Bool) (answer : Result A Fault) (fault : Fault) → (test ≡ true → IfOk answer P) → IfOk (if test then answer else Err fault) P
where_true P true answer fault holds = holds refl
where_true P false answer fault holds = tt

-- a test is to be failed first
pub where_false : {A : Type 0} (P : A → Type 0) (test : Bool) (answer : Result A Fault) (fault : Fault) → (test ≡ false → IfOk answer P) → IfOk (if test then Err fault else answer) P
where_false P true answer fault holds = tt
where_false P false answer fault holds = holds refl

-- something else is asked first
pub where_first : {A : Type 0} (P : A → Type 0) (first : Result (Unit {0}) Fault) (answer : Result A Fault) → (first ≡ Ok tt → IfOk answer P) → IfOk (result_and first answer) P
where_first P (Ok met) answer holds = holds refl
where_first P (Err fault) answer holds = tt

-- the value is made of one that is found first
pub where_found : {A B : Type 0} (P : A → Type 0) (Q : B → Type 0) (found : Result A Fault) (next : A → Result B Fault) → IfOk found P → ((a : A) → P a → IfOk (next a) Q)
    → IfOk (and_then found next) Q
where_found P Q (Ok a) next holds step = step a holds
where_found P Q (Err fault) next holds step = tt
