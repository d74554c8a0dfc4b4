-- What holds of the value in an answer, if there is one.
use Rattle.std.proofs.Common.{◌≡◌, Bool, true, false, Some, None, Option, if◌then◌else◌}
use Rattle.std.specs.Option.{IfSome, option_map, option_and_then}

-- what holds of two values holds of the one that a test takes
pub either_way : {A : Type 0} (P : A → Type 0) (test : Bool) {a b : A} → P a → P b → P (if test then a else b)
either_way P true holds_a holds_b = holds_a
either_way P false holds_a holds_b = holds_b

-- of a value that is answered where a condition is met
pub if_met : {A : Type 0} (P : A → Type 0) (met : Bool) {a : A} → P a → IfSome (if met then Some a else None) P
if_met P true holds = holds
if_met P false holds = tt

-- of an answer where a condition is met, and none else
pub answer_if_met : {A : Type 0} (P : A → Type 0) (met : Bool) (answer : Option A) → IfSome answer P → IfSome (if met then answer else None) P
answer_if_met P true answer holds = holds
answer_if_met P false answer holds = tt

-- of any answer, with the equation that it is there
pub when_some : {A : Type 0} (P : A → Type 0) (answer : Option A) → ((a : A) → answer ≡ Some a → P a) → IfSome answer P
when_some P (Some a) holds = holds a (λ i. Some a)
when_some P None holds = tt

-- of what is made of the value
pub map_holds : {A B : Type 0} (P : A → Type 0) (Q : B → Type 0) (f : A → B) (answer : Option A) → IfSome answer P → ((a : A) → P a → Q (f a)) → IfSome (option_map f answer) Q
map_holds P Q f (Some a) holds step = step a holds
map_holds P Q f None holds step = tt

-- of what is answered for the value
pub and_then_holds : {A B : Type 0} (P : A → Type 0) (Q : B → Type 0) (f : A → Option B) (answer : Option A) → IfSome answer P → ((a : A) → P a → IfSome (f a) Q)
    → IfSome (option_and_then f answer) Q
and_then_holds P Q f (Some a) holds step = step a holds
and_then_holds P Q f None holds step = tt
