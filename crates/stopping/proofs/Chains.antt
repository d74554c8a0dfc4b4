-- What holds of the fault that a chain of questions stops on: by asking one after the other.
use Rattle.std.proofs.Common.{◌≡◌, ℕ, ◌≤◌, Bool, true, false, Option, Some, None, Result, Ok, Err, refl, subst, if◌then◌else◌}
use Rattle.std.specs.Prelude.{IfErr, IsErrAnd, IsSomeAnd, ok_or, option_map, option_and_then}
use Rattle.std.specs.Result.{result_and}
use Rattle.fault.specs.declared.Fault.{Fault}
use Rattle.fault.specs.Faults.{number}
use Rattle.desk.specs.Asking.{and_then}

-- a ground of this number or a lower one
abbrev pub UpTo : ℕ → Fault → Type 0
UpTo n fault = number fault ≤ n

-- the chain stops on such a ground,
abbrev pub Stops : {A : Type 0} → ℕ → Result A Fault → Type 0
Stops n answer = IsErrAnd answer (UpTo n)

-- or only on such a ground, if it stops
abbrev pub StopsUpTo : {A : Type 0} → ℕ → Result A Fault → Type 0
StopsUpTo n answer = IfErr answer (UpTo n)

module _ (P : Fault → Type 0) where
  -- if it stops: what holds of the first fault and of the next holds of the chain's

  -- what is asked next is asked of what was found
  pub then_holds : {A B : Type 0} (first : Result A Fault) (next : A → Result B Fault) → IfErr first P → ((found : A) → first ≡ Ok found → IfErr (next found) P) → IfErr (and_then first next) P
  then_holds (Ok found) next holds further = further found refl
  then_holds (Err fault) next holds further = holds

  -- or of nothing
  pub and_holds : {A B : Type 0} (first : Result A Fault) (next : Result B Fault) → IfErr first P → IfErr next P → IfErr (result_and first next) P
  and_holds (Ok found) next holds further = further
  and_holds (Err fault) next holds further = holds

  -- a test that stops where it is met
  pub if_holds : {A : Type 0} (test : Bool) (next : Result A Fault) (fault : Fault) → (test ≡ true → P fault) → (test ≡ false → IfErr next P) → IfErr (if test then Err fault else next) P
  if_holds true next fault holds further = holds refl
  if_holds false next fault holds further = further refl

  -- and one that stops where it is not
  pub unless_holds : {A : Type 0} (test : Bool) (next : Result A Fault) (fault : Fault) → (test ≡ false → P fault) → (test ≡ true → IfErr next P) → IfErr (if test then next else Err fault) P
  unless_holds true next fault holds further = further refl
  unless_holds false next fault holds further = holds refl

  -- a thing that has to be there
  pub found_holds : {A : Type 0} (found : Option A) (fault : Fault) → (found ≡ None → P fault) → IfErr (ok_or found fault) P
  found_holds (Some value) fault holds = tt
  found_holds None fault holds = holds refl

  -- that it stops: on the first fault,

  pub first_stops : {A B : Type 0} (first : Result A Fault) (next : A → Result B Fault) → IsErrAnd first P → IsErrAnd (and_then first next) P
  first_stops (Ok found) next stops = absurd stops
  first_stops (Err fault) next stops = stops

  pub and_first_stops : {A B : Type 0} (first : Result A Fault) (next : Result B Fault) → IsErrAnd first P → IsErrAnd (result_and first next) P
  and_first_stops (Ok found) next stops = absurd stops
  and_first_stops (Err fault) next stops = stops

  pub if_stops : {A : Type 0} (test : Bool) (next : Result A Fault) (fault : Fault) → test ≡ true → P fault → IsErrAnd (if test then Err fault else next) P
  if_stops true next fault is holds = holds
  if_stops false next fault is holds = absurd (cc)

  pub unless_stops : {A : Type 0} (test : Bool) (next : Result A Fault) (fault : Fault) → test ≡ false → P fault → IsErrAnd (if test then next else Err fault) P
  unless_stops true next fault is holds = absurd (cc)
  unless_stops false next fault is holds = holds

  pub missing_stops : {A : Type 0} (found : Option A) (fault : Fault) → found ≡ None → P fault → IsErrAnd (ok_or found fault) P
  missing_stops (Some value) fault is holds = absurd (cc)
  missing_stops None fault is holds = holds

  -- or on the next, where the first is asked before

  pub next_stops : {A B : Type 0} (first : Result A Fault) (next : A → Result B Fault) → IfErr first P → ((found : A) → first ≡ Ok found → IsErrAnd (next found) P) → IsErrAnd (and_then first next) P
  next_stops (Ok found) next holds further = further found refl
  next_stops (Err fault) next holds further = holds

  pub and_next_stops : {A B : Type 0} (first : Result A Fault) (next : Result B Fault) → IfErr first P → IsErrAnd next P → IsErrAnd (result_and first next) P
  and_next_stops (Ok found) next holds further = further
  and_next_stops (Err fault) next holds further = holds

  pub if_next_stops : {A : Type 0} (test : Bool) (next : Result A Fault) (fault : Fault) → P fault → (test ≡ false → IsErrAnd next P) → IsErrAnd (if test then Err fault else next) P
  if_next_stops true next fault holds further = holds
  if_next_stops false next fault holds further = further refl

  pub unless_next_stops : {A : Type 0} (test : Bool) (next : Result A Fault) (fault : Fault) → P fault → (test ≡ true → IsErrAnd next P) → IsErrAnd (if test then next else Err fault) P
  unless_next_stops true next fault holds further = further refl
  unless_next_stops false next fault holds further = holds

-- what holds of a value that is there
pub of_found : {A : Type 0} (P : A → Type 0) (at : Option A) (found : A) → at ≡ Some found → IsSomeAnd at P → P found
of_found P (Some other) found is holds = let same : other ≡ found = cc in subst P same holds
of_found P None found is holds = absurd holds

pub at_found : {A : Type 0} (P : A → Type 0) (at : Option A) (found : A) → at ≡ Some found → P found → IsSomeAnd at P
at_found P (Some other) found is holds = let same : found ≡ other = cc in subst P same holds
at_found P None found is holds = absurd (cc)

-- the same of a value that is made of one that is there, or found by one

pub of_mapped : {A B : Type 0} (P : B → Type 0) (made : A → B) (at : Option A) (found : A) → at ≡ Some found → IsSomeAnd (option_map made at) P → P (made found)
of_mapped P made (Some other) found is holds = let same : other ≡ found = cc in subst (λ a. P (made a)) same holds
of_mapped P made None found is holds = absurd (cc)

pub at_mapped : {A B : Type 0} (P : B → Type 0) (made : A → B) (at : Option A) (found : A) → at ≡ Some found → P (made found) → IsSomeAnd (option_map made at) P
at_mapped P made (Some other) found is holds = let same : found ≡ other = cc in subst (λ a. P (made a)) same holds
at_mapped P made None found is holds = absurd (cc)

pub of_next : {A B : Type 0} (P : B → Type 0) (next : A → Option B) (at : Option A) (found : A) → at ≡ Some found → IsSomeAnd (option_and_then next at) P → IsSomeAnd (next found) P
of_next P next (Some other) found is holds = let same : other ≡ found = cc in subst (λ a. IsSomeAnd (next a) P) same holds
of_next P next None found is holds = absurd (cc)

pub at_next : {A B : Type 0} (P : B → Type 0) (next : A → Option B) (at : Option A) (found : A) → at ≡ Some found → IsSomeAnd (next found) P → IsSomeAnd (option_and_then next at) P
at_next P next (Some other) found is holds = let same : found ≡ other = cc in subst (λ a. IsSomeAnd (next a) P) same holds
at_next P next None found is holds = absurd (cc)
