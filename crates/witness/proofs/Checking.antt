-- Claims on a system that is written out, checked by computing.
use Rattle.std.proofs.Common.{◌≡◌, ℕ, ◌<◌, ◌≤◌, Bool, true, false, not, ◌&&◌, ◌≢◌, nat_lt, nat_le, ◌==◌, refl, ap, Option, Some, None, eqb-true, ltb-true, leb-true}
use Rattle.std.proofs.lemmas.Bool.{and_parts}
use Rattle.protocol.specs.State.{Places, Status, Idle, Active, Frozen, Kind, Read, Write, Regroup, Stage, Open}

-- A check that passes shows its claim. It is made at any number, and has to pass at all of them, so that a claim on all places can be checked too.
pub record Check (claim : Type 0) : Type 0 where
  pub passes : ℕ → Bool
  pub shows : ((any : ℕ) → passes any ≡ true) → claim

abbrev pub checked_by : {claim : Type 0} (answer : Bool) → (answer ≡ true → claim) → Check claim
checked_by answer shows = record { passes = λ any. answer; shows = λ passed. shows (passed 0) }

abbrev pub says : {claim : Type 0} → claim → Check claim
says claim = checked_by true (λ passed. claim)

pub both_pass : (one other : ℕ → Bool) → ((any : ℕ) → (one any && other any) ≡ true) → ((any : ℕ) → one any ≡ true) × ((any : ℕ) → other any ≡ true)
both_pass one other passed = (λ any. (and_parts (one any) (other any) (passed any)).0, λ any. (and_parts (one any) (other any) (passed any)).1)

-- a claim that holds if another one does, which is checked as well
infixl 30 ◌given◌
abbrev pub ◌given◌ : {other claim : Type 0} → Check (other → claim) → Check other → Check claim
check given condition = record {
  passes = λ any. check.passes any && condition.passes any;
  shows = λ passed. let (first, second) = both_pass check.passes condition.passes passed in check.shows first (condition.shows second);
}

-- A check that never passes may claim anything.
pub never : {claim : Type 0} → false ≡ true → claim
never passed = cc

abbrev pub fails : {claim : Type 0} → Check claim
fails = checked_by false never

-- Truth values and numbers

abbrev pub is_true : (answer : Bool) → Check (answer ≡ true)
is_true answer = checked_by answer (λ passed. passed)

pub false_if_not : (answer : Bool) → not answer ≡ true → answer ≡ false
false_if_not true passed = cc
false_if_not false passed = refl

abbrev pub is_false : (answer : Bool) → Check (answer ≡ false)
is_false answer = checked_by (not answer) (false_if_not answer)

abbrev pub has_no_place : (set : Places) → Check ((place : ℕ) → set place ≡ false)
has_no_place set = record { passes = λ any. not (set any); shows = λ passed place. false_if_not (set place) (passed place) }

abbrev pub equal : (one other : ℕ) → Check (one ≡ other)
equal one other = checked_by (one == other) (eqb-true one other)

abbrev pub below : (one other : ℕ) → Check (one < other)
below one other = checked_by (nat_lt one other) (ltb-true one other)

abbrev pub at_most : (one other : ℕ) → Check (one ≤ other)
at_most one other = checked_by (nat_le one other) (leb-true one other)

-- What a node, an operation or a decision is

abbrev pub is_active : (status : Status) → Check (status ≡ Active)
is_active Active = says refl
is_active other = fails

pub active_is_not_idle : Active ≢ Idle
active_is_not_idle same = cc

pub frozen_is_not_idle : Frozen ≢ Idle
frozen_is_not_idle same = cc

abbrev pub is_not_idle : (status : Status) → Check (status ≢ Idle)
is_not_idle Idle = fails
is_not_idle Active = says active_is_not_idle
is_not_idle Frozen = says frozen_is_not_idle

abbrev pub same_kind : (one other : Kind) → Check (one ≡ other)
same_kind Read Read = says refl
same_kind Write Write = says refl
same_kind Regroup Regroup = says refl
same_kind one other = fails

abbrev pub is_open : (stage : Stage) → Check (stage ≡ Open)
is_open Open = says refl
is_open other = fails

abbrev pub is_none : (decision : Option ℕ) → Check (decision ≡ None)
is_none None = says refl
is_none (Some proposal) = fails

abbrev pub is_some : (decision : Option ℕ) (proposal : ℕ) → Check (decision ≡ Some proposal)
is_some None proposal = fails
is_some (Some decided) proposal = says (ap Some) given equal decided proposal
