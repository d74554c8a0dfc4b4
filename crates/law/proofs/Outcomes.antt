-- What a call answers and what it leaves, as one; and calls that are refused.
use Rattle.std.proofs.Common.{◌≡◌, Result, Err, ap}
use Rattle.calls.specs.declared.call.Answer.{Answer}
use Rattle.fault.specs.declared.Fault.{Fault}
use Rattle.floor.specs.State.{State}

abbrev pub Outcome : Type 0 → Type 0 → Type 0
Outcome Q S = Result Answer Fault × State Q S

pub answer_of : {Q S : Type 0} {one other : Outcome Q S} → one ≡ other → one.0 ≡ other.0
answer_of same = ap (λ o. o.0) same

pub state_of : {Q S : Type 0} {one other : Outcome Q S} → one ≡ other → one.1 ≡ other.1
state_of same = ap (λ o. o.1) same

-- The call was refused, and changed nothing.
pub record Refused {Q S : Type 0} (before : State Q S) (answer : Result Answer Fault) (after : State Q S) : Type 0 where
  pub fault : Fault
  pub says : answer ≡ Err fault
  pub nothing : after ≡ before

pub refused_by : {Q S : Type 0} (before after : State Q S) (answer : Result Answer Fault) (fault : Fault) → ◌≡◌ {A = Outcome Q S} (answer, after) (Err fault, before)
    → Refused before answer after
refused_by before after answer fault is = record { fault = fault; says = answer_of is; nothing = state_of is }
