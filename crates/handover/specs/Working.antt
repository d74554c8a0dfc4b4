-- The call work: what it answers, by what the chooser answers. It changes no table.
use Rattle.std.specs.Prelude.{◌≡◌, ℕ, Result, Ok, Err}
use Rattle.chooser.specs.Meaning.{Answer}
use Rattle.fault.specs.declared.Fault.{Fault}
use Rattle.fault.specs.declared.Fault.TheVariants.{Chooser}
use Rattle.desk.specs.declared.desk.Desk.{Desk}
use Rattle.desk.specs.Tables.{Tables}
use Rattle.desk.specs.Asking.{served}

-- the chooser's answer as the call's
abbrev pub passed_on : Answer → Result (Unit {0}) Fault
passed_on (Ok _) = Ok tt
passed_on (Err refusal) = Err (Chooser refusal)

-- The call, given what working does in the chooser: the chooser is asked where no ground stops the call before.
abbrev pub Working : {S : Type 0} → (S → ℕ → ℕ → ℕ → ℕ → Answer → S → Type 0) → S → ℕ → ℕ → ℕ → ℕ → Result (Unit {0}) Fault → Result (Unit {0}) Fault → S → Type 0
Working working chooser number step ballot set (Ok _) outcome after =
    (answer : Answer) × working chooser number step ballot set answer after × (outcome ≡ passed_on answer)
Working working chooser number step ballot set (Err fault) outcome after = (outcome ≡ Err fault) × (after ≡ chooser)

abbrev pub WorkStep : {S : Type 0} → (S → ℕ → ℕ → ℕ → ℕ → Answer → S → Type 0) → Desk → Tables → S → ℕ → ℕ → ℕ → ℕ → Result (Unit {0}) Fault → S → Type 0
WorkStep working desk t chooser number step ballot set outcome after = Working working chooser number step ballot set (served desk t) outcome after
