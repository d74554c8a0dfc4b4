-- What a look answers into a place tells what it asked for.
use Rattle.std.proofs.Common.{◌≡◌, Ok, Err, Result, ap, arith}
use Rattle.fault.specs.declared.Fault.{Fault}
use Rattle.tables.specs.declared.records.OperationRow.{OperationRow}
use Rattle.calls.specs.declared.call.Answer.TheVariants.{Row}
use Rattle.law.specs.Runs.{row_told}
use Rattle.desk.specs.Ending.{looked}

-- what a look answers, and what it leaves in the place
abbrev Seen : Type 0
Seen = Result (Unit {0}) Fault × OperationRow

-- a refused look tells the fault that it was refused for
pub refused_look : (place row : OperationRow) (asked : Result OperationRow Fault) (answer : Result (Unit {0}) Fault) (fault : Fault) → answer ≡ Err fault
    → ◌≡◌ {A = Seen} (answer, row) (looked place asked) → Err fault ≡ row_told asked
refused_look place row (Ok found) answer fault refused same = let answers = ap (λ (seen : Seen). seen.0) same in absurd (grind arith)
refused_look place row (Err other) answer fault refused same = let answers = ap (λ (seen : Seen). seen.0) same in cc

-- a look that is answered tells the row
pub answered_look : (place row : OperationRow) (asked : Result OperationRow Fault) (answer : Result (Unit {0}) Fault) → answer ≡ Ok tt
    → ◌≡◌ {A = Seen} (answer, row) (looked place asked) → Ok (Row row) ≡ row_told asked
answered_look place row (Ok found) answer taken same = let rows = ap (λ (seen : Seen). seen.1) same in cc
answered_look place row (Err fault) answer taken same = let answers = ap (λ (seen : Seen). seen.0) same in absurd (grind arith)
