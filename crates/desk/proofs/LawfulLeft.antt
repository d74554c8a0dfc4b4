-- What a call left is lawful if what its step leaves is.
use Rattle.std.proofs.Common.{◌≡◌, ℕ, List, sym, subst}
use Rattle.desk.specs.declared.desk.Desk.{Desk}
use Rattle.desk.specs.LawfulTables.{LawfulTables}
use Rattle.desk.specs.Tables.{Tables}

pub lawful_left : {A C : Type 0} (meaning : C → List ℕ) {left step : A × Desk × Tables} → left ≡ step → LawfulTables meaning step.1 step.2 → LawfulTables meaning left.1 left.2
lawful_left {A} meaning same lawful = subst (λ (left : A × Desk × Tables). LawfulTables meaning left.1 left.2) (sym same) lawful

-- where the desk stays
pub lawful_tables_left : {A C : Type 0} (meaning : C → List ℕ) (desk : Desk) {left step : A × Tables} → left ≡ step → LawfulTables meaning desk step.1 → LawfulTables meaning desk left.1
lawful_tables_left {A} meaning desk same lawful = subst (λ (left : A × Tables). LawfulTables meaning desk left.1) (sym same) lawful
