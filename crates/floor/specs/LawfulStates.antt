-- Lawful states: the host's tables keep within their bounds.
use Rattle.std.specs.Prelude.{ℕ, List}
use Rattle.desk.specs.LawfulTables.{LawfulTables}
use Rattle.floor.specs.State.{State}

abbrev pub LawfulState : {C Q S : Type 0} → (C → List ℕ) → State Q S → Type 0
LawfulState meaning state = LawfulTables meaning state.desk state.t

-- what every call promises: it keeps lawful tables lawful
abbrev pub LawfulStays : {C Q S : Type 0} → (C → List ℕ) → State Q S → State Q S → Type 0
LawfulStays meaning before after = LawfulState meaning before → LawfulState meaning after
