-- The twelve calls over all that they can see: what each answers, and the state that it leaves.
use Rattle.std.specs.Prelude.{◌≡◌, ℕ, Bool, List, Option, Result}
use Rattle.chooser.specs.Meaning.{Decisions, Answer}
use Rattle.fault.specs.declared.Fault.{Fault}
use Rattle.tables.specs.declared.members.Members.{Members}
use Rattle.tables.specs.declared.records.OperationRow.{OperationRow}
use Rattle.desk.specs.declared.desk.Desk.{Desk}
use Rattle.desk.specs.Tables.{Tables}
use Rattle.desk.specs.Opening.{open_step}
use Rattle.desk.specs.Ending.{lose_step, give_up_step, stop_step, look_step}
use Rattle.starts.specs.Starts.{read_step, write_step, regroup_step}
use Rattle.handover.specs.Proposing.{ProposeStep}
use Rattle.handover.specs.Settling.{settle_step}
use Rattle.handover.specs.Working.{WorkStep}
use Rattle.delivery.specs.declared.delivery.Delivery.{Delivery}
use Rattle.delivery.specs.Delivery.{deliver_step}
use Rattle.floor.specs.State.{State}

-- What a call leaves: another desk and other tables, or other tables alone; rule and chooser stay.
abbrev pub leaving : {A Q S : Type 0} → State Q S → A × Desk × Tables → A × State Q S
leaving before (answer, desk, t) = (answer, record before { desk = desk; t = t })

abbrev pub leaving_tables : {A Q S : Type 0} → State Q S → A × Tables → A × State Q S
leaving_tables before (answer, t) = (answer, record before { t = t })

abbrev pub opens : {Q S : Type 0} → State Q S → ℕ → Members → List ℕ → Result (Unit {0}) Fault × State Q S
opens before count members content = leaving before (open_step before.desk before.t count members content)

abbrev pub reads : {Q S : Type 0} → ℕ → State Q S → ℕ → Result ℕ Fault × State Q S
reads width before node = leaving before (read_step width before.desk before.t node)

abbrev pub writes : {Q S : Type 0} → ℕ → State Q S → ℕ → List ℕ → Result ℕ Fault × State Q S
writes width before node content = leaving before (write_step width before.desk before.t node content)

abbrev pub regroups : {Q S : Type 0} → ℕ → State Q S → ℕ → Members → Result ℕ Fault × State Q S
regroups width before node members = leaving before (regroup_step width before.desk before.t node members)

-- Proposing leaves what the chooser makes of the offer: the desk and the tables by its answer, and the chooser as it alone says.
abbrev pub Proposes : {Q S : Type 0} → (ℕ → ℕ → Bool) → (S → ℕ → ℕ → Answer → S → Type 0) → State Q S → ℕ → Result ℕ Fault → State Q S → Type 0
Proposes wins offering before operation answer after =
    ProposeStep wins offering before.desk before.t before.chooser operation (answer, after.desk, after.t) after.chooser × (after.rule ≡ before.rule)

abbrev pub settles : {Q S : Type 0} → ℕ → Decisions → State Q S → ℕ → Result ℕ Fault × State Q S
settles width decided before node = leaving_tables before (settle_step width decided before.desk before.t node)

-- Working leaves another chooser, and all else as it was.
abbrev pub Works : {Q S : Type 0} → (S → ℕ → ℕ → ℕ → ℕ → Answer → S → Type 0) → State Q S → ℕ → ℕ → ℕ → ℕ → Result (Unit {0}) Fault → State Q S → Type 0
Works working before number step ballot set answer after =
    WorkStep working before.desk before.t before.chooser number step ballot set answer after.chooser × (after ≡ record before { chooser = after.chooser })

abbrev pub delivers : {C Q S : Type 0} → ℕ → (List ℕ → Option C) → (ℕ → ℕ → Bool) → State Q S → ℕ → Result Delivery Fault × State Q S
delivers width reads wins before slot = leaving before (deliver_step width reads wins before.desk before.t slot)

abbrev pub loses : {Q S : Type 0} → State Q S → ℕ → Result (Unit {0}) Fault × State Q S
loses before slot = leaving_tables before (lose_step before.desk before.t slot)

abbrev pub gives_up : {Q S : Type 0} → State Q S → ℕ → Result (Unit {0}) Fault × State Q S
gives_up before operation = leaving_tables before (give_up_step before.desk before.t operation)

abbrev pub stops : {Q S : Type 0} → State Q S → ℕ → Result (Unit {0}) Fault × State Q S
stops before node = leaving_tables before (stop_step before.desk before.t node)

-- A look leaves all as it was, and answers a row into the place that is handed along.
abbrev pub looks : {Q S : Type 0} → State Q S → ℕ → OperationRow → Result (Unit {0}) Fault × OperationRow
looks before operation place = look_step before.desk before.t operation place
