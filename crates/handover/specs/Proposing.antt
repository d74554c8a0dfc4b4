-- The call propose: what it answers and leaves, by what the chooser answers.
use Rattle.std.specs.Prelude.{◌≡◌, ℕ, suc, Bool, List, length, slice_set, Option, Some, None, Result, Ok, Err, ◌==◌, nat_lt, if◌then◌else◌}
use Rattle.std.specs.Result.{result_and}
use Rattle.chooser.specs.Meaning.{Answer}
use Rattle.fault.specs.declared.Fault.{Fault}
use Rattle.fault.specs.declared.Fault.TheVariants.{NoRegroup, Stopped, OtherNumber, TooFewFrozen, ProposalsUsed, Chooser}
use Rattle.tables.specs.declared.records.NodeRecord.{NodeRecord}
use Rattle.tables.specs.declared.records.OperationKind.TheVariants.{Regroup}
use Rattle.tables.specs.declared.records.OperationRow.{OperationRow}
use Rattle.tables.specs.declared.records.OperationState.TheVariants.{Proposed}
use Rattle.tables.specs.declared.records.ProposalRow.{ProposalRow}
use Rattle.tables.specs.Members.{size}
use Rattle.node.specs.Conditions.{same_kind}
use Rattle.desk.specs.declared.desk.Desk.{Desk}
use Rattle.desk.specs.Tables.{Tables}
use Rattle.desk.specs.Asking.{and_then, served, record_of, started}
use Rattle.desk.specs.Ending.{still_open}

-- an open regroup
abbrev pub regroup_open : OperationRow → Result OperationRow Fault
regroup_open row = and_then (still_open row) (λ row. if same_kind row.kind Regroup then Ok row else Err NoRegroup)

abbrev pub still_running : Option NodeRecord → Result NodeRecord Fault
still_running None = Err Stopped
still_running (Some node) = if node.stopped then Err Stopped else Ok node

-- The record of the row's node, which runs. Whether the node is below the count is not asked; a row that names no record at all, which no lawful row does, stops as if its node had stopped.
abbrev pub running_node : List NodeRecord → OperationRow → Result NodeRecord Fault
running_node nodes row = still_running (record_of nodes row.node)

-- the node is still under the operation's number, and the places that froze suffice
abbrev pub frozen_group : (ℕ → ℕ → Bool) → OperationRow → NodeRecord → Result (Unit {0}) Fault
frozen_group wins row node =
    if node.configuration.number == row.number
    then if wins (size node.configuration.members) row.set then Ok tt else Err TooFewFrozen
    else Err OtherNumber

-- a proposal row is left
abbrev pub proposal_left : Desk → List ProposalRow → Result (Unit {0}) Fault
proposal_left desk proposals = if nat_lt desk.proposals_used (length proposals) then Ok tt else Err ProposalsUsed

-- the row of the regroup that may be offered, or the first ground on which the call stops
abbrev pub may_propose : (ℕ → ℕ → Bool) → Desk → Tables → ℕ → Result OperationRow Fault
may_propose wins desk t operation =
    result_and (served desk t)
    (and_then (started desk t.operations operation) (λ row.
    and_then (regroup_open row) (λ row.
    and_then (running_node t.nodes row) (λ node.
    result_and (frozen_group wins row node)
    (result_and (proposal_left desk t.proposals)
    (Ok row))))))

-- the regroup's number, members and copy
abbrev pub proposal_of : OperationRow → ProposalRow
proposal_of row = record { number = row.number; members = row.members; copy = row.copy }

-- What is left when the chooser took the offer of the next proposal row, and what when it refused it.
abbrev pub offered : Desk → Tables → ℕ → OperationRow → Answer → Result ℕ Fault × Desk × Tables
offered desk t operation row (Ok _) = (
  Ok desk.proposals_used,
  record desk { proposals_used = suc desk.proposals_used },
  record t { operations = slice_set t.operations operation (record row { state = Proposed }); proposals = slice_set t.proposals desk.proposals_used (proposal_of row) },
)
offered desk t operation row (Err refusal) = (Err (Chooser refusal), desk, t)

-- The call, given what offering does in the chooser: the chooser is asked where no ground stops the call before, and it alone says what it becomes.
abbrev pub Proposing : {S : Type 0} → (S → ℕ → ℕ → Answer → S → Type 0) → Desk → Tables → S → ℕ → Result OperationRow Fault → Result ℕ Fault × Desk × Tables → S → Type 0
Proposing offering desk t chooser operation (Ok row) outcome after =
    (answer : Answer) × offering chooser row.number desk.proposals_used answer after × (outcome ≡ offered desk t operation row answer)
Proposing offering desk t chooser operation (Err fault) outcome after = (outcome ≡ (Err fault, desk, t)) × (after ≡ chooser)

abbrev pub ProposeStep : {S : Type 0} → (ℕ → ℕ → Bool) → (S → ℕ → ℕ → Answer → S → Type 0) → Desk → Tables → S → ℕ → Result ℕ Fault × Desk × Tables → S → Type 0
ProposeStep wins offering desk t chooser operation outcome after = Proposing offering desk t chooser operation (may_propose wins desk t operation) outcome after
