-- What a proposal has found where it is not refused.
use Rattle.std.proofs.Common.{◌≡◌, ℕ, ◌<◌, Bool, true, false, length, Option, Some, None, Ok, ◌==◌, ap, subst, arith}
use Rattle.std.proofs.lemmas.Bool.Decides.{nat_tests}
use Rattle.fault.specs.declared.Fault.TheVariants as fault
use Rattle.tables.specs.declared.records.NodeRecord.{NodeRecord}
use Rattle.tables.specs.declared.records.OperationKind.TheVariants as kind
use Rattle.tables.specs.declared.records.OperationRow.{OperationRow}
use Rattle.tables.specs.Members.{size}
use Rattle.node.specs.Conditions.{same_kind}
use Rattle.desk.specs.declared.desk.Desk.{Desk}
use Rattle.desk.specs.Tables.{Tables}
use Rattle.desk.specs.Asking.{served, record_of, started}
use Rattle.desk.specs.Ending.{still_open}
use Rattle.handover.specs.Proposing.{regroup_open, still_running, running_node, frozen_group, proposal_left, may_propose}
use Rattle.link.proofs.Ending.{OpenRow, open_row}
use Rattle.link.proofs.NotRefused.{and_both, then_both, so, not_so}

pub record ProposeMet (wins : ℕ → ℕ → Bool) (desk : Desk) (t : Tables) (operation : ℕ) (row : OperationRow) : Type 0 where
  pub open_row : OpenRow desk t operation row
  pub is_regroup : same_kind row.kind kind.Regroup ≡ true
  pub node : NodeRecord
  pub here : record_of t.nodes row.node ≡ Some node
  pub goes_on : node.stopped ≡ false
  pub same_number : node.configuration.number ≡ row.number
  pub won : wins (size node.configuration.members) row.set ≡ true
  pub room : desk.proposals_used < length t.proposals

running_found : (at : Option NodeRecord) (found : NodeRecord) → still_running at ≡ Ok found → (at ≡ Some found) × (found.stopped ≡ false)
running_found None found is = absurd (cc)
running_found (Some other) found is =
    let (goes_on, kept) = not_so other.stopped (Ok other) fault.Stopped found is in
    let same : other ≡ found = cc in
    (ap Some same, rw same at goes_on)

group_frozen : (wins : ℕ → ℕ → Bool) (row : OperationRow) (node : NodeRecord) → frozen_group wins row node ≡ Ok tt
    → (node.configuration.number ≡ row.number) × (wins (size node.configuration.members) row.set ≡ true)
group_frozen wins row node is =
    let (same, enough) = so (node.configuration.number == row.number) _ fault.OtherNumber tt is in
    let (won, _) = so (wins (size node.configuration.members) row.set) (Ok tt) fault.TooFewFrozen tt enough in
    (grind (arith, nat_tests), won)

regroup_row : (row found : OperationRow) → regroup_open row ≡ Ok found → (still_open row ≡ Ok found) × (same_kind found.kind kind.Regroup ≡ true)
regroup_row row found is =
    let (other, asks, regroups) = then_both (still_open row) _ found is in
    let (is_regroup, kept) = so (same_kind other.kind kind.Regroup) (Ok other) fault.NoRegroup found regroups in
    let same : other ≡ found = cc in
    (subst (λ o. still_open row ≡ Ok o) same asks, subst (λ (o : OperationRow). same_kind o.kind kind.Regroup ≡ true) same is_regroup)

pub propose_met : (wins : ℕ → ℕ → Bool) (desk : Desk) (t : Tables) (operation : ℕ) (row : OperationRow) → may_propose wins desk t operation ≡ Ok row → ProposeMet wins desk t operation row
propose_met wins desk t operation row may =
    let (_, _, asking) = and_both (served desk t) _ row may in
    let (first, asked, further) = then_both (started desk t.operations operation) _ row asking in
    let (found, opens, on) = then_both (regroup_open first) _ row further in
    let (node, running, groups) = then_both (running_node t.nodes found) _ row on in
    let (_, group, lefts) = and_both (frozen_group wins found node) _ row groups in
    let (_, left, last) = and_both (proposal_left desk t.proposals) (Ok found) row lefts in
    let (asks, is_regroup) = regroup_row first found opens in
    let (here, goes_on) = running_found (record_of t.nodes found.node) node running in
    let (same_number, won) = group_frozen wins found node group in
    let found_is : found ≡ row = cc in
    subst (ProposeMet wins desk t operation) found_is (record {
      open_row = open_row desk t operation first found asked asks;
      is_regroup = is_regroup;
      node = node;
      here = here;
      goes_on = goes_on;
      same_number = same_number;
      won = won;
      room = grind (arith, nat_tests);
    })
