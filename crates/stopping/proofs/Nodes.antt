-- Calls at a node: what is asked of it first, then the rest.
use Rattle.std.proofs.Common.{◌≡◌, ◌≢◌, ℕ, ◌≤◌, true, List, Some, Result}
use Rattle.std.specs.Prelude.{IfErr}
use Rattle.desk.specs.declared.desk.Desk.{Desk}
use Rattle.desk.specs.Asking.{and_then, record_of, running}
use Rattle.fault.specs.declared.Fault.{Fault}
use Rattle.fault.specs.declared.Fault.TheVariants as fault
use Rattle.link.proofs.NotRefused.{in_group, leading_found}
use Rattle.starts.specs.Grounds.{not_idle, taking_part, leads, leading}
use Rattle.tables.specs.declared.records.NodeRecord.{NodeRecord}
use Rattle.tables.specs.declared.records.Status.TheVariants as status
use Rattle.tables.specs.Members.{primary}
use Rattle.stopping.proofs.Asked.{IsNone, At, running_holds, taking_part_holds, leading_holds, taking_part_up_to, leading_up_to, none_stops, stopped_stops, idle_stops, frozen_stops, other_stops}
use Rattle.stopping.proofs.Chains.{UpTo, Stops, then_holds, first_stops, next_stops}

module _ (desk : Desk) (nodes : List NodeRecord) (node : ℕ) {A : Type 0} (next : NodeRecord → Result A Fault) where
  -- the node has this record
  abbrev pub Here : NodeRecord → Type 0
  Here found = record_of nodes node ≡ Some found

  -- At a node that is to be in a group

  abbrev asks_member : Result A Fault
  asks_member = and_then (taking_part desk nodes node) next

  -- Each question stops on its own ground, then the rest is asked of the node's record.
  pub member_grounded : (P : Fault → Type 0) → (IsNone desk nodes node → P fault.NoNode) → (At desk nodes node (λ found. found.stopped ≡ true) → P fault.Stopped)
      → (At desk nodes node (λ found. found.status ≡ status.Idle) → P fault.Idle) → ((found : NodeRecord) → Here found → IfErr (next found) P) → IfErr asks_member P
  member_grounded P none stopped idle further =
      then_holds P (taking_part desk nodes node) next (taking_part_holds desk nodes node P (running_holds desk nodes node P none stopped) idle) (λ found is. further found (in_group desk nodes node found is).runs.here)

  -- The first question is whether the node runs.
  pub member_none : IsNone desk nodes node → Stops 7 asks_member
  member_none holds = first_stops (UpTo 7) (taking_part desk nodes node) next (first_stops (UpTo 7) (running desk nodes node) not_idle (none_stops desk nodes node holds))

  pub member_stopped : At desk nodes node (λ found. found.stopped ≡ true) → Stops 8 asks_member
  member_stopped holds = first_stops (UpTo 8) (taking_part desk nodes node) next (first_stops (UpTo 8) (running desk nodes node) not_idle (stopped_stops desk nodes node holds))

  -- The next is whether it is idle.
  pub member_idle : At desk nodes node (λ found. found.status ≡ status.Idle) → Stops 9 asks_member
  member_idle holds = first_stops (UpTo 9) (taking_part desk nodes node) next (idle_stops desk nodes node holds)

  -- What comes before stops on 9 at the most.
  pub member_rest : (n : ℕ) → 9 ≤ n → ((found : NodeRecord) → Here found → Stops n (next found)) → Stops n asks_member
  member_rest n low further =
      next_stops (UpTo n) (taking_part desk nodes node) next (taking_part_up_to desk nodes node n low) (λ found is. further found (in_group desk nodes node found is).runs.here)

  -- At one that is to lead its group

  abbrev asks_leader : Result A Fault
  asks_leader = and_then (leading desk nodes node) next

  -- As before, with two questions more.
  pub leader_grounded : (P : Fault → Type 0) → (IsNone desk nodes node → P fault.NoNode) → (At desk nodes node (λ found. found.stopped ≡ true) → P fault.Stopped)
      → (At desk nodes node (λ found. found.status ≡ status.Idle) → P fault.Idle) → (At desk nodes node (λ found. found.status ≡ status.Frozen) → P fault.Frozen)
      → (At desk nodes node (λ found. primary found.configuration.members ≢ node) → P fault.NotPrimary)
      → ((found : NodeRecord) → Here found → IfErr (next found) P) → IfErr asks_leader P
  leader_grounded P none stopped idle frozen other further =
      then_holds P (leading desk nodes node) next
      (leading_holds desk nodes node P (taking_part_holds desk nodes node P (running_holds desk nodes node P none stopped) idle) frozen other)
      (λ found is. further found (leading_found desk nodes node found is).in_group.runs.here)

  -- What stops one that is to be in a group stops one that is to lead it.
  member_first : (n : ℕ) → Stops n (taking_part desk nodes node) → Stops n asks_leader
  member_first n stops = first_stops (UpTo n) (leading desk nodes node) next (first_stops (UpTo n) (taking_part desk nodes node) (leads node) stops)

  pub leader_none : IsNone desk nodes node → Stops 7 asks_leader
  leader_none holds = member_first 7 (first_stops (UpTo 7) (running desk nodes node) not_idle (none_stops desk nodes node holds))

  pub leader_stopped : At desk nodes node (λ found. found.stopped ≡ true) → Stops 8 asks_leader
  leader_stopped holds = member_first 8 (first_stops (UpTo 8) (running desk nodes node) not_idle (stopped_stops desk nodes node holds))

  pub leader_idle : At desk nodes node (λ found. found.status ≡ status.Idle) → Stops 9 asks_leader
  leader_idle holds = member_first 9 (idle_stops desk nodes node holds)

  -- The last two questions are whether it is frozen, and whether it is the primary.
  pub leader_frozen : At desk nodes node (λ found. found.status ≡ status.Frozen) → Stops 10 asks_leader
  leader_frozen holds = first_stops (UpTo 10) (leading desk nodes node) next (frozen_stops desk nodes node holds)

  pub leader_other : At desk nodes node (λ found. primary found.configuration.members ≢ node) → Stops 11 asks_leader
  leader_other holds = first_stops (UpTo 11) (leading desk nodes node) next (other_stops desk nodes node holds)

  -- What comes before stops on 11 at the most.
  pub leader_rest : (n : ℕ) → 11 ≤ n → ((found : NodeRecord) → Here found → Stops n (next found)) → Stops n asks_leader
  leader_rest n low further =
      next_stops (UpTo n) (leading desk nodes node) next (leading_up_to desk nodes node n low) (λ found is. further found (leading_found desk nodes node found is).in_group.runs.here)
