-- What calls have in common: the questions of the floor, of a node and of an operation stop on the grounds of the table, and wherever one of those holds.
use Rattle.std.proofs.Common.{◌≡◌, ◌≢◌, ◌⊎◌, inl, inr, ℕ, ◌<◌, ◌≤◌, Bool, true, false, not, ◌&&◌, List, slice_get, Option, Some, None, Ok, refl, arith}
use Rattle.std.specs.Prelude.{IfErr, IsSomeAnd, ok_or, nat_le, nat_lt, ◌==◌}
use Rattle.std.proofs.lemmas.Bool.Decides.{nat_tests}
use Rattle.fault.specs.declared.Fault.{Fault}
use Rattle.fault.specs.declared.Fault.TheVariants as fault
use Rattle.tables.specs.declared.records.NodeRecord.{NodeRecord}
use Rattle.tables.specs.declared.records.OperationRow.{OperationRow}
use Rattle.tables.specs.declared.records.Status.{Status}
use Rattle.tables.specs.declared.records.Status.TheVariants as status
use Rattle.tables.specs.Members.{primary}
use Rattle.node.specs.Conditions.{is_idle}
use Rattle.desk.specs.declared.desk.Desk.{Desk}
use Rattle.desk.specs.Tables.{Tables, lengths_of, allowed_lengths, same_lengths}
use Rattle.desk.specs.Asking.{served, record_of, not_stopped, running, started}
use Rattle.link.proofs.NotRefused.{runs, in_group}
use Rattle.starts.specs.Grounds.{not_idle, taking_part, is_frozen, leads, leading}
use Rattle.stopping.proofs.Chains.{UpTo, Stops, StopsUpTo, then_holds, if_holds, unless_holds, found_holds, if_stops, unless_stops, missing_stops, next_stops, if_next_stops, unless_next_stops, of_found, at_found}

-- What tests tell
pub not_true : (test : Bool) → not test ≡ true → test ≡ false
not_true true is = absurd (cc)
not_true false is = refl

pub not_false : (test : Bool) → not test ≡ false → test ≡ true
not_false true is = refl
not_false false is = absurd (cc)

pub one_fails : (one other : Bool) → (one && other) ≡ false → (one ≡ false) ⊎ (other ≡ false)
one_fails true other is = inr is
one_fails false other is = inl refl

pub both_fail : (one other : Bool) → (one ≡ false) ⊎ (other ≡ false) → (one && other) ≡ false
both_fail true other (inl is) = absurd (cc)
both_fail true other (inr is) = is
both_fail false other is = refl

pub not_equal : (one other : ℕ) → (one == other) ≡ false → other ≢ one
not_equal one other test same = grind (arith, nat_tests)

pub equal_fails : (one other : ℕ) → other ≢ one → (one == other) ≡ false
equal_fails one other different = grind (arith, nat_tests)

-- Of the floor

module _ (desk : Desk) (t : Tables) where
  -- a table's length is not allowed, or not that of the opening
  abbrev pub LengthFails : Type 0
  LengthFails = (allowed_lengths t ≡ false) ⊎ (same_lengths (lengths_of t.operations t.frames t.proposals) desk.lengths ≡ false)

  -- Both questions stop on their own ground, and nothing else is asked.
  pub served_holds : (P : Fault → Type 0) → (desk.is_open ≡ false → P fault.Closed) → (LengthFails → P fault.TableLength) → IfErr (served desk t) P
  served_holds P closed fails =
      if_holds P (not desk.is_open) _ fault.Closed (λ is. closed (not_true desk.is_open is)) (λ _.
      unless_holds P (allowed_lengths t && same_lengths (lengths_of t.operations t.frames t.proposals) desk.lengths) (Ok tt) fault.TableLength (λ is. fails (one_fails _ _ is)) (λ _. tt))

  -- The higher of the two is 2.
  pub served_up_to : (n : ℕ) → 2 ≤ n → StopsUpTo n (served desk t)
  served_up_to n low = served_holds (UpTo n) (λ _. omega arith) (λ _. low)

  -- It is the first question.
  pub closed_stops : desk.is_open ≡ false → Stops 1 (served desk t)
  closed_stops is = if_stops (UpTo 1) (not desk.is_open) _ fault.Closed (rw is refl) (omega arith)

  -- A floor that is closed as well stops on 1, which is lower.
  pub lengths_stop : LengthFails → Stops 2 (served desk t)
  lengths_stop fails =
      if_next_stops (UpTo 2) (not desk.is_open) _ fault.Closed (omega arith) (λ _.
      unless_stops (UpTo 2) (allowed_lengths t && same_lengths (lengths_of t.operations t.frames t.proposals) desk.lengths) (Ok tt) fault.TableLength
      (both_fail _ _ fails) (omega arith))

-- Of nodes

idle_is : (at : Status) → is_idle at ≡ true → at ≡ status.Idle
idle_is status.Idle is = refl
idle_is status.Active is = absurd (cc)
idle_is status.Frozen is = absurd (cc)

frozen_is : (at : Status) → is_frozen at ≡ true → at ≡ status.Frozen
frozen_is status.Idle is = absurd (cc)
frozen_is status.Active is = absurd (cc)
frozen_is status.Frozen is = refl

module _ (desk : Desk) (nodes : List NodeRecord) (node : ℕ) where
  -- the node is none of the floor's
  abbrev pub IsNone : Type 0
  IsNone = (node ≡ 0) ⊎ ((desk.node_count < node) ⊎ (record_of nodes node ≡ None))

  -- it has a record, of which this holds
  abbrev pub At : (NodeRecord → Type 0) → Type 0
  At P = IsSomeAnd (record_of nodes node) P

  module _ (P : Fault → Type 0) where
    -- a record that is there and has not stopped
    asked_holds : (at : Option NodeRecord) → (at ≡ None → P fault.NoNode) → (IsSomeAnd at (λ found. found.stopped ≡ true) → P fault.Stopped) → IfErr (not_stopped at) P
    asked_holds None none stopped = none refl
    asked_holds (Some found) none stopped = if_holds P found.stopped (Ok found) fault.Stopped stopped (λ _. tt)

    -- A node above the count is none of the floor's; below it the record tells.
    pub running_holds : (IsNone → P fault.NoNode) → (At (λ found. found.stopped ≡ true) → P fault.Stopped) → IfErr (running desk nodes node) P
    running_holds none stopped =
        unless_holds P (nat_le node desk.node_count) _ fault.NoNode (λ is. none (inr (inl (grind (arith, nat_tests))))) (λ _.
        asked_holds (record_of nodes node) (λ is. none (inr (inr is))) stopped)

    -- The record that is asked on is the node's.
    pub taking_part_holds : IfErr (running desk nodes node) P → (At (λ found. found.status ≡ status.Idle) → P fault.Idle) → IfErr (taking_part desk nodes node) P
    taking_part_holds holds idle =
        then_holds P (running desk nodes node) not_idle holds (λ found is.
        if_holds P (is_idle found.status) (Ok found) fault.Idle (λ test. idle (at_found (λ found. found.status ≡ status.Idle) _ found (runs desk nodes node found is).here (idle_is found.status test))) (λ _. tt))

    -- So it is here: first the status, then the primary.
    pub leading_holds : IfErr (taking_part desk nodes node) P → (At (λ found. found.status ≡ status.Frozen) → P fault.Frozen)
        → (At (λ found. primary found.configuration.members ≢ node) → P fault.NotPrimary) → IfErr (leading desk nodes node) P
    leading_holds holds frozen other =
        then_holds P (taking_part desk nodes node) (leads node) holds (λ found is.
        let here = (in_group desk nodes node found is).runs.here in
        if_holds P (is_frozen found.status) _ fault.Frozen (λ test. frozen (at_found (λ found. found.status ≡ status.Frozen) _ found here (frozen_is found.status test))) (λ _.
        unless_holds P (node == primary found.configuration.members) (Ok found) fault.NotPrimary
        (λ test. other (at_found (λ found. primary found.configuration.members ≢ node) _ found here (not_equal node _ test))) (λ _. tt)))

  -- on which grounds these stop at the most

  pub running_up_to : (n : ℕ) → 8 ≤ n → StopsUpTo n (running desk nodes node)
  running_up_to n low = running_holds (UpTo n) (λ _. omega arith) (λ _. low)

  pub taking_part_up_to : (n : ℕ) → 9 ≤ n → StopsUpTo n (taking_part desk nodes node)
  taking_part_up_to n low = taking_part_holds (UpTo n) (running_up_to n (omega arith)) (λ _. low)

  pub leading_up_to : (n : ℕ) → 11 ≤ n → StopsUpTo n (leading desk nodes node)
  leading_up_to n low = leading_holds (UpTo n) (taking_part_up_to n (omega arith)) (λ _. omega arith) (λ _. low)

  -- and that they stop where a ground holds

  -- A node within the count has no record then, so the second question stops.
  pub none_stops : IsNone → Stops 7 (running desk nodes node)
  none_stops none =
      unless_next_stops (UpTo 7) (nat_le node desk.node_count) (not_stopped (record_of nodes node)) fault.NoNode (omega arith) (λ test. missing (record_of nodes node) (no_record test none))
    where
      missing : (at : Option NodeRecord) → at ≡ None → Stops 7 (not_stopped at)
      missing None is = omega arith
      missing (Some found) is = absurd (cc)

      no_record : nat_le node desk.node_count ≡ true → IsNone → record_of nodes node ≡ None
      no_record test (inl is) = rw is refl
      no_record test (inr (inl above)) = absurd (grind (arith, nat_tests))
      no_record test (inr (inr is)) = is

  -- A node above the count stops on 7, which is lower.
  pub stopped_stops : At (λ found. found.stopped ≡ true) → Stops 8 (running desk nodes node)
  stopped_stops stopped =
      unless_next_stops (UpTo 8) (nat_le node desk.node_count) (not_stopped (record_of nodes node)) fault.NoNode (omega arith) (λ _. asked (record_of nodes node) stopped)
    where
      asked : (at : Option NodeRecord) → IsSomeAnd at (λ found. found.stopped ≡ true) → Stops 8 (not_stopped at)
      asked None there = absurd there
      asked (Some found) there = if_stops (UpTo 8) found.stopped (Ok found) fault.Stopped there (omega arith)

  -- If it runs, its record is the one that is idle.
  pub idle_stops : At (λ found. found.status ≡ status.Idle) → Stops 9 (taking_part desk nodes node)
  idle_stops idle =
      next_stops (UpTo 9) (running desk nodes node) not_idle (running_up_to 9 (omega arith)) (λ found is.
      if_stops (UpTo 9) (is_idle found.status) (Ok found) fault.Idle (rw (of_found (λ found. found.status ≡ status.Idle) _ found (runs desk nodes node found is).here idle) refl) (omega arith))

  -- If it takes part, its record is the one that is frozen.
  pub frozen_stops : At (λ found. found.status ≡ status.Frozen) → Stops 10 (leading desk nodes node)
  frozen_stops frozen =
      next_stops (UpTo 10) (taking_part desk nodes node) (leads node) (taking_part_up_to 10 (omega arith)) (λ found is.
      if_stops (UpTo 10) (is_frozen found.status) _ fault.Frozen
      (rw (of_found (λ found. found.status ≡ status.Frozen) _ found (in_group desk nodes node found is).runs.here frozen) refl) (omega arith))

  -- If it is frozen as well, it stops on 10, which is lower.
  pub other_stops : At (λ found. primary found.configuration.members ≢ node) → Stops 11 (leading desk nodes node)
  other_stops other =
      next_stops (UpTo 11) (taking_part desk nodes node) (leads node) (taking_part_up_to 11 (omega arith)) (λ found is.
      if_next_stops (UpTo 11) (is_frozen found.status) _ fault.Frozen (omega arith) (λ _.
      unless_stops (UpTo 11) (node == primary found.configuration.members) (Ok found) fault.NotPrimary
      (equal_fails node _ (of_found (λ found. primary found.configuration.members ≢ node) _ found (in_group desk nodes node found is).runs.here other)) (omega arith)))

-- Of operations

module _ (desk : Desk) (operations : List OperationRow) (operation : ℕ) where
  -- the operation was not started
  abbrev pub IsNew : Type 0
  IsNew = (desk.operations_used ≤ operation) ⊎ (slice_get operations operation ≡ None)

  -- An operation beyond the count was not started, nor was one without a row.
  pub started_holds : (P : Fault → Type 0) → (IsNew → P fault.NotStarted) → IfErr (started desk operations operation) P
  started_holds P new =
      unless_holds P (nat_lt operation desk.operations_used) _ fault.NotStarted (λ is. new (inl (grind (arith, nat_tests)))) (λ _.
      found_holds P (slice_get operations operation) fault.NotStarted (λ is. new (inr is)))

  pub started_up_to : (n : ℕ) → 5 ≤ n → StopsUpTo n (started desk operations operation)
  started_up_to n low = started_holds (UpTo n) (λ _. low)

  -- An operation within the count has no row then.
  pub new_stops : IsNew → Stops 5 (started desk operations operation)
  new_stops new =
      unless_next_stops (UpTo 5) (nat_lt operation desk.operations_used) (ok_or (slice_get operations operation) fault.NotStarted) fault.NotStarted (omega arith) (λ test.
      missing_stops (UpTo 5) (slice_get operations operation) fault.NotStarted (no_row test new) (omega arith))
    where
      no_row : nat_lt operation desk.operations_used ≡ true → IsNew → slice_get operations operation ≡ None
      no_row test (inl above) = absurd (grind (arith, nat_tests))
      no_row test (inr is) = is
