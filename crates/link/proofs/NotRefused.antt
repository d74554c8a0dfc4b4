-- What a call that is not refused has asked, and found to be so.
use Rattle.std.proofs.Common.{◌≡◌, ℕ, ◌<◌, ◌≤◌, Bool, true, false, not, ◌&&◌, List, length, slice_get, Option, Some, None, Result, Ok, Err, if◌then◌else◌, refl, ap, arith}
use Rattle.std.specs.Prelude.{ok_or, nat_le, nat_lt, ◌==◌}
use Rattle.std.specs.Result.{result_and}
use Rattle.std.proofs.lemmas.Bool.Decides.{nat_tests}
use Rattle.fault.specs.declared.Fault.{Fault}
use Rattle.fault.specs.declared.Fault.TheVariants as fault
use Rattle.tables.specs.declared.records.NodeRecord.{NodeRecord}
use Rattle.tables.specs.declared.records.OperationRow.{OperationRow}
use Rattle.tables.specs.Members.{primary}
use Rattle.node.specs.Conditions.{is_idle}
use Rattle.desk.specs.declared.desk.Desk.{Desk}
use Rattle.desk.specs.Limits.{most_operations}
use Rattle.desk.specs.Tables.{Tables, lengths_of, allowed_lengths, same_lengths}
use Rattle.desk.specs.Asking.{and_then, served, record_of, not_stopped, running, started}
use Rattle.starts.specs.Grounds.{not_idle, taking_part, is_frozen, leads, leading, row_left}

-- One question after the other: both were answered.

pub then_both : {A B : Type 0} (first : Result A Fault) (next : A → Result B Fault) (answer : B) → and_then first next ≡ Ok answer → (found : A) × (first ≡ Ok found) × (next found ≡ Ok answer)
then_both (Ok found) next answer is = (found, refl, is)
then_both (Err fault) next answer is = absurd (cc)

pub and_both : {A B : Type 0} (first : Result A Fault) (next : Result B Fault) (answer : B) → result_and first next ≡ Ok answer → (found : A) × (first ≡ Ok found) × (next ≡ Ok answer)
and_both (Ok found) next answer is = (found, refl, is)
and_both (Err fault) next answer is = absurd (cc)

-- A test stops the call where it fails, or where it holds.

pub so : {A : Type 0} (test : Bool) (next : Result A Fault) (fault : Fault) (answer : A) → (if test then next else Err fault) ≡ Ok answer → (test ≡ true) × (next ≡ Ok answer)
so true next fault answer is = (refl, is)
so false next fault answer is = absurd (cc)

pub not_so : {A : Type 0} (test : Bool) (next : Result A Fault) (fault : Fault) (answer : A) → (if test then Err fault else next) ≡ Ok answer → (test ≡ false) × (next ≡ Ok answer)
not_so true next fault answer is = absurd (cc)
not_so false next fault answer is = (refl, is)

-- Of the tables

-- there are at most as many operation rows as frames can name
pub rows_few : (desk : Desk) (t : Tables) → served desk t ≡ Ok tt → length t.operations ≤ most_operations
rows_few desk t is =
    let (is_open, rest) = not_so (not desk.is_open) _ fault.Closed tt is in
    let (lengths, done) = so (allowed_lengths t && same_lengths (lengths_of t.operations t.frames t.proposals) desk.lengths) (Ok tt) fault.TableLength tt rest in
    grind (arith, nat_tests)

-- an operation row is left
pub room_for_row : (desk : Desk) (operations : List OperationRow) → row_left desk operations ≡ Ok tt → desk.operations_used < length operations
room_for_row desk operations is = grind (arith, nat_tests)

-- the row of an operation that was started
pub was_started : (desk : Desk) (operations : List OperationRow) (operation : ℕ) (row : OperationRow) → started desk operations operation ≡ Ok row
    → (operation < desk.operations_used) × (slice_get operations operation ≡ Some row)
was_started desk operations operation row is =
    let (below, found) = so (nat_lt operation desk.operations_used) (ok_or (slice_get operations operation) fault.NotStarted) fault.NotStarted row is in
    (grind (arith, nat_tests), grind arith)

-- Of nodes

-- a node of the floor runs, and has this record
pub record Runs (desk : Desk) (nodes : List NodeRecord) (node : ℕ) (found : NodeRecord) : Type 0 where
  pub inside : node ≤ desk.node_count
  pub here : record_of nodes node ≡ Some found
  pub goes_on : found.stopped ≡ false

not_stopped_found : (at : Option NodeRecord) (found : NodeRecord) → not_stopped at ≡ Ok found → (at ≡ Some found) × (found.stopped ≡ false)
not_stopped_found None found is = absurd (cc)
not_stopped_found (Some other) found is =
    let (goes_on, same) = not_so other.stopped (Ok other) fault.Stopped found is in
    let is_found : other ≡ found = cc in
    (ap Some is_found, rw is_found at goes_on)

pub runs : (desk : Desk) (nodes : List NodeRecord) (node : ℕ) (found : NodeRecord) → running desk nodes node ≡ Ok found → Runs desk nodes node found
runs desk nodes node found is =
    let (inside, asked) = so (nat_le node desk.node_count) (not_stopped (record_of nodes node)) fault.NoNode found is in
    let (here, goes_on) = not_stopped_found (record_of nodes node) found asked in
    record { inside = grind (arith, nat_tests); here = here; goes_on = goes_on }

-- it is in a group
pub record InGroup (desk : Desk) (nodes : List NodeRecord) (node : ℕ) (found : NodeRecord) : Type 0 where
  pub runs : Runs desk nodes node found
  pub not_idle : is_idle found.status ≡ false

pub in_group : (desk : Desk) (nodes : List NodeRecord) (node : ℕ) (found : NodeRecord) → taking_part desk nodes node ≡ Ok found → InGroup desk nodes node found
in_group desk nodes node found is =
    let (other, asked, then_asked) = then_both (running desk nodes node) not_idle found is in
    let (in_one, same) = not_so (is_idle other.status) (Ok other) fault.Idle found then_asked in
    let is_found : other ≡ found = cc in
    record { runs = rw is_found at (runs desk nodes node other asked); not_idle = rw is_found at in_one }

-- and leads it
pub record Leading (desk : Desk) (nodes : List NodeRecord) (node : ℕ) (found : NodeRecord) : Type 0 where
  pub in_group : InGroup desk nodes node found
  pub not_frozen : is_frozen found.status ≡ false
  pub is_primary : node ≡ primary found.configuration.members

pub leading_found : (desk : Desk) (nodes : List NodeRecord) (node : ℕ) (found : NodeRecord) → leading desk nodes node ≡ Ok found → Leading desk nodes node found
leading_found desk nodes node found is =
    let (other, asked, then_asked) = then_both (taking_part desk nodes node) (leads node) found is in
    let (thawed, further) = not_so (is_frozen other.status) _ fault.Frozen found then_asked in
    let (first, same) = so (node == primary other.configuration.members) (Ok other) fault.NotPrimary found further in
    let is_found : other ≡ found = cc in
    let is_first : node ≡ primary other.configuration.members = grind (arith, nat_tests) in
    record { in_group = rw is_found at (in_group desk nodes node other asked); not_frozen = rw is_found at thawed; is_primary = rw is_found at is_first }
