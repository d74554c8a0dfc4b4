-- A look that is not refused answers the row of an operation in use, on an open floor.
use Rattle.std.proofs.Common.{◌≡◌, ℕ, true, Ok, Err, refl, slice_get, if◌then◌else◌}
use Rattle.std.specs.Prelude.{not, ◌&&◌, nat_lt, ok_or}
use Rattle.std.proofs.lemmas.Bool.{not-false, ltb-true, lt-ltb}
use Rattle.desk.specs.Asking.{served, started}
use Rattle.desk.specs.Ending.{may_look}
use Rattle.desk.specs.declared.desk.Desk.{Desk}
use Rattle.desk.specs.Tables.{Tables, lengths_of, allowed_lengths, same_lengths}
use Rattle.fault.specs.declared.Fault.TheVariants.{Closed, TableLength, NotStarted}
use Rattle.floor.specs.State.{State}
use Rattle.law.proofs.Passing.{result_and_passes, test_passes, test_stops_not, found_passes}
use Rattle.law.proofs.RowFacts.{RowIn}
use Rattle.tables.specs.declared.records.OperationRow.{OperationRow}

-- what is served is open
served_is_open : (desk : Desk) (t : Tables) (nothing : Unit {0}) → served desk t ≡ Ok nothing → desk.is_open ≡ true
served_is_open desk t nothing serves =
    let lengths = allowed_lengths t && same_lengths (lengths_of t.operations t.frames t.proposals) desk.lengths in
    let (open_test, _) = test_stops_not (not desk.is_open) (if lengths then Ok tt else Err TableLength) Closed nothing serves in
    not-false _ open_test

-- What a look that is answered says of a state.
pub record Seen {Q S : Type 0} (state : State Q S) (operation : ℕ) (row : OperationRow) : Type 0 where
  pub is_open : state.desk.is_open ≡ true
  pub serves : served state.desk state.t ≡ Ok tt
  pub row_in : RowIn state operation row

pub seen_by_look : {Q S : Type 0} (state : State Q S) (operation : ℕ) (row : OperationRow) → may_look state.desk state.t operation ≡ Ok row → Seen state operation row
seen_by_look state operation row looks =
    let (nothing, serves, found) = result_and_passes (served state.desk state.t) (started state.desk state.t.operations operation) row looks in
    let (below, there) = test_passes (nat_lt operation state.desk.operations_used) (ok_or (slice_get state.t.operations operation) NotStarted) NotStarted row found in
    record {
      is_open = served_is_open state.desk state.t nothing serves;
      serves = serves;
      row_in = record { used = ltb-true _ _ below; there = found_passes (slice_get state.t.operations operation) NotStarted row there };
    }

-- where a floor is served, a look at a row in use answers it
pub look_answers : {Q S : Type 0} (state : State Q S) (operation : ℕ) (row : OperationRow) → served state.desk state.t ≡ Ok tt → RowIn state operation row
    → may_look state.desk state.t operation ≡ Ok row
look_answers state operation row serves found =
    let below = lt-ltb operation state.desk.operations_used found.used in
    let there = found.there in
    rw (serves, below, there) refl
