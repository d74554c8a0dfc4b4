-- What a start has found where it is not refused, and how it begins.
use Rattle.std.proofs.Common.{◌≡◌, ℕ, ◌<◌, ◌≤◌, List, length, Ok, arith}
use Rattle.std.proofs.lemmas.Bool.Decides.{nat_tests}
use Rattle.fault.specs.declared.Fault.TheVariants as fault
use Rattle.frame.specs.Limits.{highest_operation, highest_version}
use Rattle.tables.specs.declared.members.Members.{Members}
use Rattle.tables.specs.declared.records.NodeRecord.{NodeRecord}
use Rattle.desk.specs.declared.desk.Desk.{Desk}
use Rattle.desk.specs.Lists.{is_lawful}
use Rattle.desk.specs.Tables.{Tables}
use Rattle.desk.specs.Asking.{served}
use Rattle.starts.specs.declared.start.Start.{Start}
use Rattle.starts.specs.Grounds.{taking_part, leading, row_left, slots_left, version_left, read_start, write_start, regroup_start, may_read, may_write, may_regroup}
use Rattle.link.proofs.NotRefused.{then_both, and_both, so, rows_few, room_for_row, InGroup, in_group, Leading, leading_found}

-- an operation row is left, and frames can name it
pub record RowReady (desk : Desk) (t : Tables) : Type 0 where
  pub room : desk.operations_used < length t.operations
  pub named : desk.operations_used ≤ highest_operation

row_ready : (desk : Desk) (t : Tables) → served desk t ≡ Ok tt → row_left desk t.operations ≡ Ok tt → RowReady desk t
row_ready desk t open_so left =
    let room = room_for_row desk t.operations left in
    let few = rows_few desk t open_so in
    record { room = room; named = omega arith }

pub record ReadMet (desk : Desk) (t : Tables) (node : ℕ) (start : Start) : Type 0 where
  pub found : NodeRecord
  pub leading : Leading desk t.nodes node found
  pub ready : RowReady desk t
  pub is : read_start desk node found ≡ start

pub read_met : (desk : Desk) (t : Tables) (node : ℕ) (start : Start) → may_read desk t node ≡ Ok start → ReadMet desk t node start
read_met desk t node start may =
    let (_, open_so, asking) = and_both (served desk t) _ start may in
    let (found, leads, further) = then_both (leading desk t.nodes node) _ start asking in
    let (_, left, last) = and_both (row_left desk t.operations) _ start further in
    let (_, _, is) = and_both (slots_left t.frames found) (Ok (read_start desk node found)) start last in
    record { found = found; leading = leading_found desk t.nodes node found leads; ready = row_ready desk t open_so left; is = cc }

pub record WriteMet (desk : Desk) (t : Tables) (node : ℕ) (content : List ℕ) (start : Start) : Type 0 where
  pub found : NodeRecord
  pub leading : Leading desk t.nodes node found
  pub ready : RowReady desk t
  pub version_left : found.newest < highest_version
  pub is : write_start desk node found content ≡ start

pub write_met : (desk : Desk) (t : Tables) (node : ℕ) (content : List ℕ) (start : Start) → may_write desk t node content ≡ Ok start → WriteMet desk t node content start
write_met desk t node content start may =
    let (_, open_so, asking) = and_both (served desk t) _ start may in
    let (found, leads, further) = then_both (leading desk t.nodes node) _ start asking in
    let (_, left, versions) = and_both (row_left desk t.operations) _ start further in
    let (_, below, last) = and_both (version_left found) _ start versions in
    let (_, _, is) = and_both (slots_left t.frames found) (Ok (write_start desk node found content)) start last in
    record { found = found; leading = leading_found desk t.nodes node found leads; ready = row_ready desk t open_so left; version_left = grind (arith, nat_tests); is = cc }

pub record RegroupMet (desk : Desk) (t : Tables) (node : ℕ) (members : Members) (start : Start) : Type 0 where
  pub found : NodeRecord
  pub in_group : InGroup desk t.nodes node found
  pub ready : RowReady desk t
  pub is : regroup_start desk node found members ≡ start

pub regroup_met : (desk : Desk) (t : Tables) (node : ℕ) (members : Members) (start : Start) → may_regroup desk t node members ≡ Ok start → RegroupMet desk t node members start
regroup_met desk t node members start may =
    let (_, open_so, asking) = and_both (served desk t) _ start may in
    let (found, takes_part, further) = then_both (taking_part desk t.nodes node) _ start asking in
    let (_, rows) = so (is_lawful members desk.node_count) _ fault.Unlawful start further in
    let (_, left, last) = and_both (row_left desk t.operations) _ start rows in
    let (_, _, is) = and_both (slots_left t.frames found) (Ok (regroup_start desk node found members)) start last in
    record { found = found; in_group = in_group desk t.nodes node found takes_part; ready = row_ready desk t open_so left; is = cc }
