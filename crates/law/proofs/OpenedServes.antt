-- An opening that is taken leaves tables that the floor serves.
use Rattle.std.proofs.Common.{◌≡◌, ℕ, ◌≤◌, true, List, length, Ok, refl, arith, length-append}
use Rattle.std.specs.Prelude.{not}
use Rattle.std.proofs.lemmas.Bool.{not-false, eq-eqb}
use Rattle.std.proofs.lemmas.List.{length-drop, length-replicate}
use Rattle.std.proofs.lemmas.List.FromFn.{length-map-range_with_len}
use Rattle.desk.proofs.MayOpen.{opened_have_records}
use Rattle.desk.specs.Asking.{served}
use Rattle.desk.specs.declared.desk.Desk.{Desk}
use Rattle.desk.specs.declared.desk.Lengths.{Lengths}
use Rattle.desk.specs.Opening.{may_open, opened, opened_nodes, opening_copy}
use Rattle.desk.specs.Tables.{Tables, allowed_lengths, lengths_of, same_lengths}
use Rattle.fault.specs.declared.Fault.TheVariants.{AlreadyOpen, TableLength}
use Rattle.law.proofs.Passing.{test_stops_not}
use Rattle.tables.specs.declared.copy.SheetCopy.{SheetCopy}
use Rattle.tables.specs.declared.members.Members.{Members}
use Rattle.tables.specs.declared.records.NodeRecord.{NodeRecord}

-- an opening that no ground stops found tables of lengths that are allowed
lengths_allowed : (desk : Desk) (t : Tables) (count : ℕ) (members : Members) → may_open desk t count members ≡ Ok tt → allowed_lengths t ≡ true
lengths_allowed desk t count members may =
    let (_, rest) = test_stops_not desk.is_open _ AlreadyOpen tt may in
    let (allowed, _) = test_stops_not (not (allowed_lengths t)) _ TableLength tt rest in
    not-false _ allowed

opened_length : (nodes : List NodeRecord) (count : ℕ) (members : Members) (copy : SheetCopy) → count ≤ length nodes → length (opened_nodes nodes count members copy) ≡ length nodes
opened_length nodes count members copy inside =
    simp (length-append, length-drop, length-map-range_with_len) (omega (arith, inside))

lengths_same : (lengths : Lengths) → same_lengths lengths lengths ≡ true
lengths_same lengths = rw (eq-eqb lengths.operations lengths.operations refl, eq-eqb lengths.frames lengths.frames refl, eq-eqb lengths.proposals lengths.proposals refl) refl

pub opened_serves : (desk : Desk) (t : Tables) (count : ℕ) (members : Members) (content : List ℕ) → may_open desk t count members ≡ Ok tt
    → served (opened desk t count members content (Ok tt)).1 (opened desk t count members content (Ok tt)).2 ≡ Ok tt
opened_serves desk t count members content may =
    let nodes = opened_length t.nodes count members (opening_copy content) (opened_have_records desk t count members may) in
    let frames = length-replicate {A = ℕ} (length t.frames) 0 in
    let allowed = lengths_allowed desk t count members may in
    let alike = lengths_same (lengths_of t.operations t.frames t.proposals) in
    rw (nodes, frames, allowed, alike) refl
