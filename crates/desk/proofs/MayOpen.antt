-- An opening that does not stop has a record for each of its nodes.
use Rattle.std.proofs.Common.{◌≡◌, ℕ, ◌≤◌, Bool, not, true, ◌&&◌, length, Ok, Err, Result, arith}
use Rattle.std.specs.Prelude.{if◌then◌else◌, ◌==◌}
use Rattle.fault.specs.declared.Fault.{Fault}
use Rattle.fault.specs.declared.Fault.TheVariants.{AlreadyOpen, TableLength, NodeCount, Unlawful}
use Rattle.desk.specs.Limits.{node_records}
use Rattle.desk.specs.Lists.{is_lawful}
use Rattle.std.proofs.lemmas.Bool.Decides.{nat_tests}
use Rattle.tables.specs.declared.members.Members.{Members}
use Rattle.desk.specs.declared.desk.Desk.{Desk}
use Rattle.desk.specs.Tables.{Tables, one_to, allowed_lengths}
use Rattle.desk.specs.Opening.{may_open}

-- An opening that does not stop has met neither the second ground nor the third, whatever faults they stop it with.
two_met : (is_open lengths count lawful : Bool) (one two three four : Fault)
    → ◌≡◌ {A = Result (Unit {0}) Fault} (if is_open then Err one else if not lengths then Err two else if not count then Err three else if not lawful then Err four else Ok tt) (Ok tt)
    → (lengths ≡ true) × (count ≡ true)
two_met is_open lengths count lawful one two three four met = grind arith

-- where four hold, the first does
first_of : (one two three four : Bool) → (one && two && three && four) ≡ true → one ≡ true
first_of one two three four all = grind arith

-- There are 16 records then, and 1 to 16 nodes.
pub opened_have_records : (desk : Desk) (t : Tables) (count : ℕ) (members : Members) → may_open desk t count members ≡ Ok tt → count ≤ length t.nodes
opened_have_records desk t count members may =
    let (lengths, counted) = two_met desk.is_open (allowed_lengths t) (one_to node_records count) (is_lawful members count) AlreadyOpen TableLength NodeCount Unlawful may in
    let sixteen : (length t.nodes == node_records) ≡ true = first_of (length t.nodes == node_records) _ _ _ lengths in
    grind (arith, nat_tests)
