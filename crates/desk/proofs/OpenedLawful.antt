-- An opening leaves lawful tables, whatever they were before.
use Rattle.std.proofs.Common.{◌≡◌, ℕ, zero, suc, ◌<◌, ◌≤◌, not, true, false, Bool, List, [], ◌∷◌, ◌++◌, map, drop, length, Result, Ok, Err, inl, refl, ap, sym, subst, slice_get, arith}
use Rattle.std.specs.List.{range_with_len}
use Rattle.std.specs.Option.{IfSome}
use Rattle.std.specs.Result.{IfOk}
use Rattle.std.proofs.lemmas.Bool.Decides.{nat_tests}
use Rattle.std.proofs.lemmas.List.FromFn.{length-range_with_len}
use Rattle.fault.specs.declared.Fault.{Fault}
use Rattle.fault.specs.declared.Fault.TheVariants.{AlreadyOpen, TableLength, NodeCount, Unlawful}
use Rattle.frame.specs.Limits.{highest_node}
use Rattle.tables.specs.declared.members.Members.{Members}
use Rattle.tables.specs.declared.records.NodeRecord.{NodeRecord}
use Rattle.tables.specs.Lawful.{LawfulList, LawfulNode, LawfulSheetCopy}
use Rattle.desk.specs.declared.desk.Desk.{Desk}
use Rattle.desk.specs.Asking.{record_of}
use Rattle.desk.specs.LawfulTables.{LawfulTables}
use Rattle.desk.specs.Limits.{node_records}
use Rattle.desk.specs.Lists.{is_lawful}
use Rattle.desk.specs.Opening.{may_open, opening_copy, opening_record, opened_nodes, opened, open_step}
use Rattle.desk.specs.Tables.{Tables, one_to, allowed_lengths}
use Rattle.desk.proofs.Results.{where_false}

-- what holds of all that a function makes holds in a list that begins with what it makes of some numbers
made_first : {X : Type 0} (P : X → Type 0) (make : ℕ → X) → ((n : ℕ) → P (make n)) → (numbers : List ℕ) (rest : List X) (place : ℕ) → place < length numbers
    → IfSome (slice_get (map make numbers ++ rest) place) P
made_first P make each [] rest place inside = absurd (omega arith)
made_first P make each (n ∷ numbers) rest zero inside = each n
made_first P make each (n ∷ numbers) rest (suc place) inside = made_first P make each numbers rest place (omega arith)

-- Of this kind of content, with a lawful list of members.
module _ {C : Type 0} (meaning : C → List ℕ) (members : Members) (members_lawful : LawfulList members) (content : C) where
  copy_lawful : LawfulSheetCopy meaning (opening_copy (meaning content))
  copy_lawful = record { tag_lawful = inl (refl, refl); content_lawful = (content, refl) }

  record_lawful : (node : ℕ) → LawfulNode meaning (opening_record members (opening_copy (meaning content)) node)
  record_lawful node = record {
    configuration_lawful = record { number_bounded = omega arith; members_lawful = members_lawful; opening_lawful = inl (refl, refl) };
    stored_lawful = copy_lawful;
    served_lawful = copy_lawful;
    newest_bounded = omega arith;
  }

  nodes_lawful : (nodes : List NodeRecord) (count node : ℕ) → node ≤ count → IfSome (record_of (opened_nodes nodes count members (opening_copy (meaning content))) node) (LawfulNode meaning)
  nodes_lawful nodes count zero within = tt
  nodes_lawful nodes count (suc place) within =
      made_first (LawfulNode meaning) (λ place. opening_record members (opening_copy (meaning content)) (suc place)) (λ place. record_lawful (suc place))
      (range_with_len 0 count) (drop count nodes) place (omega (arith, length-range_with_len 0 count))

-- what an opening that does not stop has found out
abbrev Found : ℕ → Members → Type 0
Found count members = (one_to node_records count ≡ true) × (is_lawful members count ≡ true)

unfailed : (test : Bool) → not test ≡ false → test ≡ true
unfailed test fails = grind arith

opening_found : (desk : Desk) (t : Tables) (count : ℕ) (members : Members) → IfOk (may_open desk t count members) (λ _. Found count members)
opening_found desk t count members =
    where_false (λ _. Found count members) desk.is_open _ AlreadyOpen (λ _.
    where_false (λ _. Found count members) (not (allowed_lengths t)) _ TableLength (λ _.
    where_false (λ _. Found count members) (not (one_to node_records count)) _ NodeCount (λ counted.
    where_false (λ _. Found count members) (not (is_lawful members count)) (Ok tt) Unlawful (λ taken.
    (unfailed _ counted, unfailed _ taken)))))

-- The list of members is lawful if it is taken for that.
module _ {C : Type 0} (meaning : C → List ℕ) (desk : Desk) (t : Tables) (count : ℕ) (members : Members) (members_lawful : count ≤ highest_node → is_lawful members count ≡ true → LawfulList members) (content : C) where
  abbrev left : Result (Unit {0}) Fault → Result (Unit {0}) Fault × Desk × Tables
  left answer = opened desk t count members (meaning content) answer

  opened_lawful : (answer : Result (Unit {0}) Fault) → IfOk answer (λ _. Found count members) → (left answer).0 ≡ Ok tt → LawfulTables meaning (left answer).1 (left answer).2
  opened_lawful (Ok _) found taken = record {
    nodes_lawful = nodes_lawful meaning members (members_lawful (grind (arith, nat_tests, found.0)) found.1) content t.nodes count;
    operations_lawful = λ operation below. absurd (omega arith);
    proposals_lawful = λ proposal below. absurd (omega arith);
    nodes_counted = grind (arith, nat_tests, found.0);
  }
  opened_lawful (Err fault) found taken = absurd cc

  -- What an opening left is lawful where it was taken.
  pub open_makes_lawful : (after : Result (Unit {0}) Fault × Desk × Tables) → after ≡ open_step desk t count members (meaning content) → after.0 ≡ Ok tt → LawfulTables meaning after.1 after.2
  open_makes_lawful after same taken =
      subst (λ (after : Result (Unit {0}) Fault × Desk × Tables). LawfulTables meaning after.1 after.2) (sym same)
      (opened_lawful (may_open desk t count members) (opening_found desk t count members) (cc (ap (λ (after : Result (Unit {0}) Fault × Desk × Tables). after.0) same)))
