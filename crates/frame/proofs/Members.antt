-- The members of an update pass exactly if they are lawful.
use Rattle.std.proofs.Common.{◌≡◌, ℕ, ◌+◌, ◌<◌, ◌≤◌, true, false, ◌&&◌, eqb, leb, List, length, get_or, take, arith}
use Rattle.std.proofs.lemmas.List.FromFn.{get_or-map-range_with_len}
use Rattle.std.proofs.lemmas.List.{get_or-take, length-take-le}
use Rattle.std.proofs.lemmas.List.Elements.{All-from_get_or as all_from_each, All-from_recursion}
use Rattle.std.proofs.lemmas.List.Folds.{list_any_at, list_any_none}
use Rattle.std.proofs.lemmas.Bool.Decides.{nat_tests}
use Rattle.quorum.specs.Limits.{largest_group}
use Rattle.frame.specs.Fields.{Test, byte_at, members_of, field, among, member_passes, member_fields}
use Rattle.frame.specs.Lawful.{LawfulMembers}
use Rattle.frame.proofs.Runs.{Pass}

-- lawful members pass, one by one
pub member_passes_lawful : (count : ℕ) (members : List ℕ) → LawfulMembers count members → (i : ℕ) → i < largest_group → member_passes members count i ≡ true
member_passes_lawful count members lawful i inside =
    let x = get_or members i 0 in
    let new : i < count → among x (take i members) ≡ false = λ first.
    list_any_none (λ b. eqb b x) (take i members) (all_from_each (λ b. eqb b x ≡ false) (take i members) 0 (λ j before.
    grind (arith, nat_tests, lawful.different j i, get_or-take {A = ℕ}, length-take-le {A = ℕ}))) in
    grind (arith, nat_tests)

-- and members that pass are lawful
pub members_from_pass : (count : ℕ) (members : List ℕ) → ((i : ℕ) → i < largest_group → member_passes members count i ≡ true) → (leb 1 count && leb count largest_group) ≡ true
    → length members ≡ largest_group → LawfulMembers count members
members_from_pass count members pass counts seven =
    let counted : (1 ≤ count) × (count ≤ largest_group) = grind (arith, nat_tests) in
    record {
      seven = seven;
      counted = counted;
      nodes = λ i first. grind (arith, nat_tests, pass i);
      different = λ i j before first same.
          grind (arith, nat_tests, pass j, list_any_at (λ b. eqb b (get_or members j 0)) (take j members) i 0, get_or-take {A = ℕ}, length-take-le {A = ℕ});
      then_zeros = λ i other inside. grind (arith, nat_tests, pass i);
    }

-- of the run of the seven members each passes
module _ (slot : List ℕ) where
  abbrev pub member : ℕ → Test
  member i = field (member_passes (members_of slot) (byte_at slot 4) i) (5 + i)

  pub member_from_pass : Pass (member_fields slot) → (i : ℕ) → i < largest_group → member_passes (members_of slot) (byte_at slot 4) i ≡ true
  member_from_pass pass i inside =
      rw (get_or-map-range_with_len member 0 largest_group i i (member 0) inside (omega arith)) at
      (All-from_recursion (λ (test : Test). test.passes ≡ true) (member_fields slot) pass i (member 0) inside)
