-- What a list that is taken for lawful holds.
use Rattle.std.proofs.Common.{◌≡◌, ℕ, ◌+◌, ◌<◌, ◌≤◌, true, Bool, ◌&&◌, ◌==◌, length, take, arith, slice_index, take_all}
use Rattle.std.specs.List.{range_with_len, list_all}
use Rattle.std.specs.Cmp.Derive.{both_true}
use Rattle.std.proofs.lemmas.Bool.Decides.{nat_tests}
use Rattle.quorum.specs.Limits.{largest_group}
use Rattle.frame.specs.Fields.{member_passes}
use Rattle.frame.specs.Limits.{highest_node}
use Rattle.frame.proofs.Members.{members_from_pass, member_passes_lawful}
use Rattle.tables.specs.declared.members.Members.{Members}
use Rattle.tables.specs.Lawful.{LawfulList}
use Rattle.desk.specs.Tables.{one_to}
use Rattle.desk.specs.Lists.{passes_at, all_pass, is_lawful}
use Rattle.desk.proofs.Ranges.{all_before_next, each_of_all, all_of_each}

-- whether the numbers before a place of the seven are what they may be
abbrev pub pass_before : Members → ℕ → ℕ → Bool
pass_before members highest place = list_all (passes_at members highest) (take place (range_with_len 0 largest_group))

-- those before the next place are, if those before this one are and its own number is
pub pass_before_next : (members : Members) (highest place : ℕ) → place < largest_group
    → pass_before members highest (place + 1) ≡ (pass_before members highest place && passes_at members highest place)
pass_before_next members highest place inside = all_before_next (passes_at members highest) largest_group place inside

-- those before the end are, if all are
pub pass_before_end : (members : Members) (highest place : ℕ) → largest_group ≤ place → pass_before members highest place ≡ all_pass members highest
pass_before_end members highest place past = rw (take_all place (range_with_len 0 largest_group) past)

-- With a highest node that frames can name, such a number passes as the member of an update.
passes_in_a_frame : (members : Members) (highest place : ℕ) → highest ≤ highest_node → passes_at members highest place ≡ true → member_passes members.nodes members.count place ≡ true
passes_in_a_frame members highest place bounded passes = grind (arith, nat_tests)

-- where three hold together, each does
all_hold : (one other third : Bool) → (one && other && third) ≡ true → (one ≡ true) × (other ≡ true) × (third ≡ true)
all_hold one other third all = (grind arith, grind arith, grind arith)

-- What is taken for lawful has seven numbers, each of which passes, and one to seven members.
is_taken : (members : Members) (highest : ℕ) → is_lawful members highest ≡ true
    → (length members.nodes ≡ largest_group) × (all_pass members highest ≡ true) × (one_to largest_group members.count ≡ true)
is_taken members highest taken =
    let (seven, pass, counted) = all_hold (length members.nodes == largest_group) (all_pass members highest) (one_to largest_group members.count) taken in
    (grind (arith, nat_tests), pass, counted)

-- Such a list is taken.
pub takes : (members : Members) (highest : ℕ) → length members.nodes ≡ largest_group → all_pass members highest ≡ true → one_to largest_group members.count ≡ true → is_lawful members highest ≡ true
takes members highest seven pass counted = both_true (both_true (grind (arith, nat_tests)) pass) counted

-- A list that is taken for lawful is lawful, if the highest node is one that frames can name.
pub taken_is_lawful : (members : Members) (highest : ℕ) → highest ≤ highest_node → is_lawful members highest ≡ true → LawfulList members
taken_is_lawful members highest bounded taken =
    let (seven, pass, counted) = is_taken members highest taken in
    members_from_pass members.count members.nodes
    (λ place inside. passes_in_a_frame members highest place bounded (each_of_all (passes_at members highest) largest_group place pass inside))
    counted seven

-- None of its members is above the highest node.
pub members_bounded : (members : Members) (highest place : ℕ) → is_lawful members highest ≡ true → place < members.count → slice_index members.nodes place ≤ highest
members_bounded members highest place taken inside =
    let (_, pass, counted) = is_taken members highest taken in
    let below_seven : place < largest_group = grind (arith, nat_tests) in
    let passes = each_of_all (passes_at members highest) largest_group place pass below_seven in
    grind (arith, nat_tests, passes)

-- Of a lawful list with no member above the highest node each number passes,
pub lawful_pass : (members : Members) (highest : ℕ) → LawfulList members → ((place : ℕ) → place < members.count → slice_index members.nodes place ≤ highest)
    → all_pass members highest ≡ true
lawful_pass members highest lawful bounded =
    all_of_each (passes_at members highest) largest_group
    (λ place inside. grind (arith, nat_tests, member_passes_lawful members.count members.nodes lawful place inside, bounded place))

-- and one to seven are counted.
pub lawful_are_counted : (members : Members) → LawfulList members → one_to largest_group members.count ≡ true
lawful_are_counted members lawful = grind (arith, nat_tests, lawful.counted)
