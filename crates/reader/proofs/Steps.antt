-- What the test of the members says, one member on: for the loop that goes through them.
use Rattle.std.proofs.Common.{◌≡◌, ℕ, ◌+◌, ◌<◌, ◌≤◌, List, length, drop, Ok, Result, arith, length-take, length-drop}
use Rattle.std.proofs.lemmas.List.FromFn.{get_or-map-range_with_len}
use Rattle.std.proofs.lemmas.List.{drop_more, drop_all}
use Rattle.std.specs.Result.{result_and}
use Rattle.quorum.specs.Limits.{largest_group}
use Rattle.frame.specs.declared.fault.FrameFault.{FrameFault}
use Rattle.frame.specs.Limits.{slot_size}
use Rattle.frame.specs.Fields.{verdict, judged, members_of, member_fields}
use Rattle.frame.proofs.Members.{member}

-- what members i and on answer
abbrev pub members_from : List ℕ → ℕ → Result (Unit {0}) FrameFault
members_from slot i = judged (drop i (member_fields slot)) tt

pub members_more : (slot : List ℕ) (i : ℕ) → i < length (members_of slot) → members_from slot i ≡ result_and (verdict (member slot i)) (members_from slot (i + 1))
members_more slot i inside =
    let below : i < largest_group = omega (arith, length-take largest_group (drop 5 slot)) in
    rw (drop_more (member_fields slot) i (member slot 0) below, get_or-map-range_with_len (member slot) 0 largest_group i i (member slot 0) below (omega arith))

pub members_end : (slot : List ℕ) (i : ℕ) → length slot ≡ slot_size → length (members_of slot) ≤ i → members_from slot i ≡ Ok tt
members_end slot i long past = rw (drop_all i (member_fields slot) (omega (arith, length-take largest_group (drop 5 slot), length-drop 5 slot)))
