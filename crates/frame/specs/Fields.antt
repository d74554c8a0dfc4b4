-- The fields of a frame in their order, each with its test, and the first that fails.
use Rattle.std.specs.Prelude.{ℕ, ◌+◌, ◌*◌, Bool, not, ◌&&◌, List, [], ◌∷◌, map, take, drop, is_some, Ok, Err, Option, Result, ◌==◌, nat_le, nat_lt, slice_index, if◌then◌else◌}
use Rattle.std.specs.List.{range_with_len, list_all, list_any}
use Rattle.std.specs.Result.{result_and}
use Rattle.quorum.specs.Limits.{largest_group}
use Rattle.frame.specs.declared.fault.Cause.{Cause}
use Rattle.frame.specs.declared.fault.Cause.TheVariants.{Field, Content, Rest}
use Rattle.frame.specs.declared.fault.FrameFault.{FrameFault}
use Rattle.frame.specs.Faults.{fault}
use Rattle.frame.specs.Limits.{highest_node, highest_number, highest_operation, highest_version}

-- the byte at a place of the slot
abbrev pub byte_at : List ℕ → ℕ → ℕ
byte_at slot i = slice_index slot i

-- the number of two bytes, the high one first
abbrev pub word_at : List ℕ → ℕ → ℕ
word_at slot i = byte_at slot i * 256 + byte_at slot (i + 1)

-- the seven members of an update
abbrev pub members_of : List ℕ → List ℕ
members_of slot = take largest_group (drop 5 slot)

-- all are 0
abbrev pub all_zero : List ℕ → Bool
all_zero bs = list_all (λ b. b == 0) bs

-- x is among them
abbrev pub among : ℕ → List ℕ → Bool
among x bs = list_any (λ b. b == x) bs

-- from 1 to 16
abbrev pub is_node : ℕ → Bool
is_node n = nat_le 1 n && nat_le n highest_node

-- the test of a field: whether its bytes pass, the cause if they do not, and the offset of its first byte
pub record Test : Type 0 where
  pub passes : Bool
  pub cause : Cause
  pub offset : ℕ

abbrev pub test : Bool → Cause → ℕ → Test
test passes cause offset = record { passes = passes; cause = cause; offset = offset }

-- of a field that is neither content nor rest
abbrev pub field : Bool → ℕ → Test
field passes offset = test passes Field offset

-- nothing, or the fault of a field that does not pass
abbrev pub verdict : Test → Result (Unit {0}) FrameFault
verdict t = if t.passes then Ok tt else Err (fault t.cause t.offset)

-- the fault of the first field that fails, or the answer if all pass
abbrev pub judged : {X : Type 0} → List Test → X → Result X FrameFault
judged [] answer = Ok answer
judged (t ∷ tests) answer = result_and (verdict t) (judged tests answer)

-- the same for runs of fields, one behind the other
abbrev pub judged_runs : {X : Type 0} → List (List Test) → X → Result X FrameFault
judged_runs [] answer = Ok answer
judged_runs (run ∷ runs) answer = result_and (judged {X = Unit {0}} run tt) (judged_runs runs answer)

-- receiver, sender
abbrev pub route_fields : List ℕ → List Test
route_fields slot = field (is_node (byte_at slot 1)) 1 ∷ field (is_node (byte_at slot 2)) 2 ∷ []

-- number, operation
abbrev pub number_operation_fields : List ℕ → List Test
number_operation_fields slot = field (nat_le (byte_at slot 3) highest_number) 3 ∷ field (nat_le (word_at slot 4) highest_operation) 4 ∷ []

-- number, count
abbrev pub number_count_fields : List ℕ → List Test
number_count_fields slot =
    field (nat_le 1 (byte_at slot 3) && nat_le (byte_at slot 3) highest_number) 3
    ∷ field (nat_le 1 (byte_at slot 4) && nat_le (byte_at slot 4) largest_group) 4 ∷ []

-- Member i of the seven passes: one of the first `count` is a node that is none of those before it, another is 0.
abbrev pub member_passes : List ℕ → ℕ → ℕ → Bool
member_passes members count i =
    if nat_lt i count
    then is_node (slice_index members i) && not (among (slice_index members i) (take i members))
    else slice_index members i == 0

-- the seven members
abbrev pub member_fields : List ℕ → List Test
member_fields slot = map (λ i. field (member_passes (members_of slot) (byte_at slot 4) i) (5 + i)) (range_with_len 0 largest_group)

-- A tag's node suits its version: 0 the version 0, a node any other.
abbrev pub node_suits : ℕ → ℕ → Bool
node_suits version node = if version == 0 then node == 0 else is_node node

-- a tag that begins at byte i: version, node
abbrev pub tag_fields : List ℕ → ℕ → List Test
tag_fields slot i =
    field (nat_le (word_at slot i) highest_version) i ∷ field (node_suits (word_at slot i) (byte_at slot (i + 2))) (i + 2) ∷ []

-- a content of this width that begins at byte i
abbrev pub content_fields : {C : Type 0} → ℕ → (List ℕ → Option C) → List ℕ → ℕ → List Test
content_fields width reads slot i = test (is_some (reads (take width (drop i slot)))) Content i ∷ []

-- the rest of the slot, from byte i on
abbrev pub rest_test : List ℕ → ℕ → Test
rest_test slot i = test (all_zero (drop i slot)) Rest i
