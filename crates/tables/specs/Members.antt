-- Lists of members.
use Rattle.std.specs.Prelude.{ℕ, ◌-◌, List, ◌++◌, length, take, replicate, slice_index, Option, ◌==◌}
use Rattle.std.specs.List.{position}
use Rattle.quorum.specs.Limits.{largest_group}
use Rattle.tables.specs.declared.members.Members.{Members}

-- the members, in their order
abbrev pub listed : Members → List ℕ
listed members = take members.count members.nodes

-- how many there are
abbrev pub size : Members → ℕ
size members = length (listed members)

-- the first; 0 where there is none
abbrev pub primary : Members → ℕ
primary members = slice_index (listed members) 0

-- the place of a node among the members, counted from 0
abbrev pub place_of : Members → ℕ → Option ℕ
place_of members node = position (λ member. member == node) (listed members)

-- The list of these members: their numbers and zeros up to seven. Those behind the seventh have no place.
abbrev pub list_of : List ℕ → Members
list_of members = record {
  nodes = take largest_group members ++ replicate (largest_group - length (take largest_group members)) 0;
  count = length (take largest_group members);
}
