-- Which lists of members a host may hand over.
use Rattle.std.specs.Prelude.{ℕ, Bool, not, ◌&&◌, List, length, take, slice_index, ◌==◌, nat_lt, if◌then◌else◌}
use Rattle.std.specs.List.{range_with_len, list_all}
use Rattle.quorum.specs.Limits.{largest_group}
use Rattle.frame.specs.Fields.{among}
use Rattle.tables.specs.declared.members.Members.{Members}
use Rattle.desk.specs.Tables.{one_to}

-- A counted number is a node that is none of those before it, and not above the highest; any other is 0.
abbrev pub passes : ℕ → List ℕ → Bool → ℕ → Bool
passes node before counted highest = if counted then one_to highest node && not (among node before) else node == 0

-- the number at a place of the seven, of which the first `count` are counted
abbrev pub passes_at : Members → ℕ → ℕ → Bool
passes_at members highest place = passes (slice_index members.nodes place) (take place members.nodes) (nat_lt place members.count) highest

-- each of the seven numbers is what it may be
abbrev pub all_pass : Members → ℕ → Bool
all_pass members highest = list_all (passes_at members highest) (range_with_len 0 largest_group)

-- a lawful list, with no member above the highest: seven numbers, which are one to seven different nodes, then zeros
abbrev pub is_lawful : Members → ℕ → Bool
is_lawful members highest = length members.nodes == largest_group && all_pass members highest && one_to largest_group members.count
