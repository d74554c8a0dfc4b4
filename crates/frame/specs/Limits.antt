-- The bounds of what a frame may hold.
use Rattle.std.specs.Prelude.{ℕ}

-- how many bytes a slot has
abbrev pub slot_size : ℕ
slot_size = 32

-- nodes are numbered from 1 to this
abbrev pub highest_node : ℕ
highest_node = 16

-- configurations are numbered from 0 to this
abbrev pub highest_number : ℕ
highest_number = 16

-- operations are numbered from 0 to this
abbrev pub highest_operation : ℕ
highest_operation = 4095

-- the versions of tags go from 0 to this
abbrev pub highest_version : ℕ
highest_version = 9999
