-- The limits of the host's tables.
use Rattle.std.specs.Prelude.{ℕ}

-- how many node records there are
abbrev pub node_records : ℕ
node_records = 16

-- the most operation rows, slots and proposal rows
abbrev pub most_operations : ℕ
most_operations = 4096

abbrev pub most_slots : ℕ
most_slots = 256

abbrev pub most_proposals : ℕ
most_proposals = 128
