use Rattle.slots.specs.Slots.{NoneBelow}
use Rattle.slots.proofs.table.lowest_from.Given as goal

-- no slot that was looked at is empty
abbrev pub invariant-loop-slot : goal.invariant-loop-slot
invariant-loop-slot l = NoneBelow l.frames l.slot
