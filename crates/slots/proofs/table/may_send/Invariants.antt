use Rattle.std.proofs.Common.{◌≡◌, ◌+◌, ◌≤◌}
use Rattle.slots.specs.Slots.{empty_count}
use Rattle.slots.proofs.Numbered.{empty_from}
use Rattle.slots.proofs.table.may_send.Given as goal

-- those that were found, and those that are still to come
abbrev pub invariant-loop-slot : goal.invariant-loop-slot
invariant-loop-slot l = (l.found + empty_from l.frames l.slot ≡ empty_count l.frames) × (l.found ≤ l.slot)
