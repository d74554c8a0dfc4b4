use Rattle.std.proofs.Common.{◌≡◌, ◌<◌, ◌≤◌, true, sym, rules}
use Rattle.writer.specs.Table.{slots}
use Rattle.slots.specs.Slots.{is_empty}
use Rattle.slots.proofs.Lowest.{lowest_at, none_empty}
use Rattle.slots.proofs.table.lowest_from.Goals as goal

pub returns-then-is_empty-clause-lowest : goal.returns-then-is_empty-clause-lowest
returns-then-is_empty-clause-lowest c =
    let below : c.loop-slot.slot < slots c.args.frames.now = search rules in
    let empty : is_empty c.args.frames.now c.loop-slot.slot ≡ true = search rules in
    sym (lowest_at c.args.frames.now c.loop-slot.slot c.loop-slot.invariant below empty)

pub returns-clause-lowest : goal.returns-clause-lowest
returns-clause-lowest c =
    let past : slots c.args.frames.now ≤ c.loop-slot.slot = search rules in
    sym (none_empty c.args.frames.now c.loop-slot.slot c.loop-slot.invariant past)
