use Rattle.std.proofs.Common.{◌≡◌, ◌<◌, length, rules}
use Rattle.frame.specs.Limits.{slot_size}
use Rattle.writer.specs.Table.{slots}
use Rattle.slots.specs.Slots.{NoneBelow}
use Rattle.slots.proofs.Lowest.{none_below_next}
use Rattle.slots.proofs.table.fill_next.Goals as goal

-- the frame was copied over the slot
pub returns-clause-none_below : goal.returns-clause-none_below
returns-clause-none_below c =
    let none : NoneBelow c.args.frames.now c.in-Some.slot = c.lowest_from.ensures.none_below c.in-Some.slot c.in-Some.is in
    let below : c.in-Some.slot < slots c.args.frames.now = c.lowest_from.ensures.inside c.in-Some.slot c.in-Some.is in
    let same : c.copy_from_slice.new.self ≡ c.args.frame.now = search rules in
    let whole : length c.args.frame.now ≡ slot_size = search rules in
    none_below_next c.args.frames.now c.args.frame.now c.copy_from_slice.new.self c.in-Some.slot none below same whole c.requires.is_frame
