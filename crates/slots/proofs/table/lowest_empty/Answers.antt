-- `position` goes over the table's slots.
use Rattle.std.proofs.Common.{◌≡◌, rules, tests, arith}
use Rattle.std.specs.List.{position}
use Rattle.std.proofs.lemmas.Iterator.{YieldsList-from_slice}
use Rattle.std.proofs.lemmas.Iterator.Search.{position_from_yields_List}
use Rattle.slots.proofs.Numbered.{chunks, begins_zero, first_in_chunks}
use Rattle.slots.proofs.table.lowest_empty.Goals as goal

pub returns : goal.returns
returns c =
    let first : c.position.result ≡ position begins_zero (chunks c.args.frames.now) =
    position_from_yields_List begins_zero _ _ c.position.result c.position.ensures.ran (YieldsList-from_slice (chunks c.args.frames.now) (cc)) (λ slot passes q call. search (rules, tests)) in
    grind (arith, first, first_in_chunks c.args.frames.now)
