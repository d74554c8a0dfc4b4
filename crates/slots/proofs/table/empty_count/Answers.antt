-- `filter` goes over the table's slots, and `count` says how many it lets through.
use Rattle.std.proofs.Common.{rules, tests, ◌∙◌}
use Rattle.std.proofs.lemmas.Iterator.{YieldsList-from_slice}
use Rattle.std.proofs.lemmas.Iterator.Consumers.{count_from_yields_List, YieldsList-from_filter}
use Rattle.slots.proofs.Numbered.{chunks, begins_zero, count_in_chunks}
use Rattle.slots.proofs.table.empty_count.Goals as goal

pub returns : goal.returns
returns c =
    count_from_yields_List c.filter.result c.count.result c.count.ensures.ran
    (YieldsList-from_filter _ begins_zero (YieldsList-from_slice (chunks c.args.frames.now) (cc)) c.filter.ensures.closure (λ slot passes q call. search (rules, tests)))
    ∙ count_in_chunks c.args.frames.now
