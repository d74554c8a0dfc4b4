-- The loop ends where no receiver is left.
use Rattle.slots.proofs.UnderWay.{all_in_order, all_left_empty, all_kept}
use Rattle.slots.proofs.table.send.Goals as goal

pub returns-clause-in_order : goal.returns-clause-in_order
returns-clause-in_order g c = all_in_order c.loop-receiver.invariant.0 c.loop-receiver-test.false

pub returns-clause-left_empty : goal.returns-clause-left_empty
returns-clause-left_empty g c = all_left_empty c.loop-receiver.invariant.0 c.loop-receiver-test.false

pub returns-clause-others_stay : goal.returns-clause-others_stay
returns-clause-others_stay g c = all_kept c.loop-receiver.invariant.0 c.loop-receiver-test.false
