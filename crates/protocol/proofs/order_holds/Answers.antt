use Rattle.protocol.proofs.OrderHolds.{order_holds, linearizable, tags_compare}
use Rattle.protocol.proofs.order_holds.Goals as goal

pub returns-clause-order : goal.returns-clause-order
returns-clause-order c = order_holds

pub returns-clause-line : goal.returns-clause-line
returns-clause-line c = linearizable

pub returns-clause-tags : goal.returns-clause-tags
returns-clause-tags c = tags_compare
