-- The loop writes the record of the next node.
use Rattle.std.proofs.Common.{arith, ◌<◌, length}
use Rattle.desk.proofs.OpenedNodes.{node_opened}
use Rattle.desk.proofs.opening.open_nodes.Goals as goal

pub loop-place-preserved : goal.loop-place-preserved
loop-place-preserved c =
    let inside : c.loop-place.place < length c.args.nodes.now = omega arith in
    grind (arith, node_opened c.args.nodes.now c.args.members c.args.copy c.loop-place.place inside)
