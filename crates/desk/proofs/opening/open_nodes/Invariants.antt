-- The records of the nodes so far are as at the opening.
use Rattle.std.proofs.Common.{◌≡◌}
use Rattle.desk.specs.Opening.{opened_nodes}
use Rattle.desk.proofs.opening.open_nodes.Given as goal

abbrev pub invariant-loop-place : goal.invariant-loop-place
invariant-loop-place l = l.nodes ≡ opened_nodes l.initial.nodes l.place l.members l.copy
