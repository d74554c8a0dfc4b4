use Rattle.slots.specs.Slots.{NoneBelow}
use Rattle.slots.proofs.UnderWay.{UnderWay}
use Rattle.slots.proofs.table.send.Given as goal

abbrev pub invariant-loop-receiver : goal.invariant-loop-receiver
invariant-loop-receiver g l = UnderWay g.C.Content.width l.initial.frames l.receivers l.letter l.receiver-index l.frames × NoneBelow l.frames l.from
