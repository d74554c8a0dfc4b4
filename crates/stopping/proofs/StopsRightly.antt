-- Every call stops rightly.
use Rattle.std.proofs.Common.{Result}
use Rattle.calls.specs.declared.call.Answer.{Answer}
use Rattle.calls.specs.declared.call.Call.{Call}
use Rattle.calls.specs.declared.call.Call.TheVariants.{Open, Read, Write, Regroup, Propose, Settle, Work, Deliver, Lose, GiveUp, Stop, Look}
use Rattle.fault.specs.declared.Fault.{Fault}
use Rattle.floor.specs.State.{State}
use Rattle.law.specs.Runs.{Parts, Step}
use Rattle.stopping.specs.Grounds.{StopsRightly}
use Rattle.stopping.proofs.Delivering.{deliver_rightly}
use Rattle.stopping.proofs.Ending.{look_rightly, give_up_rightly, stop_rightly, lose_rightly}
use Rattle.stopping.proofs.Offering.{propose_rightly, work_rightly}
use Rattle.stopping.proofs.Opening.{open_rightly}
use Rattle.stopping.proofs.Settling.{settle_rightly}
use Rattle.stopping.proofs.Starting.{read_rightly, write_rightly, regroup_rightly}

pub stops_rightly : {C Q S : Type 0} (parts : Parts C Q S) (before : State Q S) (call : Call C) (answer : Result Answer Fault) (after : State Q S) → Step parts before call answer after
    → StopsRightly parts before call answer after
stops_rightly parts before (Open count members content) answer after step = open_rightly parts before answer after count members content step
stops_rightly parts before (Read node) answer after step = read_rightly parts before answer after node step
stops_rightly parts before (Write node content) answer after step = write_rightly parts before answer after node content step
stops_rightly parts before (Regroup node members) answer after step = regroup_rightly parts before answer after node members step
stops_rightly parts before (Propose operation) answer after step = propose_rightly parts before answer after operation step
stops_rightly parts before (Settle node) answer after step = settle_rightly parts before answer after node step
stops_rightly parts before (Work number phase ballot set) answer after step = work_rightly parts before answer after number phase ballot set step
stops_rightly parts before (Deliver slot) answer after step = deliver_rightly parts before answer after slot step
stops_rightly parts before (Lose slot) answer after step = lose_rightly parts before answer after slot step
stops_rightly parts before (GiveUp operation) answer after step = give_up_rightly parts before answer after operation step
stops_rightly parts before (Stop node) answer after step = stop_rightly parts before answer after node step
stops_rightly parts before (Look operation) answer after step = look_rightly parts before answer after operation step
