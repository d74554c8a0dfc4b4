use Rattle.std.proofs.Common.{rules}
use Rattle.stopping.proofs.StopsRightly.{stops_rightly}
use Rattle.schedule.proofs.making.make_call.Goals as goal

-- What the call did shows that it stopped rightly.

pub returns-in-Open-clause-stops_rightly : goal.returns-in-Open-clause-stops_rightly
returns-in-Open-clause-stops_rightly g c = stops_rightly _ _ _ _ _ (search rules)

pub returns-in-Read-clause-stops_rightly : goal.returns-in-Read-clause-stops_rightly
returns-in-Read-clause-stops_rightly g c = stops_rightly _ _ _ _ _ (search rules)

pub returns-in-Write-clause-stops_rightly : goal.returns-in-Write-clause-stops_rightly
returns-in-Write-clause-stops_rightly g c = stops_rightly _ _ _ _ _ (search rules)

pub returns-in-Regroup-clause-stops_rightly : goal.returns-in-Regroup-clause-stops_rightly
returns-in-Regroup-clause-stops_rightly g c = stops_rightly _ _ _ _ _ (search rules)

pub returns-in-Propose-clause-stops_rightly : goal.returns-in-Propose-clause-stops_rightly
returns-in-Propose-clause-stops_rightly g c = stops_rightly _ _ _ _ _ (search rules)

pub returns-in-Settle-clause-stops_rightly : goal.returns-in-Settle-clause-stops_rightly
returns-in-Settle-clause-stops_rightly g c = stops_rightly _ _ _ _ _ (search rules)

pub returns-in-Work-clause-stops_rightly : goal.returns-in-Work-clause-stops_rightly
returns-in-Work-clause-stops_rightly g c = stops_rightly _ _ _ _ _ (search rules)

pub returns-in-Deliver-clause-stops_rightly : goal.returns-in-Deliver-clause-stops_rightly
returns-in-Deliver-clause-stops_rightly g c = stops_rightly _ _ _ _ _ (search rules)

pub returns-in-Lose-clause-stops_rightly : goal.returns-in-Lose-clause-stops_rightly
returns-in-Lose-clause-stops_rightly g c = stops_rightly _ _ _ _ _ (search rules)

pub returns-in-GiveUp-clause-stops_rightly : goal.returns-in-GiveUp-clause-stops_rightly
returns-in-GiveUp-clause-stops_rightly g c = stops_rightly _ _ _ _ _ (search rules)

pub returns-in-Stop-clause-stops_rightly : goal.returns-in-Stop-clause-stops_rightly
returns-in-Stop-clause-stops_rightly g c = stops_rightly _ _ _ _ _ (search rules)

pub returns-in-Look-clause-stops_rightly : goal.returns-in-Look-clause-stops_rightly
returns-in-Look-clause-stops_rightly g c = stops_rightly _ _ _ _ _ (search rules)
