use Rattle.schedule.proofs.Looking.{refused_look, answered_look}
use Rattle.schedule.proofs.making.look.Goals as goal

pub returns-in-Err : goal.returns-in-Err
returns-in-Err g c = refused_look _ _ _ _ _ c.in-Err.is c.look.ensures

pub returns-in-Ok : goal.returns-in-Ok
returns-in-Ok g c = answered_look _ _ _ _ c.in-Ok.is c.look.ensures
