use Rattle.std.proofs.Common.{refl, ◌∙◌, arith}
use Rattle.std.proofs.Math.Seq.{map-set_same}
use Rattle.chooser.proofs.Turns.{run_written, stay_on}
use Rattle.chooser.proofs.calls.play.Goals as goal

pub loop-turn-preserved : goal.loop-turn-preserved
loop-turn-preserved g c =
    let (run, same_calls, stay) = c.loop-turn.invariant in
    let done = c.make_call.ensures in (
      run_written g.S.Chooser.offering g.S.Chooser.working _ _ _ _ _ _ c.make_call.result (omega arith) run refl done.does,
      map-set_same _ _ _ _ _ refl ∙ same_calls,
      stay_on _ _ _ stay done.decisions_stay,
    )
