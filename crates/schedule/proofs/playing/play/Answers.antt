use Rattle.std.proofs.Common.{refl, ◌∙◌, arith}
use Rattle.std.proofs.lemmas.List.{take_all}
use Rattle.std.proofs.Math.Seq.{map-set_same}
use Rattle.law.specs.Runs.{parts}
use Rattle.schedule.proofs.Beginnings.{played_in_order}
use Rattle.schedule.proofs.Turns.{played_more}
use Rattle.schedule.proofs.playing.play.Goals as goal

pub loop-turn-preserved : goal.loop-turn-preserved
loop-turn-preserved g c =
    let (played, same_calls) = c.loop-turn.invariant in (
      played_more (parts g.C.Content.width g.C.Content.meaning g.C.Content.reads g.Q.QuorumRule.winning g.S.Chooser.decided g.S.Chooser.offering g.S.Chooser.working)
          _ _ _ c.loop-turn.turns c.loop-turn.turn-index _ c.make_call-answer.result (omega arith) played c.make_call-answer.ensures.does,
      map-set_same _ _ _ _ _ refl ∙ same_calls,
    )

pub returns-clause-played : goal.returns-clause-played
returns-clause-played g c =
    let these = parts g.C.Content.width g.C.Content.meaning g.C.Content.reads g.Q.QuorumRule.winning g.S.Chooser.decided g.S.Chooser.offering g.S.Chooser.working in
    let made = c.new-floor.ensures in
    let (played, same_calls) = c.loop-turn.invariant in
    let all = rw (take_all c.loop-turn.turn-index c.loop-turn.turns (omega arith)) at played in
    played_in_order these c.order_holds.ensures.every_run c.new-floor.result _ _ _ _ _ _ made.desk made.rule made.chooser c.loop-turn.turns _ all
