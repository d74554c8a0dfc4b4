use Rattle.std.proofs.Common.{◌≡◌, take}
use Rattle.floor.specs.State.{state}
use Rattle.law.specs.Runs.{parts, calls_of, Played}
use Rattle.schedule.proofs.playing.play.Given as goal

-- the turns so far were played; no call has changed
abbrev pub invariant-loop-turn : goal.invariant-loop-turn
invariant-loop-turn g l =
    Played (parts g.C.Content.width g.C.Content.meaning g.C.Content.reads g.Q.QuorumRule.winning g.S.Chooser.decided g.S.Chooser.offering g.S.Chooser.working)
    (state l.initial.floor l.initial.nodes l.initial.operations l.initial.frames l.initial.proposals) (take l.turn-index l.turns)
    (state l.floor l.nodes l.operations l.frames l.proposals)
    × (calls_of l.turns ≡ calls_of l.initial.turns)
