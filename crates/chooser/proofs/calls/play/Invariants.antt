use Rattle.std.proofs.Common.{◌≡◌, take}
use Rattle.chooser.specs.Runs.{Run, calls_of, DecisionsStay}
use Rattle.chooser.proofs.calls.play.Given as goal

-- the turns so far are a run; no call has changed
abbrev pub invariant-loop-turn : goal.invariant-loop-turn
invariant-loop-turn g l =
    Run g.S.Chooser.offering g.S.Chooser.working l.initial.chooser (take l.turn-index l.turns) l.chooser
    × (calls_of l.turns ≡ calls_of l.initial.turns)
    × DecisionsStay (g.S.Chooser.decided l.initial.chooser) (g.S.Chooser.decided l.chooser)
