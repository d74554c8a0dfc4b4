use Rattle.std.proofs.Common.{◌≡◌, ℕ, ◌<◌, length, false, get_or}
use Rattle.ballots.specs.Limits.{acceptors}
use Rattle.synod.proofs.synod.answers.Given as goal

-- of the 32 answers each so far is the rule's
abbrev pub invariant-loop-set : goal.invariant-loop-set
invariant-loop-set g l = (length l.wins ≡ 32) × ((k : ℕ) → k < l.set → get_or l.wins k false ≡ g.Q.QuorumRule.winning l.rule acceptors k)
