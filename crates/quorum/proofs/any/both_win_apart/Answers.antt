-- Two winners share a place, and these two share none.
use Rattle.std.proofs.Common.{◌≡◌, ◌≢◌, true, bit_and, arith}
use Rattle.quorum.specs.Meeting.{sharing_overlap}
use Rattle.quorum.proofs.any.both_win_apart.Goals as goal

pub returns-then-wins : goal.returns-then-wins
returns-then-wins g c =
    let a = c.args in
    let wins = g.Q.QuorumRule.winning a.rule.now a.size in
    let overlap : wins a.one ≡ true → wins a.other ≡ true → bit_and a.one a.other ≢ 0 = λ p q. sharing_overlap a.size a.one a.other (g.met.Q.QuorumRule.winners_meet a.rule.now a.size a.one a.other p q) in
    grind arith
