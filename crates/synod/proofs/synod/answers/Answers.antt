use Rattle.std.proofs.Common.{false, sym, ◌∙◌, arith, get_or-set_other, get_or-set_same, below_more}
use Rattle.std.proofs.lemmas.List.{ext_get_or, length-set}
use Rattle.std.proofs.lemmas.List.FromFn.{length-map-range_with_len, get_or-map-range_with_len}
use Rattle.ballots.specs.Limits.{acceptors}
use Rattle.synod.specs.Lookup.{rule_answers}
use Rattle.synod.proofs.synod.answers.Goals as goal

pub loop-set-preserved : goal.loop-set-preserved
loop-set-preserved g c =
    let (all, each) = c.loop-set.invariant in
    let wins = c.loop-set.wins in
    let set = c.loop-set.set in
    rw c.from.ensures (
      length-set wins set c.wins.result ∙ all,
      below_more _ _
          (λ k below. get_or-set_other wins set k c.wins.result false (omega arith) ∙ each k below)
          (get_or-set_same wins set c.wins.result false (omega arith) ∙ c.wins.ensures),
    )

-- lists of 32 that agree everywhere are one
pub returns : goal.returns
returns g c =
    let (all, each) = c.loop-set.invariant in
    let winning = g.Q.QuorumRule.winning c.args.rule.now acceptors in
    ext_get_or false c.loop-set.wins (rule_answers winning) (all ∙ sym (length-map-range_with_len winning 0 32))
    (λ k below. each k (omega arith) ∙ sym (get_or-map-range_with_len winning 0 32 k k false (omega arith) (omega arith)))
