use Rattle.std.proofs.Common.{◌≡◌, refl, subst, sym, ap, ◌∙◌, arith, length, replicate}
use Rattle.std.proofs.lemmas.List.FromFn.{length-map-range_with_len}
use Rattle.chooser.specs.Limits.{numbers}
use Rattle.chooser.specs.Listed.{lists_of}
use Rattle.quorum.specs.Sets.{everyone}
use Rattle.ballots.specs.Limits.{acceptors}
use Rattle.synod.specs.Lookup.{rule_answers, won}
use Rattle.synod.specs.Invariant.{AllKept}
use Rattle.synod.proofs.Start.{start_never_apart, start_all_kept}
use Rattle.synod.proofs.synod.Synod.new.Goals as goal

-- the rule's laws are those of its answers
pub invariant_of-result : goal.invariant_of-result
invariant_of-result g c =
    let rule = c.args.rule.now in
    let winning = g.Q.QuorumRule.winning rule acceptors in
    let asked : c.answers.result ≡ rule_answers winning = c.answers.ensures in
    record {
      all_sets = ap length asked ∙ length-map-range_with_len winning 0 32;
      never_apart = rw asked (start_never_apart winning (λ a b a_wins b_wins. g.met.Q.QuorumRule.winners_meet rule acceptors a b a_wins b_wins));
      everyone_wins = ap (λ wins. won wins (everyone acceptors)) asked ∙ g.met.Q.QuorumRule.everyone_wins rule acceptors (omega arith) (omega arith);
      sixteen = refl;
      all_kept = subst (λ x. AllKept (won c.answers.result) (won c.answers.result) (lists_of c.new.result) (replicate numbers x)) (sym c.new-2.ensures)
          (start_all_kept (won c.answers.result) (won c.answers.result) (lists_of c.new.result) c.new.ensures);
    }
