use Rattle.law.specs.Runs.{parts}
use Rattle.law.proofs.OrderHolds.{order_holds}
use Rattle.law.proofs.StepsStand.{linked}
use Rattle.schedule.proofs.order.order_holds.Goals as goal

-- what the interfaces promise is what the law needs
pub returns : goal.returns
returns g c =
    let kind = g.met.C.Content in
    let rule = g.met.Q.QuorumRule in
    let chooser = g.met.S.Chooser in
    let these = parts g.C.Content.width g.C.Content.meaning g.C.Content.reads g.Q.QuorumRule.winning g.S.Chooser.decided g.S.Chooser.offering g.S.Chooser.working in
    record {
      every_run = order_holds these (linked these (record {
        content_laws = record { bounded = kind.width_bounded; fills = kind.meaning_fills_width; reads_written = kind.reads_written; writes_read = kind.writes_read };
        rule_laws = λ this. record { in_bounds = rule.winners_in_bounds this; meet = rule.winners_meet this };
        offers = g.S.Chooser.offers;
        sixteen_decisions = chooser.sixteen_decisions;
        offering_is_lawful = chooser.offering_is_lawful;
        working_is_lawful = chooser.working_is_lawful;
      }));
    }
