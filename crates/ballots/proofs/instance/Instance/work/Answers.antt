use Rattle.std.proofs.Common.{◌≡◌, true, sym, subst, refl}
use Rattle.ballots.specs.Instance.{within, after_work, or_same}
use Rattle.ballots.specs.Kept.{StaysKept}
use Rattle.ballots.proofs.KeptLaws.{work_stays_kept}
use Rattle.ballots.proofs.instance.Instance.work.Goals as goal

-- the step that was made is the one that the law speaks of
pub returns-clause-stays_kept : goal.returns-clause-stays_kept
returns-clause-stays_kept c =
    let before = c.args.self.now in
    let offers = c.args.offers.now in
    let is_within : within c.args.ballot c.args.set ≡ true = sym c.if-not-within.ensures in
    let made : c.step.new.self ≡ or_same (after_work before offers c.args.step c.args.ballot c.args.set c.args.wins) before = rw is_within c.step.ensures.after in
    subst (StaysKept before offers c.args.step c.args.set c.args.wins) (sym made) (work_stays_kept before offers c.args.step c.args.ballot c.args.set c.args.wins _ refl)
