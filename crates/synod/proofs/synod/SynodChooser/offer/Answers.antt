use Rattle.std.proofs.Common.{refl, subst, sym}
use Rattle.synod.specs.Lookup.{won}
use Rattle.synod.specs.Invariant.{AllKept}
use Rattle.synod.proofs.Changes.{offer_keeps_all}
use Rattle.synod.proofs.synod.SynodChooser.offer.Goals as goal

pub invariant_of-self-clause-all_kept : goal.invariant_of-self-clause-all_kept
invariant_of-self-clause-all_kept c =
    let synod = c.args.self.now in
    subst (λ lists. AllKept (won synod.wins) (won synod.wins) lists synod.instances) (sym c.add.ensures.appended) (offer_keeps_all synod c.args.number c.args.value _ refl)
