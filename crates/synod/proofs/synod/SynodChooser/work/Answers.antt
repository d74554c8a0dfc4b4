use Rattle.std.proofs.Common.{◌≡◌, ◌<◌, sym, ap, ◌∙◌, arith}
use Rattle.std.proofs.lemmas.List.{length-set}
use Rattle.chooser.specs.Limits.{numbers}
use Rattle.chooser.specs.Listed.{lists_of}
use Rattle.chooser.specs.Meaning.{offers_at}
use Rattle.synod.specs.Synod.{tables_of, worked_at, taken, instances_with}
use Rattle.synod.proofs.Changes.{work_keeps_all, work_is}
use Rattle.synod.proofs.synod.SynodChooser.work.Goals as goal

pub invariant_of-self-clause-sixteen : goal.invariant_of-self-clause-sixteen
invariant_of-self-clause-sixteen c = length-set c.args.self.now.instances c.from.result c.work.new.self ∙ c.args.self.now.sixteen

pub invariant_of-self-clause-all_kept : goal.invariant_of-self-clause-all_kept
invariant_of-self-clause-all_kept c =
    let synod = c.args.self.now in
    let at = c.from.result in
    let offers : c.as_slice.result.now ≡ offers_at (lists_of synod.offers) at =
    c.as_slice.ensures ∙ c.under-offers.ensures ∙ ap (offers_at (lists_of synod.offers)) (sym c.from.ensures) in
    work_keeps_all synod at c.args.step c.args.set c.work.new.self (omega (arith, c.from.ensures)) (rw (offers, c.wins-wins.ensures) at c.work.ensures.stays_kept)

-- the table's place is the number
pub returns : goal.returns
returns c =
    let synod = c.args.self.now in
    let at = c.from.result in
    let same : at ≡ c.args.number = c.from.ensures in
    let inside : at < numbers = omega (arith, same) in
    let offers : c.as_slice.result.now ≡ offers_at (lists_of synod.offers) at =
    c.as_slice.ensures ∙ c.under-offers.ensures ∙ ap (offers_at (lists_of synod.offers)) (sym same) in
    let (answered, left) = work_is synod at c.args.step c.args.ballot c.args.set c.work.result c.work.new.self inside
    (rw (offers, c.wins-wins.ensures) at c.work.ensures.answered) (rw (offers, c.wins-wins.ensures) at c.work.ensures.after) in
    record {
      answered = answered ∙ ap (λ number. taken (worked_at (tables_of synod) number c.args.step c.args.ballot c.args.set)) same;
      left = ap (λ instances. record (tables_of synod) { instances = instances })
          (left ∙ ap (λ number. instances_with (worked_at (tables_of synod) number c.args.step c.args.ballot c.args.set) synod.instances number) same);
    }
