use Rattle.std.proofs.Common.{◌≡◌, Ok, sym, ap, ◌∙◌, arith, [], ◌∷◌, ◌++◌, slice_index_or}
use Rattle.chooser.specs.Meaning.{offer_taken, offers_with, offer_answer, lists_with}
use Rattle.chooser.specs.Listed.{listed, lists_of}
use Rattle.chooser.proofs.Appending.{appended_at}
use Rattle.chooser.proofs.offers.OfferTable.add.Goals as goal

pub returns-clause-appended : goal.returns-clause-appended
returns-clause-appended c =
    let table = c.args.self.now in
    let at = c.from-at.result in
    let same : at ≡ c.args.number = c.from-at.ensures in
    let old = listed (slice_index_or table.offers at c.index-self-at.result) in
    let taken : offer_taken old ≡ Ok tt = sym c.add.ensures.answered ∙ c.in_ok-add.was in
    let more : listed c.add.new.self ≡ old ++ (c.args.value ∷ []) = c.add.ensures.appended ∙ ap (λ answer. offers_with answer old c.args.value) taken in
    appended_at table.offers at c.args.value c.add.new.self c.index-self-at.result (omega (arith, table.sixteen, same)) table.sixteen taken more
    ∙ ap (λ number. lists_with (offer_answer (lists_of table) number) (lists_of table) number c.args.value) same
