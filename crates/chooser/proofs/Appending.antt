-- An offer more at its place in the table.
use Rattle.std.proofs.Common.{◌≡◌, ℕ, ◌<◌, List, [], ◌∷◌, ◌++◌, length, map, slice_set, slice_index_or, Ok, ap, ◌∙◌, arith}
use Rattle.std.proofs.lemmas.List.{get_or-map, map-set}
use Rattle.std.proofs.lemmas.Bool.Decides.{nat_tests}
use Rattle.chooser.specs.declared.offers.Offers.{Offers}
use Rattle.chooser.specs.Limits.{numbers}
use Rattle.chooser.specs.Meaning.{offer_answer, offer_taken, lists_with}
use Rattle.chooser.specs.Listed.{listed}

-- An offer is taken at a number as it is among the offers there.
answered_at : (offers : List Offers) (number : ℕ) (other : Offers) → number < length offers → length offers ≡ numbers
    → offer_answer (map listed offers) number ≡ offer_taken (listed (slice_index_or offers number other))
answered_at offers number other inside sixteen =
    let here = get_or-map listed offers number other [] inside in
    let below : number < numbers = omega arith in
    rw here (grind (arith, nat_tests))

-- Where the offers at a number become some with one more, so do all offers.
pub appended_at : (offers : List Offers) (number value : ℕ) (more other : Offers) → number < length offers → length offers ≡ numbers
    → offer_taken (listed (slice_index_or offers number other)) ≡ Ok tt
    → listed more ≡ listed (slice_index_or offers number other) ++ (value ∷ [])
    → map listed (slice_set offers number more) ≡ lists_with (offer_answer (map listed offers) number) (map listed offers) number value
appended_at offers number value more other inside sixteen taken is =
    let here = get_or-map listed offers number other [] inside in
    let answer : offer_answer (map listed offers) number ≡ Ok tt = answered_at offers number other inside sixteen ∙ taken in
    rw (answer, here) (map-set listed offers number more ∙ ap (slice_set (map listed offers) number) is)
