-- A table of offers keeps to the limits of a chooser; a reader need not believe this file.
use Rattle.std.specs.Prelude.{◌≡◌, ℕ, zero, suc, ◌≤◌, true, List, [], ◌∷◌, length, map, take, slice_index}
use Rattle.std.proofs.Common.{◌∙◌, arith}
use Rattle.std.proofs.lemmas.List.{length-map, length-take}
use Rattle.std.proofs.lemmas.Bool.Decides.{nat_tests}
use Rattle.chooser.specs.declared.offers.Offers.{Offers}
use Rattle.chooser.specs.declared.offers.OfferTable.{OfferTable}
use Rattle.chooser.specs.Limits.{numbers, most_offers, highest_offer}
use Rattle.chooser.specs.Meaning.{offers_at, one_of}
use Rattle.chooser.specs.Listed.{listed, lists_of}

pub sixteen_lists : (table : OfferTable) → length (lists_of table) ≡ numbers
sixteen_lists table = length-map table.offers listed ∙ table.sixteen

-- what holds of no offers and of each one's offers holds under every number
under_each : {X : Type 0} (offers_of : X → List ℕ) (P : List ℕ → Type 0) → P [] → ((x : X) → P (offers_of x)) → (xs : List X) (number : ℕ) → P (offers_at (map offers_of xs) number)
under_each offers_of P none each [] number = none
under_each offers_of P none each (x ∷ xs) zero = each x
under_each offers_of P none each (x ∷ xs) (suc number) = under_each offers_of P none each xs number

-- eight places are all that there are
listed_few : (offers : Offers) → length (listed offers) ≤ most_offers
listed_few offers = omega (arith, length-take offers.count offers.values, offers.few)

-- among the first of some bytes there are bytes only
bytes_among : (values : List ℕ) (count value : ℕ) → ((place : ℕ) → slice_index values place ≤ highest_offer) → one_of (take count values) value ≡ true → value ≤ highest_offer
bytes_among [] zero value bytes among = absurd (grind arith)
bytes_among [] (suc count) value bytes among = absurd (grind arith)
bytes_among (byte ∷ values) zero value bytes among = absurd (grind arith)
bytes_among (byte ∷ values) (suc count) value bytes among =
    let first = bytes 0 in
    let later = bytes_among values count value (λ place. bytes (suc place)) in
    grind (arith, nat_tests)

listed_bytes : (offers : Offers) (value : ℕ) → one_of (listed offers) value ≡ true → value ≤ highest_offer
listed_bytes offers value among = bytes_among offers.values offers.count value offers.bytes among

pub eight_at_most : (table : OfferTable) (number : ℕ) → length (offers_at (lists_of table) number) ≤ most_offers
eight_at_most table number = under_each listed (λ offers. length offers ≤ most_offers) (omega arith) listed_few table.offers number

pub offers_are_bytes : (table : OfferTable) (number value : ℕ) → one_of (offers_at (lists_of table) number) value ≡ true → value ≤ highest_offer
offers_are_bytes table number =
    under_each listed (λ offers. (value : ℕ) → one_of offers value ≡ true → value ≤ highest_offer) (λ value among. absurd (grind arith)) listed_bytes table.offers number
