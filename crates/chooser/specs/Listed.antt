-- Offers as lists.
use Rattle.std.specs.Prelude.{ℕ, List, map, take}
use Rattle.chooser.specs.declared.offers.Offers.{Offers}
use Rattle.chooser.specs.declared.offers.OfferTable.{OfferTable}
use Rattle.chooser.specs.Meaning.{OfferLists}

-- the offers that stand under one number: the first `count` of the places
abbrev pub listed : Offers → List ℕ
listed offers = take offers.count offers.values

-- the offers under all numbers
abbrev pub lists_of : OfferTable → OfferLists
lists_of table = map listed table.offers
