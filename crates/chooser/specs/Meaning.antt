-- What a chooser means: for each number the offers made and at most one decision.
use Rattle.std.specs.Prelude.{ℕ, Bool, ◌==◌, nat_lt, if◌then◌else◌, List, [], ◌∷◌, ◌++◌, length, get_or, slice_set, Option, None, Result, Ok, Err, ◌≡◌, true, replicate, Some}
use Rattle.std.specs.List.{list_any}
use Rattle.chooser.specs.declared.refusal.ChooserRefusal.{ChooserRefusal}
use Rattle.chooser.specs.declared.refusal.ChooserRefusal.TheVariants.{TooHigh, Full}
use Rattle.chooser.specs.Limits.{numbers, most_offers}

-- the offers under each number, in the order in which they were made
abbrev pub OfferLists : Type 0
OfferLists = List (List ℕ)

-- the decision under each number
abbrev pub Decisions : Type 0
Decisions = List (Option ℕ)

-- what offering and working answer: taken, or why not
abbrev pub Answer : Type 0
Answer = Result (Unit {0}) ChooserRefusal

-- no offers under any number
abbrev pub no_offers : OfferLists
no_offers = replicate numbers []

-- the offers under a number; above the last there are none
abbrev pub offers_at : OfferLists → ℕ → List ℕ
offers_at lists number = get_or lists number []

-- the decision under a number; above the last there is none
abbrev pub decision_at : Decisions → ℕ → Option ℕ
decision_at decisions number = get_or decisions number None

-- whether the value is one of the offers
abbrev pub one_of : List ℕ → ℕ → Bool
one_of offers value = list_any (λ offer. offer == value) offers

-- what an offer is answered where these stand: eight are the most
abbrev pub offer_taken : List ℕ → Answer
offer_taken offers = if nat_lt (length offers) most_offers then Ok tt else Err Full

-- the offers with one more, if it was taken
abbrev pub offers_with : Answer → List ℕ → ℕ → List ℕ
offers_with (Ok _) offers value = offers ++ (value ∷ [])
offers_with (Err _) offers value = offers

-- what an offer under the number is answered
abbrev pub offer_answer : OfferLists → ℕ → Answer
offer_answer lists number = if nat_lt number numbers then offer_taken (offers_at lists number) else Err TooHigh

-- all offers with one more under the number, if it was taken
abbrev pub lists_with : Answer → OfferLists → ℕ → ℕ → OfferLists
lists_with (Ok _) lists number value = slice_set lists number (offers_at lists number ++ (value ∷ []))
lists_with (Err _) lists number value = lists

-- every decision is one of the offers under its number
abbrev pub DecidedIsOffered : Decisions → OfferLists → Type 0
DecidedIsOffered decisions lists = (number value : ℕ) → decision_at decisions number ≡ Some value → one_of (offers_at lists number) value ≡ true
