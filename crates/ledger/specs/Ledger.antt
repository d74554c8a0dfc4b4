-- What the ledger does, exactly. It keeps offers alone: the first under a number is the decision.
use Rattle.std.specs.Prelude.{◌≡◌, ℕ, nat_lt, if◌then◌else◌, List, map, slice_get, Option, Err}
use Rattle.chooser.specs.declared.refusal.ChooserRefusal.TheVariants.{TooHigh, NotAllowed}
use Rattle.chooser.specs.Limits.{numbers}
use Rattle.chooser.specs.Meaning.{OfferLists, Decisions, Answer, offer_answer, lists_with}
use Rattle.chooser.specs.Listed.{lists_of}
use Rattle.ledger.specs.declared.Ledger.{Ledger}

-- the offers of a ledger
abbrev pub ledger_lists : Ledger → OfferLists
ledger_lists ledger = lists_of ledger.offers

-- the first offer
abbrev pub first_of : List ℕ → Option ℕ
first_of offers = slice_get offers 0

-- what is decided under each number: the first offer
abbrev pub firsts : OfferLists → Decisions
firsts lists = map first_of lists

-- an offer: answered as offers are, and appended if it was taken
pub record LedgerOffered (lists : OfferLists) (number value : ℕ) (answer : Answer) (after : OfferLists) : Type 0 where
  pub answered : answer ≡ offer_answer lists number
  pub appended : after ≡ lists_with (offer_answer lists number) lists number value

-- work: always refused
pub record LedgerWorked (lists : OfferLists) (number : ℕ) (answer : Answer) (after : OfferLists) : Type 0 where
  pub answered : answer ≡ (if nat_lt number numbers then Err NotAllowed else Err TooHigh)
  pub offers_stay : after ≡ lists
