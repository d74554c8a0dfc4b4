-- What every chooser keeps to when something is offered or worked.
use Rattle.std.specs.Prelude.{◌≡◌, ℕ, ◌<◌, ◌≤◌, ◌⊎◌, slice_set, Some, Ok, Err}
use Rattle.chooser.specs.declared.refusal.ChooserRefusal.{ChooserRefusal}
use Rattle.chooser.specs.declared.refusal.ChooserRefusal.TheVariants.{TooHigh, NotAllowed}
use Rattle.chooser.specs.Limits.{numbers}
use Rattle.chooser.specs.Meaning.{OfferLists, Decisions, Answer, decision_at, offer_answer, lists_with}

-- What may become of the decisions: that of one number alone may change, one that stands stays, and a refused call changes none.
pub record Deciding (before : Decisions) (number : ℕ) (answer : Answer) (after : Decisions) : Type 0 where
  pub own_number_only : after ≡ slice_set before number (decision_at after number)
  pub decision_stays : (value : ℕ) → decision_at before number ≡ Some value → decision_at after number ≡ Some value
  pub refused_decides_nothing : (why : ChooserRefusal) → answer ≡ Err why → after ≡ before

-- An offer: what it answers and the offers after it are determined; it may decide its number.
pub record Offered (decided : Decisions) (lists : OfferLists) (number value : ℕ) (answer : Answer) (decided_after : Decisions) (lists_after : OfferLists) : Type 0 where
  pub answered : answer ≡ offer_answer lists number
  pub appended : lists_after ≡ lists_with answer lists number value
  pub deciding : Deciding decided number answer decided_after

-- Work: refused with 1 exactly above the last number, else taken or refused with 3; the offers stay; it may decide its number.
pub record Worked (decided : Decisions) (lists : OfferLists) (number : ℕ) (answer : Answer) (decided_after : Decisions) (lists_after : OfferLists) : Type 0 where
  pub too_high : numbers ≤ number → answer ≡ Err TooHigh
  pub within : number < numbers → (answer ≡ Ok tt) ⊎ (answer ≡ Err NotAllowed)
  pub offers_stay : lists_after ≡ lists
  pub deciding : Deciding decided number answer decided_after
