-- What a synod does, exactly, over what it keeps.
use Rattle.std.specs.Prelude.{◌≡◌, ℕ, Bool, nat_lt, if◌then◌else◌, List, map, slice_set, Option, Result, Ok, Err, ok_or, replicate}
use Rattle.chooser.specs.declared.calls.Call.{Call}
use Rattle.chooser.specs.declared.calls.Call.TheVariants.{Offer, Work}
use Rattle.chooser.specs.declared.refusal.ChooserRefusal.{ChooserRefusal}
use Rattle.chooser.specs.declared.refusal.ChooserRefusal.TheVariants.{TooHigh, NotAllowed}
use Rattle.chooser.specs.Limits.{numbers}
use Rattle.chooser.specs.Listed.{lists_of}
use Rattle.chooser.specs.Meaning.{OfferLists, Decisions, Answer, no_offers, offers_at, offer_answer, lists_with}
use Rattle.ballots.specs.declared.instance.Instance.{Instance}
use Rattle.ballots.specs.Instance.{blank, value_at, after_work}
use Rattle.synod.specs.declared.synod.Synod.{Synod}
use Rattle.synod.specs.Lookup.{rule_answers, won, instance_at}

-- All that a synod keeps: the rule's answers for the 32 sets, the offers, and an instance for each number.
pub record Tables : Type 0 where
  pub wins : List Bool
  pub lists : OfferLists
  pub instances : List Instance

abbrev pub tables_of : Synod → Tables
tables_of synod = record { wins = synod.wins; lists = lists_of synod.offers; instances = synod.instances }

-- A synod at its making by a rule: nothing is offered, nobody has promised anything.
abbrev pub start : (ℕ → Bool) → Tables
start winning = record { wins = rule_answers winning; lists = no_offers; instances = replicate numbers blank }

-- the decisions of instances
abbrev pub decisions_of : List Instance → Decisions
decisions_of instances = map (λ (x : Instance). x.decision) instances

-- what is decided in a synod, and what was offered
abbrev pub decided_in : Synod → Decisions
decided_in synod = decisions_of synod.instances

abbrev pub offered_in : Synod → OfferLists
offered_in synod = lists_of synod.offers

-- the value of a ballot of a number, if it is fixed
abbrev pub ballot_value : Synod → ℕ → ℕ → Option ℕ
ballot_value synod number ballot = value_at (instance_at synod.instances number) ballot

-- What work makes of the instance of a number, where the rule's answer says whether the set wins. Refused with 1 above the last number, with 3 if the step is not allowed.
abbrev pub worked_at : Tables → ℕ → ℕ → ℕ → ℕ → Result Instance ChooserRefusal
worked_at t number step ballot set =
    if nat_lt number numbers then ok_or (after_work (instance_at t.instances number) (offers_at t.lists number) step ballot set (won t.wins set)) NotAllowed
    else Err TooHigh

-- taken, or why not
abbrev pub taken : Result Instance ChooserRefusal → Answer
taken (Ok after) = Ok tt
taken (Err why) = Err why

-- the instances, where that of a number may have changed
abbrev pub instances_with : Result Instance ChooserRefusal → List Instance → ℕ → List Instance
instances_with (Ok after) instances number = slice_set instances number after
instances_with (Err why) instances number = instances

-- what a call answers
abbrev pub answer_to : Tables → Call → Answer
answer_to t (Offer number value) = offer_answer t.lists number
answer_to t (Work number step ballot set) = taken (worked_at t number step ballot set)

-- what it leaves: an offer more, or another instance
abbrev pub after_call : Tables → Call → Tables
after_call t (Offer number value) = record t { lists = lists_with (offer_answer t.lists number) t.lists number value }
after_call t (Work number step ballot set) = record t { instances = instances_with (worked_at t number step ballot set) t.instances number }

-- a call made on a synod
pub record Made (before : Synod) (call : Call) (answer : Answer) (after : Synod) : Type 0 where
  pub answered : answer ≡ answer_to (tables_of before) call
  pub left : tables_of after ≡ after_call (tables_of before) call
