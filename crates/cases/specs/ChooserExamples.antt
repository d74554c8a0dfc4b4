-- The worked examples of docs/choosers.md and docs/ballots.md, as equations of the definitions that the library's contracts cite.
use Rattle.std.specs.Prelude.{◌≡◌, ℕ, List, [], ◌∷◌, ◌++◌, map, replicate, codes, Option, Some, None, Ok, Err}
use Rattle.chooser.specs.declared.calls.Call.{Call}
use Rattle.chooser.specs.declared.calls.Call.TheVariants.{Offer, Work}
use Rattle.chooser.specs.declared.refusal.ChooserRefusal.TheVariants.{TooHigh, Full, NotAllowed}
use Rattle.chooser.specs.Meaning.{OfferLists, Answer, no_offers, offers_at, decision_at, offer_answer, lists_with}
use Rattle.chooser.specs.Refusals.{refusal_number, shown_refusal}
use Rattle.ledger.specs.Ledger.{firsts}
use Rattle.quorum.specs.Rules.{more_than_half}
use Rattle.ballots.specs.Limits.{acceptors}
use Rattle.ballots.specs.Instance.{value_at}
use Rattle.synod.specs.Lookup.{instance_at}
use Rattle.synod.specs.Synod.{Tables, start, decisions_of}
use Rattle.synod.specs.Played.{answers_to, after_calls}

-- offers under number 0, one after the other
abbrev pub lists_after : List ℕ → OfferLists → OfferLists
lists_after [] lists = lists
lists_after (value ∷ values) lists = lists_after values (lists_with (offer_answer lists 0) lists 0 value)

-- a synod by the majority of its acceptors, at its making
abbrev pub by_majority : Tables
by_majority = start (more_than_half acceptors)

-- Offers 4, 9 and 6 under number 0.
abbrev pub three_offers : List Call
three_offers = Offer 0 4 ∷ Offer 0 9 ∷ Offer 0 6 ∷ []

-- Acceptors 0, 1 and 2 promise a ballot and fix it.
abbrev pub by_three : ℕ → List Call
by_three ballot = Work 0 1 ballot 0b00001 ∷ Work 0 1 ballot 0b00010 ∷ Work 0 1 ballot 0b00100 ∷ Work 0 2 ballot 0b00111 ∷ []

-- After the offers, they do so with ballot 1, and acceptor 2 accepts it. Then 2, 3 and 4 promise ballot 2.
abbrev pub two_ballots : List Call
two_ballots =
    three_offers ++ by_three 1
    ++ (Work 0 3 1 0b00100 ∷ Work 0 1 2 0b00100 ∷ Work 0 1 2 0b01000 ∷ Work 0 1 2 0b10000 ∷ [])

-- Acceptor 1 accepts ballot 1 late, and 2 tries to. Acceptors 2, 3 and 4 fix ballot 2,
abbrev pub second_fixed : List Call
second_fixed = two_ballots ++ (Work 0 3 1 0b00010 ∷ Work 0 3 1 0b00100 ∷ Work 0 2 2 0b11100 ∷ [])

-- and accept it; 0, 1 and 2 try to count ballot 1,
abbrev pub second_accepted : List Call
second_accepted = second_fixed ++ (Work 0 3 2 0b00100 ∷ Work 0 3 2 0b01000 ∷ Work 0 3 2 0b10000 ∷ Work 0 4 1 0b00111 ∷ [])

-- and 2, 3 and 4 count ballot 2.
abbrev pub contested : List Call
contested = second_accepted ++ (Work 0 4 2 0b11100 ∷ [])

-- the two answers
abbrev pub taken : Option Answer
taken = Some (Ok tt)

abbrev pub refused : Option Answer
refused = Some (Err NotAllowed)

-- the value of a ballot, and what is decided, after calls on a synod by majority
abbrev pub ballot_after : List Call → ℕ → Option ℕ
ballot_after calls ballot = value_at (instance_at (after_calls by_majority calls).instances 0) ballot

abbrev pub decided_after : List Call → Option ℕ
decided_after calls = decision_at (decisions_of (after_calls by_majority calls).instances) 0

-- what one call more is answered
abbrev pub next_answer : List Call → Call → List (Option Answer)
next_answer calls call = answers_to (after_calls by_majority calls) (call ∷ [])

pub record ChooserExamples : Type 0 where
  -- Ledger: the offers 4 and then 9 both stand, the first is decided; of nine the last is refused with 2, the first is decided.
  pub both_stand : offers_at (lists_after (4 ∷ 9 ∷ []) no_offers) 0 ≡ 4 ∷ 9 ∷ []
  pub first_is_decided : decision_at (firsts (lists_after (4 ∷ 9 ∷ []) no_offers)) 0 ≡ Some 4
  pub ninth_is_refused : offer_answer (lists_after (1 ∷ 2 ∷ 3 ∷ 4 ∷ 5 ∷ 6 ∷ 7 ∷ 8 ∷ []) no_offers) 0 ≡ Err Full
  pub first_of_nine_is_decided : decision_at (firsts (lists_after (1 ∷ 2 ∷ 3 ∷ 4 ∷ 5 ∷ 6 ∷ 7 ∷ 8 ∷ 9 ∷ []) no_offers)) 0 ≡ Some 1
  pub eighth_is_taken : offer_answer (lists_after (1 ∷ 2 ∷ 3 ∷ 4 ∷ 5 ∷ 6 ∷ 7 ∷ []) no_offers) 0 ≡ Ok tt
  -- The contested ballot: the second accept by 2 and the count of ballot 1 are refused with 3, all else is taken.
  pub contested_answers : answers_to by_majority contested ≡ (replicate 12 taken ++ (refused ∷ replicate 4 taken)) ++ (refused ∷ taken ∷ [])
  -- Ballot 1 is fixed at its own offer 9; ballot 2 takes 9 over, and not its own offer 6. 9 is decided, and nothing before the count of ballot 2.
  pub first_has_its_offer : ballot_after two_ballots 1 ≡ Some 9
  pub second_takes_over : ballot_after second_fixed 2 ≡ Some 9
  pub undecided_before : decided_after second_accepted ≡ None
  pub nine_is_decided : decided_after contested ≡ Some 9
  -- Two acceptors accept nothing at once, and two do not win.
  pub one_at_a_time : next_answer two_ballots (Work 0 3 1 0b00011) ≡ refused ∷ []
  pub two_fix_nothing : next_answer two_ballots (Work 0 2 2 0b01100) ≡ refused ∷ []
  -- A promise is above the last one, and only for a ballot whose offer exists: ballot 3 belongs to a fourth offer, ballot 9 to the second.
  pub promised_is_refused : next_answer two_ballots (Work 0 1 2 0b00100) ≡ refused ∷ []
  pub no_fourth_offer : next_answer two_ballots (Work 0 1 3 0b00100) ≡ refused ∷ []
  pub ninth_ballot_is_the_seconds : ballot_after (three_offers ++ by_three 9) 9 ≡ Some 9
  pub eighth_ballot_is_the_firsts : ballot_after (three_offers ++ by_three 8) 8 ≡ Some 4
  -- All of a set have to have promised the ballot. Who accepts a ballot above its promise has promised it.
  pub one_has_not_promised : next_answer two_ballots (Work 0 2 2 0b11110) ≡ refused ∷ []
  pub accepts_above_its_promise : answers_to (after_calls by_majority second_fixed) (Work 0 3 2 0b00001 ∷ Work 0 3 1 0b00001 ∷ []) ≡ taken ∷ refused ∷ []
  -- A fixed ballot is not fixed again; a count under a decided number changes nothing.
  pub not_fixed_again : next_answer second_fixed (Work 0 2 2 0b11100) ≡ refused ∷ []
  pub counted_again : next_answer contested (Work 0 4 2 0b11100) ≡ taken ∷ []
  pub decided_as_before : decided_after (contested ++ (Work 0 4 2 0b11100 ∷ [])) ≡ Some 9
  -- Ballot 15 is the last: it belongs to the eighth offer. Number 15 is the last one.
  pub last_ballot_is_the_eighths : ballot_after (map (Offer 0) (1 ∷ 2 ∷ 3 ∷ 4 ∷ 5 ∷ 6 ∷ 7 ∷ 8 ∷ []) ++ by_three 15) 15 ≡ Some 8
  pub number_15_is_there : next_answer [] (Offer 15 4) ≡ taken ∷ []
  -- There is no ballot 0, no ballot 16, no sixth acceptor and no fifth step; and above number 15 all is refused with 1.
  pub no_ballot_0 : next_answer two_ballots (Work 0 1 0 0b00100) ≡ refused ∷ []
  pub no_ballot_16 : next_answer two_ballots (Work 0 1 16 0b00100) ≡ refused ∷ []
  pub no_sixth_acceptor : next_answer two_ballots (Work 0 1 9 0b100000) ≡ refused ∷ []
  pub no_fifth_step : next_answer two_ballots (Work 0 5 1 0b00100) ≡ refused ∷ []
  pub no_number_16 : next_answer two_ballots (Work 16 5 0 0b100000) ≡ Some (Err TooHigh) ∷ []
  pub numbers_of_refusals : map refusal_number (TooHigh ∷ Full ∷ NotAllowed ∷ []) ≡ 1 ∷ 2 ∷ 3 ∷ []
  pub refusals_printed : map shown_refusal (TooHigh ∷ Full ∷ NotAllowed ∷ []) ≡ codes "1: number above 15" ∷ codes "2: eight offers stand" ∷ codes "3: step not allowed" ∷ []
