-- The ledger keeps the laws of choosers; a reader need not believe this file.
use Rattle.std.specs.Prelude.{◌≡◌, ℕ, ◌<◌, true, List, [], ◌∷◌, ◌++◌, length, Some, Ok, Err, refl}
use Rattle.std.proofs.Common.{sym, ◌∙◌, inr, arith}
use Rattle.std.proofs.Math.ListN.{get_or-map}
use Rattle.std.proofs.lemmas.List.{length-map, map-set}
use Rattle.std.proofs.lemmas.Bool.Decides.{nat_tests}
use Rattle.chooser.specs.Limits.{numbers}
use Rattle.chooser.specs.Meaning.{OfferLists, Answer, offers_at, decision_at, one_of, DecidedIsOffered, offer_answer, lists_with}
use Rattle.chooser.specs.Laws.{Deciding, Offered, Worked}
use Rattle.chooser.specs.TableLaws.{sixteen_lists}
use Rattle.chooser.specs.Deciding.{nothing_decided, one_decided}
use Rattle.ledger.specs.declared.Ledger.{Ledger}
use Rattle.ledger.specs.Ledger.{ledger_lists, first_of, firsts, LedgerOffered, LedgerWorked}

pub sixteen_firsts : (ledger : Ledger) → length (firsts (ledger_lists ledger)) ≡ numbers
sixteen_firsts ledger = length-map (ledger_lists ledger) first_of ∙ sixteen_lists ledger.offers

-- the first of a number's offers is the decision under it
decided_at : (lists : OfferLists) (number : ℕ) → first_of (offers_at lists number) ≡ decision_at (firsts lists) number
decided_at lists number = sym (get_or-map first_of lists number [])

first_among : (offers : List ℕ) (value : ℕ) → first_of offers ≡ Some value → one_of offers value ≡ true
first_among [] value is = absurd cc
first_among (first ∷ later) value is = let same : first ≡ value = cc in grind (arith, nat_tests)

pub first_is_offered : (lists : OfferLists) → DecidedIsOffered (firsts lists) lists
first_is_offered lists number value is = first_among _ value (decided_at lists number ∙ is)

-- a later offer is not the first
first_stays : (offers : List ℕ) (offer value : ℕ) → first_of offers ≡ Some value → first_of (offers ++ (offer ∷ [])) ≡ Some value
first_stays [] offer value is = absurd cc
first_stays (first ∷ later) offer value is = is

deciding_by : (lists : OfferLists) (number value : ℕ) (answer : Answer) → offer_answer lists number ≡ answer → length lists ≡ numbers
    → Deciding (firsts lists) number answer (firsts (lists_with answer lists number value))
deciding_by lists number value (Ok _) is sixteen =
    let offers = offers_at lists number in
    let inside : number < numbers = grind (arith, nat_tests) in
    one_decided (firsts lists) _ number (first_of (offers ++ (value ∷ []))) (omega (arith, length-map lists first_of))
    (map-set first_of lists number (offers ++ (value ∷ [])))
    (λ first stands. first_stays offers value first (decided_at lists number ∙ stands))
deciding_by lists number value (Err why) is sixteen = nothing_decided (firsts lists) number (Err why)

pub offering_keeps : (before after : Ledger) (number value : ℕ) (answer : Answer) → LedgerOffered (ledger_lists before) number value answer (ledger_lists after)
    → Offered (firsts (ledger_lists before)) (ledger_lists before) number value answer (firsts (ledger_lists after)) (ledger_lists after)
offering_keeps before after number value answer offered =
    let lists = ledger_lists before in
    rw (offered.answered, offered.appended) (record {
      answered = refl;
      appended = refl;
      deciding = deciding_by lists number value (offer_answer lists number) refl (sixteen_lists before.offers);
    })

pub working_keeps : (lists after : OfferLists) (number : ℕ) (answer : Answer) → LedgerWorked lists number answer after
    → Worked (firsts lists) lists number answer (firsts after) after
working_keeps lists after number answer worked =
    rw worked.offers_stay (record {
      too_high = λ above. worked.answered ∙ grind (arith, nat_tests);
      within = λ below. inr (worked.answered ∙ grind (arith, nat_tests));
      offers_stay = refl;
      deciding = nothing_decided (firsts lists) number answer;
    })
