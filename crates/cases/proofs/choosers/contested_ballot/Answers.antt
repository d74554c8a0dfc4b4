use Rattle.std.proofs.Common.{◌≡◌, refl, ap, ◌∙◌}
use Rattle.std.specs.Fmt.{digits}
use native.Mathlib.Decide.{dec_le, dec_lt}
use lib.Count.{ones, ones_in}
use Rattle.chooser.specs.Meaning.{decision_at}
use Rattle.synod.specs.Synod.{Tables, tables_of, decisions_of}
use Rattle.synod.specs.Played.{after_calls}
use Rattle.cases.specs.ChooserExamples.{ChooserExamples, by_majority, contested}
use Rattle.cases.proofs.choosers.contested_ballot.Goals as goal

examples : ChooserExamples
unfolding dec_le dec_lt ones ones_in digits
examples = record {
  both_stand = refl;
  first_is_decided = refl;
  ninth_is_refused = refl;
  first_of_nine_is_decided = refl;
  eighth_is_taken = refl;
  contested_answers = refl;
  first_has_its_offer = refl;
  second_takes_over = refl;
  undecided_before = refl;
  nine_is_decided = refl;
  one_at_a_time = refl;
  two_fix_nothing = refl;
  promised_is_refused = refl;
  no_fourth_offer = refl;
  ninth_ballot_is_the_seconds = refl;
  eighth_ballot_is_the_firsts = refl;
  one_has_not_promised = refl;
  accepts_above_its_promise = refl;
  not_fixed_again = refl;
  counted_again = refl;
  decided_as_before = refl;
  last_ballot_is_the_eighths = refl;
  number_15_is_there = refl;
  no_ballot_0 = refl;
  no_ballot_16 = refl;
  no_sixth_acceptor = refl;
  no_fifth_step = refl;
  no_number_16 = refl;
  numbers_of_refusals = refl;
  refusals_printed = refl;
}

pub returns-clause-listed : goal.returns-clause-listed
returns-clause-listed c = examples

-- the synod starts by the majority, so playing leaves what the example computes
pub returns-clause-decided : goal.returns-clause-decided
returns-clause-decided c =
    let played : tables_of c.play.new.synod ≡ after_calls by_majority contested = c.play.ensures.played ∙ rw (c.new-synod.ensures, c.contested.ensures) refl in
    c.decision.ensures ∙ ap (λ (t : Tables). decision_at (decisions_of t.instances) 0) played ∙ examples.nine_is_decided
