use Rattle.std.proofs.Common.{◌≡◌, ℕ, true, false, not, ◌&&◌, List, refl, ap, ◌∙◌, arith}
use Rattle.std.specs.Fmt.{digits}
use native.Mathlib.Decide.{dec_le, dec_lt}
use lib.Count.{ones, ones_in}
use Rattle.std.proofs.lemmas.Bool.Decides.{nat_tests}
use Rattle.quorum.specs.Rules.{outweighs_half}
use Rattle.cases.specs.Examples.{WorkedExamples, weights_from}
use Rattle.cases.proofs.examples_stand.Goals as goal

examples : WorkedExamples
unfolding dec_le dec_lt digits
examples = record {
  quote_written = refl;
  quote_printed = refl;
  exchanged_not_made = refl;
  exchanged_not_read = refl;
  curve_read_so = refl;
  curve_written_so = refl;
  curve_printed = refl;
  two_of_four_lose = λ set below two. grind (arith, nat_tests);
  three_of_four_win = λ set below three. grind (arith, nat_tests);
  first_alone_wins = refl;
  others_together_lose = refl;
  weightless_first_refused = refl;
  heaviest_taken = refl;
  too_heavy_refused = refl;
  refused_with_13 = refl;
  refusals_printed = refl;
}

pub returns : goal.returns
unfolding ones ones_in
returns c =
    let made = c.in-Ok.ensures in
    let weights : c.in-Ok.weighted.weights ≡ weights_from 3 1 1 = cc in
    let two : c.wins.result ≡ false = c.wins.ensures in
    let three : c.wins-2.result ≡ true = c.wins-2.ensures in
    let first : c.wins-3.result ≡ true = c.wins-3.ensures ∙ ap (λ (ws : List ℕ). outweighs_half ws 3 1) weights in
    let others : c.wins-4.result ≡ false = c.wins-4.ensures ∙ ap (λ (ws : List ℕ). outweighs_half ws 3 6) weights in
    record { listed = examples; asked = λ i. (not (two i) && three i) && (first i && not (others i)) }
