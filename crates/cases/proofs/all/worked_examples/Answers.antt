use Rattle.std.proofs.Common.{◌≡◌, ℕ, zero, suc, ◌*◌, ◌<◌, false, refl, arith}
use native.Mathlib.Decide.{dec_le, dec_lt}
use lib.Count.{ones, ones_in}
use Rattle.std.proofs.lemmas.Bool.Decides.{nat_tests}
use Rattle.quorum.specs.Rules.{outweighs_half}
use Rattle.cases.specs.Examples.{WorkedExamples, weights_from}
use Rattle.cases.specs.FrameExamples.{FrameExamples}
use Rattle.cases.specs.ChooserExamples.{ChooserExamples}
use Rattle.cases.specs.TableExamples.{TableExamples}
use Rattle.cases.specs.NodeExamples.{NodeExamples}
use Rattle.cases.specs.CallExamples.{CallExamples}
use Rattle.cases.specs.AllExamples.{AllExamples}
use Rattle.cases.proofs.all.worked_examples.Goals as goal

-- no set of the second and the third place outweighs the first
others_lose : (set : ℕ) → set < 4 → outweighs_half (weights_from 3 1 1) 3 (2 * set) ≡ false
unfolding dec_le dec_lt
others_lose zero _ = refl
others_lose (suc zero) _ = refl
others_lose (suc (suc zero)) _ = refl
others_lose (suc (suc (suc zero))) _ = refl
others_lose (suc (suc (suc (suc set)))) below = absurd (omega (arith, below))

-- The first examples stand in the longer lists, but for two.
all_of : WorkedExamples → FrameExamples → ChooserExamples → TableExamples → NodeExamples → CallExamples → AllExamples
unfolding dec_le dec_lt ones ones_in
all_of listed frames choosers tables nodes calls = record {
  two_of_four_lose = listed.two_of_four_lose;
  three_of_four_win = listed.three_of_four_win;
  first_alone_wins = listed.first_alone_wins;
  others_lose = others_lose;
  quote_written = listed.quote_written;
  get_written = frames.get_written;
  kind_eight = frames.kind_eight;
  version_0_of_node_1 = frames.put_node_without_version;
  ledger_decides_4 = choosers.first_is_decided;
  second_ballot_fixes_9 = refl;
  synod_decides_9 = choosers.nine_is_decided;
  contents_and_rules = listed;
  frames = frames;
  choosers = choosers;
  tables = tables;
  nodes = nodes;
  calls = calls;
}

pub returns-clause-every_example : goal.returns-clause-every_example
returns-clause-every_example c =
    all_of c.examples_stand.ensures.listed c.frame_examples_stand.ensures.listed c.contested_ballot.ensures.listed c.table_examples_stand.ensures.listed
    c.node_examples_stand.ensures.listed c.call_examples_stand.ensures.listed
