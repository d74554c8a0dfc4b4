use Rattle.std.proofs.Common.{refl}
use native.Mathlib.Decide.{dec_le, dec_lt}
use Rattle.cases.specs.TableExamples.{TableExamples}
use Rattle.cases.proofs.host_tables.table_examples_stand.Goals as goal

examples : TableExamples
unfolding dec_le dec_lt
examples = record {
  version_first = refl;
  then_node = refl;
  not_above_itself = refl;
  list_of_three = refl;
  size_of_three = refl;
  primary_of_three = refl;
  place_of_node_3 = refl;
  no_place_of_node_1 = refl;
  two_counted = refl;
  nine_counted = refl;
  none_counted = refl;
  no_primary = refl;
  after_12 = refl;
  after_the_last = refl;
  two_are_empty = refl;
  lowest_is_1 = refl;
  two_may_be_sent = refl;
  three_may_not = refl;
  refused_with_19 = refl;
  sent_to_2_and_5 = refl;
  third_is_left_out = refl;
  get_said = refl;
  get_ack_said = refl;
  put_said = refl;
  put_ack_said = refl;
  freeze_said = refl;
  held_said = refl;
  update_said = refl;
  slot_2_lost = refl;
  slot_0_lost = refl;
  slot_0_lost_again = refl;
  slot_3_is_empty = refl;
  no_slot_4 = refl;
  slot_2_holds_a_put = refl;
  rest_is_no_slot = refl;
  rest_stays = refl;
}

pub returns-clause-listed : goal.returns-clause-listed
returns-clause-listed c = examples
