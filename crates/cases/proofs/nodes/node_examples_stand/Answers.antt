use Rattle.std.proofs.Common.{refl, ◌∙◌}
use native.Mathlib.Decide.{dec_le, dec_lt}
use lib.Count.{ones, ones_in}
use Rattle.cases.specs.NodeExamples.{NodeExamples}
use Rattle.cases.proofs.nodes.node_examples_stand.Goals as goal

examples : NodeExamples
unfolding dec_le dec_lt ones ones_in
examples = record {
  get_obeyed = refl;
  get_under_another_number = refl;
  get_from_another_member = refl;
  get_at_frozen_node = refl;
  get_at_idle_node = refl;
  put_higher = refl;
  put_lower = refl;
  put_of_higher_node = refl;
  put_of_lower_node = refl;
  put_under_another_number = refl;
  put_from_another_member = refl;
  put_at_frozen_node = refl;
  put_at_idle_node = refl;
  freeze_obeyed = refl;
  freeze_from_no_member = refl;
  freeze_at_frozen_node = refl;
  freeze_at_idle_node = refl;
  freeze_under_another_number = refl;
  get_ack_joins = refl;
  get_ack_enough = refl;
  get_ack_again = refl;
  get_ack_for_a_write = refl;
  get_ack_for_a_regroup = refl;
  get_ack_at_another_node = refl;
  get_ack_for_an_earlier_read = refl;
  get_ack_under_the_earlier_number = refl;
  get_ack_for_a_read_given_up = refl;
  get_ack_for_nothing_started = refl;
  get_ack_from_no_member = refl;
  get_ack_at_frozen_node = refl;
  get_ack_at_idle_node = refl;
  put_ack_joins = refl;
  put_ack_enough = refl;
  put_ack_of_a_lower_write = refl;
  put_ack_for_a_read = refl;
  put_ack_for_a_regroup = refl;
  put_ack_for_an_answered_write = refl;
  put_ack_at_frozen_node = refl;
  put_ack_at_idle_node = refl;
  held_first = refl;
  held_lower = refl;
  held_higher = refl;
  held_at_active_node = refl;
  held_at_idle_node = refl;
  held_for_a_read = refl;
  held_for_a_write = refl;
  held_for_a_proposed_regroup = refl;
  held_from_a_new_member = refl;
  update_at_idle_node = refl;
  update_at_active_node = refl;
  update_at_frozen_node = refl;
  update_at_primary = refl;
  update_where_a_higher_copy_is_served = refl;
  update_again = refl;
  update_again_at_idle_node = refl;
  update_at_no_member = refl;
  update_at_a_stopped_node = refl;
  record_written = refl;
  no_record_of_node_0 = refl;
  no_record_of_node_4 = refl;
  row_written = refl;
  no_row_of_operation_2 = refl;
  no_row_planned = refl;
  reply_sent = refl;
  reply_left_out = refl;
  no_reply_planned = refl;
  reply_finds_a_slot = refl;
  reply_finds_none = refl;
  no_slot_wanted = refl;
  answered_row_answers = refl;
  open_row_does_not = refl;
  no_row_does_not = refl;
}

pub returns-clause-listed : goal.returns-clause-listed
returns-clause-listed c = examples

-- what is judged is the example's own, so judging answers what the example computes
pub returns-clause-asked : goal.returns-clause-asked
unfolding dec_le dec_lt ones ones_in
returns-clause-asked c =
    c.eq.ensures
    ∙ rw (c.planned_state.ensures, c.judge-plan.ensures.planned, c.primary.ensures, c.read.ensures, c.acknowledgement.ensures) refl
