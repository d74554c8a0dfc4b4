use Rattle.std.proofs.Common.{refl}
use native.Mathlib.Decide.{dec_le, dec_lt}
use lib.Count.{ones, ones_in}
use Rattle.cases.specs.CallExamples.{CallExamples}
use Rattle.cases.proofs.calls.call_examples_stand.Goals as goal

examples : CallExamples
unfolding dec_le dec_lt ones ones_in
examples = record {
  opened = refl;
  opened_already = refl;
  opened_with_seventeen = refl;
  opened_above_the_count = refl;
  read_starts = refl;
  write_starts = refl;
  regroup_starts = refl;
  stops_on_closed = refl;
  stops_on_length = refl;
  stops_above_the_count = refl;
  stops_at_node_zero = refl;
  stops_at_a_stopped_node = refl;
  stops_at_an_idle_node = refl;
  stops_at_a_frozen_node = refl;
  stops_at_no_primary = refl;
  stops_without_a_row = refl;
  stops_without_slots = refl;
  write_without_a_version = refl;
  write_without_slots = refl;
  regroup_unlawful = refl;
  regroup_without_slots = refl;
  may_be_proposed = refl;
  proposed = refl;
  offer_refused = refl;
  read_not_proposed = refl;
  not_started = refl;
  too_few_froze = refl;
  no_proposal_row = refl;
  settled = refl;
  nothing_decided = refl;
  decided_row_not_used = refl;
  decided_row_of_another_number = refl;
  settled_without_slots = refl;
  delivered_answers = refl;
  delivered_again = refl;
  delivered_get = refl;
  delivered_without_slots = refl;
  delivered_at_a_stopped_node = refl;
  delivered_from_an_empty_slot = refl;
  delivered_for_nothing_started = refl;
  frame_lost = refl;
  no_frame_lost = refl;
  given_up = refl;
  answered_not_given_up = refl;
  stopped = refl;
  stopped_again = refl;
  looked_at = refl;
  not_looked_at = refl;
}

pub returns-clause-listed : goal.returns-clause-listed
returns-clause-listed c = examples
