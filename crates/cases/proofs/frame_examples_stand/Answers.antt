use Rattle.std.proofs.Common.{◌∷◌, length, refl, ap, arith}
use Rattle.std.specs.Fmt.{digits}
use native.Mathlib.Decide.{dec_le, dec_lt}
use Rattle.std.proofs.lemmas.Bool.{cond-true, cond-false, eq-eqb, ne_eqb}
use Rattle.frame.specs.Check.{numbered}
use Rattle.cases.specs.FrameExamples.{FrameExamples}
use Rattle.cases.proofs.frame_examples_stand.Goals as goal

examples : FrameExamples
unfolding dec_le dec_lt digits
examples = record {
  get_written = refl;
  get_checked = refl;
  put_written = refl;
  put_checked = refl;
  update_written = refl;
  update_checked = refl;
  curve_update_written = refl;
  curve_update_checked = refl;
  kinds_numbered = refl;
  kinds_printed = refl;
  causes_numbered = refl;
  fault_printed = refl;
  other_length = λ slot other. ap numbered (cond-false _ _ _ (ne_eqb (length slot) 32 other));
  kind_eight = λ rest long. ap numbered (cond-true _ _ _ (eq-eqb (length (8 ∷ rest)) 32 (omega arith)));
  empty_slot = λ rest long. ap numbered (cond-true _ _ _ (eq-eqb (length (0 ∷ rest)) 32 (omega arith)));
  get_rest = refl;
  curve_update_rest = refl;
  put_highest = refl;
  put_opening_tag = refl;
  put_receiver = refl;
  put_sender = refl;
  put_number = refl;
  put_operation = refl;
  put_version = refl;
  put_node_without_version = refl;
  put_version_without_node = refl;
  put_node = refl;
  put_content = refl;
  put_rest = refl;
  put_sender_before_node = refl;
  put_node_before_content = refl;
  put_content_before_rest = refl;
  update_highest = refl;
  update_number = refl;
  update_count_none = refl;
  update_count = refl;
  update_member = refl;
  update_member_none = refl;
  update_member_repeated = refl;
  update_member_behind_the_count = refl;
  update_version = refl;
  update_node = refl;
  update_content = refl;
  update_rest = refl;
  update_member_before_version = refl;
  update_node_before_content = refl;
  update_content_before_rest = refl;
  third_of_two = refl;
  content_missing = refl;
  refused_with_3 = refl;
}

pub returns-clause-listed : goal.returns-clause-listed
returns-clause-listed c = examples
