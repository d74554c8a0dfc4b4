use Rattle.std.proofs.Common.{ap, ◌∙◌}
use Rattle.synod.specs.Synod.{tables_of}
use Rattle.synod.specs.Played.{answers_to, after_calls}
use Rattle.synod.proofs.RunLaws.{run_is, run_keeps_values, run_has_one_value}
use Rattle.synod.proofs.runs.play.Goals as goal

pub returns-clause-one_value : goal.returns-clause-one_value
returns-clause-one_value c = run_has_one_value _ _ _ c.play.ensures.run

pub returns-clause-values_stay : goal.returns-clause-values_stay
returns-clause-values_stay c = run_keeps_values _ _ _ c.play.ensures.run

-- the run's turns have the calls of those that were handed in
pub returns-clause-played : goal.returns-clause-played
returns-clause-played c = (run_is _ _ _ c.play.ensures.run).1 ∙ ap (after_calls (tables_of c.args.synod.now)) c.play.ensures.same_calls

pub returns-clause-answered : goal.returns-clause-answered
returns-clause-answered c = (run_is _ _ _ c.play.ensures.run).0 ∙ ap (answers_to (tables_of c.args.synod.now)) c.play.ensures.same_calls
