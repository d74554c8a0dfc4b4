-- What a list of calls on a synod answers and leaves.
use Rattle.std.specs.Prelude.{List, [], ◌∷◌, Option, Some}
use Rattle.chooser.specs.declared.calls.Call.{Call}
use Rattle.chooser.specs.Meaning.{Answer}
use Rattle.synod.specs.Synod.{Tables, answer_to, after_call}

abbrev pub answers_to : Tables → List Call → List (Option Answer)
answers_to t [] = []
answers_to t (call ∷ calls) = Some (answer_to t call) ∷ answers_to (after_call t call) calls

abbrev pub after_calls : Tables → List Call → Tables
after_calls t [] = t
after_calls t (call ∷ calls) = after_calls (after_call t call) calls
