-- Calls made one after the other, as the turns are written down, are a run.
use Rattle.std.proofs.Common.{◌≡◌, ℕ, ◌+◌, ◌<◌, List, [], ◌∷◌, ◌++◌, length, take, slice_set, Some, Result, sym, refl, ap, ◌∙◌}
use Rattle.std.proofs.lemmas.List.{take_more_set}
use Rattle.calls.specs.declared.call.Answer.{Answer}
use Rattle.calls.specs.declared.call.Call.{Call}
use Rattle.calls.specs.declared.call.Turn.{Turn}
use Rattle.fault.specs.declared.Fault.{Fault}
use Rattle.floor.specs.State.{State}
use Rattle.law.specs.Runs.{Parts, Step, Entry, Run, turns_of, Played}

module _ {C Q S : Type 0} (parts : Parts C Q S) where
  -- the next call goes on with the run
  pub run_more : (start between after : State Q S) (entries : List (Entry C Q S)) (call : Call C) (answer : Result Answer Fault)
      → Run parts start entries between → Step parts between call answer after
      → Run parts start (entries ++ (record { before = between; call = call; answer = answer; after = after } ∷ [])) after
  run_more start between after [] call answer same step = (same, step, refl)
  run_more start between after (entry ∷ entries) call answer (same, first, rest) step =
      (same, first, run_more entry.after between after entries call answer rest step)

  turns_more : (entries : List (Entry C Q S)) (entry : Entry C Q S) → turns_of (entries ++ (entry ∷ [])) ≡ turns_of entries ++ (record { call = entry.call; answer = Some entry.answer } ∷ [])
  turns_more [] entry = refl
  turns_more (first ∷ entries) entry = ap (λ rest. record { call = first.call; answer = Some first.answer } ∷ rest) (turns_more entries entry)

  -- so it is played, too, where the turn is written down at its place
  pub played_more : (start between after : State Q S) (turns : List (Turn C)) (at : ℕ) (call : Call C) (answer : Result Answer Fault) → at < length turns
      → Played parts start (take at turns) between → Step parts between call answer after
      → Played parts start (take (at + 1) (slice_set turns at (record { call = call; answer = Some answer }))) after
  played_more start between after turns at call answer inside played step =
      let entry : Entry C Q S = record { before = between; call = call; answer = answer; after = after } in
      record {
        entries = played.entries ++ (entry ∷ []);
        run = run_more start between after played.entries call answer played.run step;
        told = turns_more played.entries entry ∙ ap (λ ts. ts ++ (record { call = call; answer = Some answer } ∷ [])) played.told ∙ sym (take_more_set turns at (record { call = call; answer = Some answer }) inside);
      }
