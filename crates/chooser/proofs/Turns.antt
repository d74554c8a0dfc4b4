-- A run goes on by one turn.
use Rattle.std.proofs.Common.{◌≡◌, ℕ, ◌+◌, ◌<◌, List, [], ◌∷◌, ◌++◌, length, take, slice_set, Some, sym, refl, subst}
use Rattle.std.proofs.lemmas.List.{take_more_set}
use Rattle.chooser.specs.declared.calls.Turn.{Turn}
use Rattle.chooser.specs.Meaning.{Answer, Decisions}
use Rattle.chooser.specs.Runs.{Does, Run, DecisionsStay}

module _ {S : Type 0} (offering : S → ℕ → ℕ → Answer → S → Type 0) (working : S → ℕ → ℕ → ℕ → ℕ → Answer → S → Type 0) where
  -- what the next call does is a run behind the run so far
  pub run_more : (before between after : S) (turns : List Turn) (turn : Turn) (answer : Answer)
      → Run offering working before turns between → turn.answer ≡ Some answer → Does offering working between turn.call answer after
      → Run offering working before (turns ++ (turn ∷ [])) after
  run_more before between after [] turn answer run is does =
      (answer, after, is, subst (λ s. Does offering working s turn.call answer after) run does, refl)
  run_more before between after (first ∷ turns) turn answer (a, next, first_is, first_does, rest) is does =
      (a, next, first_is, first_does, run_more next between after turns turn answer rest is does)

  -- so it is a run too where the turn is written down at its place
  pub run_written : (before between after : S) (turns : List Turn) (at : ℕ) (turn : Turn) (answer : Answer) → at < length turns
      → Run offering working before (take at turns) between → turn.answer ≡ Some answer → Does offering working between turn.call answer after
      → Run offering working before (take (at + 1) (slice_set turns at turn)) after
  run_written before between after turns at turn answer inside run is does =
      subst (λ ts. Run offering working before ts after) (sym (take_more_set turns at turn inside))
      (run_more before between after (take at turns) turn answer run is does)

-- what stays and stays again stays
pub stay_on : (before between after : Decisions) → DecisionsStay before between → DecisionsStay between after → DecisionsStay before after
stay_on before between after first then number value stands = then number value (first number value stands)
