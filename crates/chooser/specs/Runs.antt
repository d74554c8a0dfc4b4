-- Runs of a chooser: calls made one after the other, each on what the one before left.
use Rattle.std.specs.Prelude.{◌≡◌, ℕ, List, [], ◌∷◌, map, Option, Some}
use Rattle.chooser.specs.declared.calls.Call.{Call}
use Rattle.chooser.specs.declared.calls.Call.TheVariants.{Offer, Work}
use Rattle.chooser.specs.declared.calls.Turn.{Turn}
use Rattle.chooser.specs.Meaning.{Answer, Decisions, decision_at}

-- what a call does to a chooser whose offering and working are these relations
abbrev pub Does : {S : Type 0} → (S → ℕ → ℕ → Answer → S → Type 0) → (S → ℕ → ℕ → ℕ → ℕ → Answer → S → Type 0) → S → Call → Answer → S → Type 0
Does offering working before (Offer number value) answer after = offering before number value answer after
Does offering working before (Work number step ballot set) answer after = working before number step ballot set answer after

-- a run: the turns' calls, each answered as the turn says
abbrev pub Run : {S : Type 0} → (S → ℕ → ℕ → Answer → S → Type 0) → (S → ℕ → ℕ → ℕ → ℕ → Answer → S → Type 0) → S → List Turn → S → Type 0
Run offering working before [] after = after ≡ before
Run {S} offering working before (turn ∷ turns) after =
    (answer : Answer) × (between : S) × (turn.answer ≡ Some answer) × Does offering working before turn.call answer between × Run offering working between turns after

-- the calls of turns
abbrev pub calls_of : List Turn → List Call
calls_of turns = map (λ (turn : Turn). turn.call) turns

-- the answers of turns
abbrev pub answers_of : List Turn → List (Option Answer)
answers_of turns = map (λ (turn : Turn). turn.answer) turns

-- every decision that stands before stands after
abbrev pub DecisionsStay : Decisions → Decisions → Type 0
DecisionsStay before after = (number value : ℕ) → decision_at before number ≡ Some value → decision_at after number ≡ Some value
