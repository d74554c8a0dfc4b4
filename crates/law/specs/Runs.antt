-- Runs: calls made one after the other, each on what the one before left, and what each was answered.
use Rattle.std.specs.Prelude.{◌≡◌, ℕ, Bool, List, [], ◌∷◌, map, Option, Some, Result, Ok, Err}
use Rattle.calls.specs.declared.call.Answer.{Answer}
use Rattle.calls.specs.declared.call.Answer.TheVariants.{Number, Row}
use Rattle.calls.specs.declared.call.Call.{Call}
use Rattle.calls.specs.declared.call.Call.TheVariants.{Open, Read, Write, Regroup, Propose, Settle, Work, Deliver, Lose, GiveUp, Stop, Look}
use Rattle.calls.specs.declared.call.Turn.{Turn}
use Rattle.chooser.specs.Meaning.{Decisions}
use Rattle.chooser.specs.Meaning as chooser
use Rattle.delivery.specs.Delivery.{number}
use Rattle.desk.specs.Ending.{may_look}
use Rattle.desk.specs.Tables.{tables, closed}
use Rattle.fault.specs.declared.Fault.{Fault}
use Rattle.floor.specs.State.{State}
use Rattle.floor.specs.Steps.{opens, reads, writes, regroups, Proposes, settles, Works, delivers, loses, gives_up, stops}
use Rattle.tables.specs.declared.records.NodeRecord.{NodeRecord}
use Rattle.tables.specs.declared.records.OperationRow.{OperationRow}
use Rattle.tables.specs.declared.records.ProposalRow.{ProposalRow}

-- What a broker's parts mean: a kind of content, a quorum rule and a chooser.
pub record Parts (C Q S : Type 0) : Type 1 where
  pub width : ℕ
  pub meaning : C → List ℕ
  pub from_bytes : List ℕ → Option C
  pub winning : Q → ℕ → ℕ → Bool
  pub decided : S → Decisions
  pub offering : S → ℕ → ℕ → chooser.Answer → S → Type 0
  pub working : S → ℕ → ℕ → ℕ → ℕ → chooser.Answer → S → Type 0

abbrev pub parts : {C Q S : Type 0} → ℕ → (C → List ℕ) → (List ℕ → Option C) → (Q → ℕ → ℕ → Bool) → (S → Decisions) → (S → ℕ → ℕ → chooser.Answer → S → Type 0)
    → (S → ℕ → ℕ → ℕ → ℕ → chooser.Answer → S → Type 0) → Parts C Q S
parts width meaning from_bytes winning decided offering working =
    record { width = width; meaning = meaning; from_bytes = from_bytes; winning = winning; decided = decided; offering = offering; working = working }

-- an answer as a number, where it has one
abbrev pub told : {A : Type 0} → (A → ℕ) → Result A Fault → Result Answer Fault
told numbered (Ok value) = Ok (Number (numbered value))
told numbered (Err fault) = Err fault

abbrev pub zero_told : Result (Unit {0}) Fault → Result Answer Fault
zero_told answer = told (λ _. 0) answer

abbrev pub number_told : Result ℕ Fault → Result Answer Fault
number_told answer = told (λ value. value) answer

abbrev pub row_told : Result OperationRow Fault → Result Answer Fault
row_told (Ok row) = Ok (Row row)
row_told (Err fault) = Err fault

-- what a call answers, told so, and the state that it leaves
abbrev pub telling : {A Q S : Type 0} → (Result A Fault → Result Answer Fault) → Result A Fault × State Q S → Result Answer Fault × State Q S
telling tells (answer, after) = (tells answer, after)

-- What a call does: before it, the call, its answer, after it.
abbrev pub Step : {C Q S : Type 0} → Parts C Q S → State Q S → Call C → Result Answer Fault → State Q S → Type 0
Step parts before (Open count members content) answer after = (answer, after) ≡ telling zero_told (opens before count members (parts.meaning content))
Step parts before (Read node) answer after = (answer, after) ≡ telling number_told (reads parts.width before node)
Step parts before (Write node content) answer after = (answer, after) ≡ telling number_told (writes parts.width before node (parts.meaning content))
Step parts before (Regroup node members) answer after = (answer, after) ≡ telling number_told (regroups parts.width before node members)
Step parts before (Propose operation) answer after =
    (row : Result ℕ Fault) × Proposes (parts.winning before.rule) parts.offering before operation row after × (answer ≡ number_told row)
Step parts before (Settle node) answer after = (answer, after) ≡ telling number_told (settles parts.width (parts.decided before.chooser) before node)
Step parts before (Work number step ballot set) answer after =
    (taken : Result (Unit {0}) Fault) × Works parts.working before number step ballot set taken after × (answer ≡ zero_told taken)
Step parts before (Deliver slot) answer after = (answer, after) ≡ telling (told number) (delivers parts.width parts.from_bytes (parts.winning before.rule) before slot)
Step parts before (Lose slot) answer after = (answer, after) ≡ telling zero_told (loses before slot)
Step parts before (GiveUp operation) answer after = (answer, after) ≡ telling zero_told (gives_up before operation)
Step parts before (Stop node) answer after = (answer, after) ≡ telling zero_told (stops before node)
Step parts before (Look operation) answer after = (answer ≡ row_told (may_look before.desk before.t operation)) × (after ≡ before)

-- A call of a run: the state before it, the call, its answer, the state after it.
pub record Entry (C Q S : Type 0) : Type 0 where
  pub before : State Q S
  pub call : Call C
  pub answer : Result Answer Fault
  pub after : State Q S

-- A run from one state to another: each call begins with exactly what the one before left.
abbrev pub Run : {C Q S : Type 0} → Parts C Q S → State Q S → List (Entry C Q S) → State Q S → Type 0
Run parts start [] end = end ≡ start
Run parts start (entry ∷ entries) end =
    (entry.before ≡ start) × Step parts entry.before entry.call entry.answer entry.after × Run parts entry.after entries end

-- a closed floor with these tables
abbrev pub beginning : {Q S : Type 0} → Q → S → List NodeRecord → List OperationRow → List ℕ → List ProposalRow → State Q S
beginning rule chooser nodes operations frames proposals = record { desk = closed; rule = rule; chooser = chooser; t = tables nodes operations frames proposals }

-- the calls of a run with their answers, as turns
abbrev pub turns_of : {C Q S : Type 0} → List (Entry C Q S) → List (Turn C)
turns_of entries = map (λ entry. record { call = entry.call; answer = Some entry.answer }) entries

-- the calls of turns
abbrev pub calls_of : {C : Type 0} → List (Turn C) → List (Call C)
calls_of turns = map (λ turn. turn.call) turns

-- What playing leaves: there was a run with these calls, which were answered as the turns say.
pub record Played {C Q S : Type 0} (parts : Parts C Q S) (start : State Q S) (turns : List (Turn C)) (end : State Q S) : Type 0 where
  pub entries : List (Entry C Q S)
  pub run : Run parts start entries end
  pub told : turns_of entries ≡ turns
