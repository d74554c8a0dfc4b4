-- What ballots are for, over whole runs of calls: no two values are ever counted under one number.
use Rattle.std.specs.Prelude.{◌≡◌, ℕ, List, slice_get, Some, Ok}
use Rattle.chooser.specs.declared.calls.Call.TheVariants.{Work}
use Rattle.chooser.specs.declared.calls.Turn.{Turn}
use Rattle.chooser.specs.Meaning.{decision_at}
use Rattle.synod.specs.declared.synod.Synod.{Synod}
use Rattle.synod.specs.Synod.{decided_in, ballot_value}

-- in some turn this step on the ballot of the number was taken
abbrev pub StepTaken : ℕ → List Turn → ℕ → ℕ → Type 0
StepTaken step turns number ballot =
    (turn set : ℕ) × (slice_get turns turn ≡ Some (record { call = Work number step ballot set; answer = Some (Ok tt) }))

-- the ballot was fixed, which is step 2
abbrev pub Fixed : List Turn → ℕ → ℕ → Type 0
Fixed turns number ballot = StepTaken 2 turns number ballot

-- the ballot was counted, which is step 4
abbrev pub Counted : List Turn → ℕ → ℕ → Type 0
Counted turns number ballot = StepTaken 4 turns number ballot

-- the ballot has a value, and it is what is decided under the number
abbrev pub Decided : Synod → ℕ → ℕ → Type 0
Decided synod number ballot =
    (value : ℕ) × (ballot_value synod number ballot ≡ Some value) × (decision_at (decided_in synod) number ≡ Some value)

-- In a run that ends with this synod, two ballots of one number that were ever counted have one value, and it is what is decided. A ballot that was fixed has a value.
pub record OneValue (turns : List Turn) (after : Synod) : Type 0 where
  pub one_value : (number one other : ℕ) → Counted turns number one → Counted turns number other → ballot_value after number one ≡ ballot_value after number other
  pub is_decided : (number ballot : ℕ) → Counted turns number ballot → Decided after number ballot
  pub has_value : (number ballot : ℕ) → Fixed turns number ballot → (value : ℕ) × (ballot_value after number ballot ≡ Some value)

-- a ballot that is fixed keeps its value
abbrev pub ValuesStay : Synod → Synod → Type 0
ValuesStay before after = (number ballot value : ℕ) → ballot_value before number ballot ≡ Some value → ballot_value after number ballot ≡ Some value
