-- What a move does to the table of operations. The kinds of moves are gone through once, here; what follows about rows asks only what became of each row.
use Rattle.std.proofs.Common.{◌≡◌, ℕ, suc, ◌<◌, ◌≤◌, ◌⊎◌, List, refl, inl, inr, arith}
use Rattle.std.proofs.lemmas.Bool.{cases_eq}
use Rattle.protocol.specs.State.{Copy, Places, Kind, Write, Stage, Open, Answered, Operation, System, Setting}
use Rattle.protocol.specs.Law.{SameRequest}
use Rattle.protocol.specs.Effects.{Kept, RowBecomes, Added, RowsChanged}
use Rattle.protocol.specs.Changes.{starting}
use Rattle.protocol.specs.Moves.{Move, StartRead, StartWrite, StartRegroup, DeliverGet, DeliverPut, DeliverFreeze, DeliverGetAck, DeliverPutAck, AnswerRead, AnswerWrite, DeliverHeld, DeliverLowerHeld, DeliverUpdate, Propose, Settle, Decide, GiveUp, Stop, Lose}

-- An open row that changes; if it is answered now, then at the moment to which the move raises it.
pub record Turned (before after : System) (old new : Operation) : Type 0 where
  pub was_open : old.stage ≡ Open
  pub answered_now : new.stage ≡ Answered → (new.answer ≡ suc before.moment) × (after.moment ≡ suc before.moment)

-- A row that was there: what it asks for stays, and it changes only if it was open.
pub record OldRow (before after : System) (old new : Operation) : Type 0 where
  pub asked : SameRequest old new
  pub change : (new ≡ old) ⊎ Turned before after old new

-- A row that was not there: it follows all others, and starts at the moment to which the move raises it.
pub record NewRow (before after : System) (operation : ℕ) (new : Operation) : Type 0 where
  pub follows : operation ≡ before.operations.count
  pub is_open : new.stage ≡ Open
  pub starts_now : (new.start ≡ suc before.moment) × (after.moment ≡ suc before.moment)

-- what becomes of each row, and of the moment
pub record RowsMove (before after : System) : Type 0 where
  pub count_grows : before.operations.count ≤ after.operations.count
  pub moment : (after.moment ≡ before.moment) ⊎ (after.moment ≡ suc before.moment)
  pub old : (operation : ℕ) → operation < before.operations.count → OldRow before after (before.operations.row operation) (after.operations.row operation)
  pub new : (operation : ℕ) → before.operations.count ≤ operation → operation < after.operations.count → NewRow before after operation (after.operations.row operation)

module _ (setting : Setting) (before after : System) where
  -- no row changes
  kept : RowsChanged Kept before.operations after.operations → after.moment ≡ before.moment → RowsMove before after
  kept rows moment = grind arith

  -- an open row gets another copy, set, stage and answer
  turned : {operation : ℕ} {copy : Copy} {set : Places} {stage : Stage} {answer : ℕ}
      → RowsChanged (RowBecomes operation (record (before.operations.row operation) { copy = copy; set = set; stage = stage; answer = answer })) before.operations after.operations
      → (before.operations.row operation).stage ≡ Open
      → ((before.operations.row operation).kind ≡ Write → copy ≡ (before.operations.row operation).copy)
      → (stage ≡ Answered → (answer ≡ suc before.moment) × (after.moment ≡ suc before.moment))
      → (after.moment ≡ before.moment) ⊎ (after.moment ≡ suc before.moment)
      → RowsMove before after
  turned rows was_open written answered_now moment = grind (arith, cases_eq)

  -- an operation starts
  added : {kind : Kind} {node : ℕ} {copy : Copy} {members : List ℕ}
      → RowsChanged (Added (starting before kind node copy members)) before.operations after.operations
      → after.moment ≡ suc before.moment
      → RowsMove before after
  added rows ticks = grind arith

  pub rows_move : Move setting before after → RowsMove before after
  rows_move (effect, StartRead _ _, step) = added step.operations step.moment
  rows_move (effect, StartWrite _ _ _, step) = added step.operations step.moment
  rows_move (effect, StartRegroup _ _ _, step) = added step.operations step.moment
  rows_move (effect, DeliverGet _ _ _ _ _ _, step) = kept step.operations step.moment
  rows_move (effect, DeliverPut _ _ _ _ _ _ _, step) = kept step.operations step.moment
  rows_move (effect, DeliverFreeze _ _ _ _ _ _ _, step) = kept step.operations step.moment
  rows_move (effect, DeliverGetAck _ _ _ _ _ _ ack _, step) = turned step.operations ack.counts.waits.still_open (λ write. refl) (λ answered. cc) (inl step.moment)
  rows_move (effect, DeliverPutAck _ _ _ _ _ _ ack _, step) = turned step.operations ack.counts.waits.still_open (λ write. refl) (λ answered. cc) (inl step.moment)
  rows_move (effect, AnswerRead _ _ _ _ _ _ ack _, step) = turned step.operations ack.counts.waits.still_open (λ write. cc) (λ answered. (refl, step.moment)) (inr step.moment)
  rows_move (effect, AnswerWrite _ _ _ _ _ _ ack _, step) = turned step.operations ack.counts.waits.still_open (λ write. refl) (λ answered. (refl, step.moment)) (inr step.moment)
  rows_move (effect, DeliverHeld _ _ _ _ _ _ _ _ counts _, step) = turned step.operations counts.waits.still_open (λ write. cc) (λ answered. cc) (inl step.moment)
  rows_move (effect, DeliverLowerHeld _ _ _ _ _ _ _ _ counts _, step) = turned step.operations counts.waits.still_open (λ write. refl) (λ answered. cc) (inl step.moment)
  rows_move (effect, DeliverUpdate _ _ _ _ _, step) = kept step.operations step.moment
  rows_move (effect, Propose _ proposes, step) = turned step.operations proposes.waits.still_open (λ write. refl) (λ answered. cc) (inl step.moment)
  rows_move (effect, Settle _ _ _ _, step) = kept step.operations step.moment
  rows_move (effect, Decide _ _ _, step) = kept step.operations step.moment
  rows_move (effect, GiveUp _ waits, step) = turned step.operations waits.still_open (λ write. refl) (λ answered. cc) (inl step.moment)
  rows_move (effect, Stop _, step) = kept step.operations step.moment
  rows_move (effect, Lose, step) = kept step.operations step.moment
