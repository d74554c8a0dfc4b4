-- Moments tell what came first: what starts or is answered does so at a moment above all that were before.
use Rattle.std.proofs.Common.{◌≡◌, ℕ, ◌<◌, ◌≤◌, arith}
use Rattle.std.proofs.lemmas.Bool.{cases_lt}
use Rattle.protocol.specs.State.{System, Setting}
use Rattle.protocol.specs.Moves.{Reached, AtOpening, ByMove, Later, Now, AfterMove}
use Rattle.protocol.specs.Law.{IsAnswered, AnsweredBefore}
use Rattle.protocol.proofs.RowChanges.{RowsMove, rows_move}
use Rattle.protocol.proofs.RowsStay.{answers_stay}

-- At one point: operations have started by now, in the order of their rows; and answers were given by now, after their operations started.
record InTime (system : System) : Type 0 where
  pub started : (operation : ℕ) → operation < system.operations.count → (system.operations.row operation).start ≤ system.moment
  pub answered : (operation : ℕ) → IsAnswered system operation → (system.operations.row operation).answer ≤ system.moment
  pub starts_first : (operation : ℕ) → IsAnswered system operation → (system.operations.row operation).start < (system.operations.row operation).answer
  pub starts_rise : (first second : ℕ) → first < second → second < system.operations.count → (system.operations.row first).start < (system.operations.row second).start

at_opening : (system : System) → system.operations.count ≡ 0 → InTime system
at_opening system none = grind arith

-- A move raises the moment for what starts or is answered by it, and other rows keep their moments.
in_time_after : (before after : System) → RowsMove before after → InTime before → InTime after
in_time_after before after rows in_time = grind (arith, cases_lt)

in_time : (setting : Setting) (system : System) → Reached setting system → InTime system
in_time setting system (AtOpening opening) = at_opening system opening.no_operations
in_time setting system (ByMove {before} reached move) = in_time_after before system (rows_move setting before system move) (in_time setting before reached)

module _ (setting : Setting) (system : System) (reached : Reached setting system) where
  pub starts_rise : (first second : ℕ) → first < second → second < system.operations.count → (system.operations.row first).start < (system.operations.row second).start
  starts_rise = (in_time setting system reached).starts_rise

  pub starts_first : (operation : ℕ) → IsAnswered system operation → (system.operations.row operation).start < (system.operations.row operation).answer
  starts_first = (in_time setting system reached).starts_first

-- Of two points: the moment does not fall, and what was not there at the early one starts after it.
record Since (early late : System) : Type 0 where
  pub moment : early.moment ≤ late.moment
  pub starts_after : (operation : ℕ) → early.operations.count ≤ operation → operation < late.operations.count → early.moment < (late.operations.row operation).start

since_now : (system : System) → Since system system
since_now system = grind arith

-- the move that adds a row raises the moment, and the row starts at that
since_after : (early between late : System) → Since early between → RowsMove between late → Since early late
since_after early between late so_far rows = grind (arith, cases_lt)

module _ (setting : Setting) (early : System) where
  pub reached_later : (late : System) → Reached setting early → Later setting early late → Reached setting late
  reached_later late reached Now = reached
  reached_later late reached (AfterMove {between} later move) = ByMove (reached_later between reached later) move

  since : (late : System) → Later setting early late → Since early late
  since late Now = since_now early
  since late (AfterMove {between} later move) = since_after early between late (since between later) (rows_move setting between late move)

  -- an answer was given by the early moment, and stays
  pub moments_tell : (late : System) → Reached setting early → Later setting early late
      → (first second : ℕ) → AnsweredBefore early first second → second < late.operations.count → (late.operations.row first).answer < (late.operations.row second).start
  moments_tell late reached later first second before in_table =
      grind (arith, answers_stay setting early late later first before.0, (in_time setting early reached).answered first before.0, (since late later).starts_after second before.1 in_table)
