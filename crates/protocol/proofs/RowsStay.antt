-- What was asked stays, and an answer stays as it was given.
use Rattle.std.proofs.Common.{◌≡◌, ℕ, ◌<◌, refl, arith}
use Rattle.protocol.specs.State.{System, Setting}
use Rattle.protocol.specs.Moves.{Later, Now, AfterMove}
use Rattle.protocol.specs.Law.{IsAnswered, SameRequest}
use Rattle.protocol.proofs.RowChanges.{RowsMove, rows_move}

abbrev pub RequestStays : System → System → ℕ → Type 0
RequestStays early late operation = (operation < late.operations.count) × SameRequest (early.operations.row operation) (late.operations.row operation)

abbrev pub AnswerStays : System → System → ℕ → Type 0
AnswerStays early late operation = IsAnswered late operation × (late.operations.row operation ≡ early.operations.row operation)

-- a move takes no row away, and changes nothing of what a row asks for
request_stays_after : (early between late : System) (operation : ℕ) → RequestStays early between operation → RowsMove between late → RequestStays early late operation
request_stays_after early between late operation so_far rows = grind (arith, rows.old operation)

-- an answered row is not open, and a move changes no other rows
answer_stays_after : (early between late : System) (operation : ℕ) → AnswerStays early between operation → RowsMove between late → AnswerStays early late operation
answer_stays_after early between late operation so_far rows = grind (arith, rows.old operation)

pub requests_stay : (setting : Setting) (early late : System) → Later setting early late → (operation : ℕ) → operation < early.operations.count → RequestStays early late operation
requests_stay setting early late Now operation started = (started, record { kind = refl; node = refl; number = refl; members = refl; start = refl; written = λ write. refl })
requests_stay setting early late (AfterMove {between} later move) operation started =
    request_stays_after early between late operation (requests_stay setting early between later operation started) (rows_move setting between late move)

pub answers_stay : (setting : Setting) (early late : System) → Later setting early late → (operation : ℕ) → IsAnswered early operation → AnswerStays early late operation
answers_stay setting early late Now operation given = (given, refl)
answers_stay setting early late (AfterMove {between} later move) operation given =
    answer_stays_after early between late operation (answers_stay setting early between later operation given) (rows_move setting between late move)
