-- Linearizability: the operations that took effect stand in one line, which keeps real time, and in which each read returns what the last write ahead of it wrote.
use Rattle.std.specs.Prelude.{◌≡◌, ℕ, ◌<◌, ◌≢◌, ◌⊎◌}
use Rattle.protocol.specs.State.{Read, Write, System, Setting}
use Rattle.protocol.specs.Moves.{Reached, Later}
use Rattle.protocol.specs.Law.{tag_in, IsWrite, IsAnsweredRead, TookEffect, AnsweredBefore}

-- of two operations of one tag: a write before a read, and the read that started sooner
abbrev pub Sooner : System → ℕ → ℕ → Type 0
Sooner system one other =
    (((system.operations.row one).kind ≡ Write) × ((system.operations.row other).kind ≡ Read))
    ⊎ (((system.operations.row one).kind ≡ Read) × ((system.operations.row other).kind ≡ Read) × (one < other))

-- one stands ahead of the other in the line: by tag, a write before the reads of its tag, and those by when they started, which is the order of their rows
abbrev pub Ahead : System → ℕ → ℕ → Type 0
Ahead system one other = (tag_in system one < tag_in system other) ⊎ ((tag_in system one ≡ tag_in system other) × Sooner system one other)

-- The write is the last one ahead of the read, of all writes, and the read returns what it wrote.
pub record LastWrite (system : System) (read write : ℕ) : Type 0 where
  pub is_write : IsWrite system write
  pub took_effect : TookEffect system write
  pub ahead : Ahead system write read
  pub last : (other : ℕ) → IsWrite system other → Ahead system other read → (other ≡ write) ⊎ Ahead system other write
  pub same_content : (system.operations.row read).copy.content ≡ (system.operations.row write).copy.content

-- no write is ahead of the read, which returns the first content
pub record NoWrite (setting : Setting) (system : System) (read : ℕ) : Type 0 where
  pub none : (write : ℕ) → IsWrite system write → Ahead system write read → ⊥
  pub first_content : (system.operations.row read).copy.content ≡ setting.content

-- The line at the late point. It keeps real time: what was answered at some earlier point at which another operation had not started stands ahead of that one.
pub record Line (setting : Setting) (early late : System) : Type 0 where
  pub not_ahead_of_itself : (one : ℕ) → Ahead late one one → ⊥
  pub goes_on : (one other third : ℕ) → Ahead late one other → Ahead late other third → Ahead late one third
  pub orders_any_two : (one other : ℕ) → TookEffect late one → TookEffect late other → one ≢ other → Ahead late one other ⊎ Ahead late other one
  pub keeps_real_time : (first second : ℕ) → AnsweredBefore early first second → TookEffect late second → Ahead late first second
  -- It is one line: what stands in it at the early point stands in it later, in the same order.
  pub stays : (one other : ℕ) → TookEffect early one → TookEffect early other → Ahead early one other → TookEffect late one × TookEffect late other × Ahead late one other
  pub reads_the_last_write : (read : ℕ) → IsAnsweredRead late read → NoWrite setting late read ⊎ ((write : ℕ) × LastWrite late read write)

-- at any two points of every run from an opening
abbrev pub Linearizable : Type 0
Linearizable = (setting : Setting) (early late : System) → Reached setting early → Later setting early late → Line setting early late
