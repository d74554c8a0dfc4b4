-- The law's words for starts and answers, and what the calls of a run did to the rows.
use Rattle.std.proofs.Common.{◌≡◌, ℕ, ◌≢◌, true, List, Some, Ok, refl, ap, sym, ◌∙◌, subst}
use Rattle.calls.specs.declared.call.Answer.TheVariants.{Number}
use Rattle.calls.specs.declared.call.Call.{Call}
use Rattle.calls.specs.declared.call.Call.TheVariants.{Open, Read, Write, Regroup, Propose, Settle, Work, Deliver, Lose, GiveUp, Stop, Look}
use Rattle.content.specs.Bytes.{padded}
use Rattle.floor.specs.State.{State}
use Rattle.frame.specs.Messages.{Said, reading}
use Rattle.law.specs.Law.{Started, Wrote, Answered, operation_of, is_start}
use Rattle.law.specs.Runs.{Parts, Entry}
use Rattle.law.proofs.Begun.{BegunAt, AnsweredAt}
use Rattle.law.proofs.Opening.{FromClosed, IsOpen, RowsAt, made_when_open}
use Rattle.law.proofs.Places.{state_at, goes_at}
use Rattle.law.proofs.Rows.{Begins, Starts, Answers, Neither}
use Rattle.tables.specs.declared.records.OperationKind.TheVariants as kind
use Rattle.tables.specs.declared.records.OperationRow.{OperationRow}
use Rattle.writer.specs.Table.{slot_of}

-- By how a row begins: a call that starts what is no regroup is a start of the law,
start_begins : {C : Type 0} (meaning : C → List ℕ) (call : Call C) (row : OperationRow) → Begins meaning call row → row.kind ≢ kind.Regroup → is_start call ≡ true
start_begins meaning (Read node) row begins kind = refl
start_begins meaning (Write node content) row begins kind = refl
start_begins meaning (Regroup node members) row begins kind = absurd (kind begins)
start_begins meaning (Open count members content) row begins kind = absurd begins
start_begins meaning (Propose operation) row begins kind = absurd begins
start_begins meaning (Settle node) row begins kind = absurd begins
start_begins meaning (Work number step ballot set) row begins kind = absurd begins
start_begins meaning (Deliver slot) row begins kind = absurd begins
start_begins meaning (Lose slot) row begins kind = absurd begins
start_begins meaning (GiveUp operation) row begins kind = absurd begins
start_begins meaning (Stop node) row begins kind = absurd begins
start_begins meaning (Look operation) row begins kind = absurd begins

-- and one that starts a write is a write of the content that the row has.
write_begins : {C : Type 0} (meaning : C → List ℕ) (call : Call C) (row : OperationRow) → Begins meaning call row → row.kind ≡ kind.Write
    → (node : ℕ) × (content : C) × (call ≡ Write node content) × (row.copy.content ≡ padded (meaning content))
write_begins meaning (Write node content) row begins kind = (node, content, refl, begins.1)
write_begins meaning (Read node) row begins kind = absurd (cc)
write_begins meaning (Regroup node members) row begins kind = absurd (cc)
write_begins meaning (Open count members content) row begins kind = absurd begins
write_begins meaning (Propose operation) row begins kind = absurd begins
write_begins meaning (Settle node) row begins kind = absurd begins
write_begins meaning (Work number step ballot set) row begins kind = absurd begins
write_begins meaning (Deliver slot) row begins kind = absurd begins
write_begins meaning (Lose slot) row begins kind = absurd begins
write_begins meaning (GiveUp operation) row begins kind = absurd begins
write_begins meaning (Stop node) row begins kind = absurd begins
write_begins meaning (Look operation) row begins kind = absurd begins

module _ {C Q S : Type 0} {parts : Parts C Q S} {calls : List (Entry C Q S)} {end : State Q S} (ran : FromClosed parts calls end) where
  abbrev Begun : ℕ → ℕ → Type 0
  Begun operation place = BegunAt ran operation place

  abbrev RowAnswered : ℕ → ℕ → Type 0
  RowAnswered operation place = AnsweredAt ran operation place

  pub started_of : (operation place : ℕ) (begun : Begun operation place) → begun.starts.row.kind ≢ kind.Regroup → Started parts calls end operation place
  started_of operation place begun read_or_write = record {
    entry = begun.entry;
    there = begun.there;
    starts = start_begins parts.meaning begun.entry.call begun.starts.row begun.starts.begins read_or_write;
    taken = begun.starts.answered ∙ ap (λ n. Ok (Number n)) begun.same;
  }

  pub wrote_of : (operation place : ℕ) (begun : Begun operation place) → begun.starts.row.kind ≡ kind.Write
      → (content : C) × Wrote parts calls end operation place content × (begun.starts.row.copy.content ≡ padded (parts.meaning content))
  wrote_of operation place begun is_write =
      let (node, content, writes, same) = write_begins parts.meaning begun.entry.call begun.starts.row begun.starts.begins is_write in (
        content,
        record { entry = begun.entry; there = begun.there; node = node; writes = writes; taken = begun.starts.answered ∙ ap (λ n. Ok (Number n)) begun.same },
        same,
      )

  -- two readings of one slot say the same
  same_operation : (state state' : State Q S) (slot slot' operation operation' : ℕ) (message message' : Said) → state ≡ state' → slot ≡ slot'
      → reading parts.width parts.from_bytes (slot_of state.t.frames slot) ≡ Ok message → reading parts.width parts.from_bytes (slot_of state'.t.frames slot') ≡ Ok message'
      → operation_of message ≡ Some operation → operation_of message' ≡ Some operation' → operation ≡ operation'
  same_operation state state' slot slot' operation operation' message message' same_state same_slot says says' of_it of_it' =
      let read : reading parts.width parts.from_bytes (slot_of state'.t.frames slot') ≡ Ok message =
      subst (λ (s : State Q S). reading parts.width parts.from_bytes (slot_of s.t.frames slot') ≡ Ok message) same_state
      (subst (λ k. reading parts.width parts.from_bytes (slot_of state.t.frames k) ≡ Ok message) same_slot says) in
      let same : message ≡ message' = cc in
      let of_both : operation_of message' ≡ Some operation = subst (λ m. operation_of m ≡ Some operation) same of_it in
      cc

  -- A delivery that answers 2 answers the row of the operation that its frame speaks of;
  answered_by_rows : (operation place : ℕ) (answered : Answered parts calls end operation place) → IsOpen ran place
      → RowsAt ran place answered.delivered.entry → RowAnswered operation place
  answered_by_rows operation place answered is_open (Starts starts) = absurd (subst (λ call. Begins parts.meaning call starts.row) answered.delivered.delivers starts.begins)
  answered_by_rows operation place answered is_open (Answers answers) =
      let delivered = answered.delivered in
      let from = (goes_at parts ran.start end calls ran.run place delivered.entry delivered.there).from in
      let delivers = answers.delivers in
      let delivers' = delivered.delivers in
      let same_slot : answers.slot ≡ delivered.slot = cc in
      record {
        entry = delivered.entry;
        there = delivered.there;
        is_open = is_open;
        answers = answers;
        same = same_operation (state_at ran.start calls place) delivered.entry.before answers.slot delivered.slot answers.operation operation answers.message answered.message (sym from) same_slot
            answers.says delivered.says answers.of_it answered.of_it;
      }
  answered_by_rows operation place answered is_open (Neither neither) = absurd (neither.no_answer answered.delivered.slot answered.delivered.delivers answered.delivered.answered)

  pub answered_at : (operation place : ℕ) → Answered parts calls end operation place → RowAnswered operation place
  answered_at operation place answered =
      let delivered = answered.delivered in
      let two = delivered.answered in
      let delivers = delivered.delivers in
      let (is_open, rows) = made_when_open ran place delivered.entry delivered.there (λ fault refused. cc) (λ count members content opens. cc) in
      answered_by_rows operation place answered is_open rows

  -- and the other way round.
  pub answered_of : (operation place : ℕ) → RowAnswered operation place → Answered parts calls end operation place
  answered_of operation place answered =
      let answers = answered.answers in
      let from = (goes_at parts ran.start end calls ran.run place answered.entry answered.there).from in
      record {
        message = answers.message;
        delivered = record {
          entry = answered.entry;
          there = answered.there;
          slot = answers.slot;
          delivers = answers.delivers;
          says = subst (λ (s : State Q S). reading parts.width parts.from_bytes (slot_of s.t.frames answers.slot) ≡ Ok answers.message) (sym from) answers.says;
          answered = answers.answered;
        };
        of_it = answers.of_it ∙ ap (λ n. Some n) answered.same;
      }
