-- The order law: what holds of what clients were told, in every run from a closed floor.
-- It speaks of the calls of a run by their place in it, of their answers, and of what looks at the end of the run answer.
use Rattle.std.specs.Prelude.{◌≡◌, ℕ, ◌<◌, ◌≤◌, Bool, true, false, ◌⊎◌, ◌≢◌, List, take, slice_get, Option, Some, None, Ok}
use Rattle.calls.specs.declared.call.Answer.TheVariants.{Number, Row}
use Rattle.calls.specs.declared.call.Call.{Call}
use Rattle.calls.specs.declared.call.Call.TheVariants as call
use Rattle.content.specs.Bytes.{padded}
use Rattle.desk.specs.Asking.{record_of}
use Rattle.desk.specs.Ending.{may_look}
use Rattle.desk.specs.Opening.{opening_tag}
use Rattle.desk.specs.Tables.{closed}
use Rattle.floor.specs.State.{State}
use Rattle.frame.specs.declared.message.Head.{Head}
use Rattle.frame.specs.declared.message.Tag.{Tag}
use Rattle.frame.specs.Messages.{Said, get, get_ack, put, put_ack, freeze, held, update, reading}
use Rattle.law.specs.Runs.{Parts, Entry, Run}
use Rattle.tables.specs.declared.members.Members.{Members}
use Rattle.tables.specs.declared.records.Configuration.{Configuration}
use Rattle.tables.specs.declared.records.NodeRecord.{NodeRecord}
use Rattle.tables.specs.declared.records.OperationKind.{OperationKind}
use Rattle.tables.specs.declared.records.OperationKind.TheVariants.{Read, Write}
use Rattle.tables.specs.declared.records.OperationRow.{OperationRow}
use Rattle.tables.specs.declared.records.OperationState.TheVariants as state
use Rattle.tables.specs.Copies.{is_higher}
use Rattle.tables.specs.Members.{listed, list_of}
use Rattle.writer.specs.Table.{slot_of}

-- the operation that a frame speaks of; an update speaks of none
abbrev pub operation_of : Said → Option ℕ
operation_of (get head operation) = Some operation
operation_of (get_ack head operation) = Some operation
operation_of (put head operation tag content) = Some operation
operation_of (put_ack head operation) = Some operation
operation_of (freeze head operation) = Some operation
operation_of (held head operation tag content) = Some operation
operation_of (update head count members tag content) = None

-- the node that an update goes to
abbrev pub updated_by : Said → Option ℕ
updated_by (update head count members tag content) = Some head.receiver
updated_by _ = None

-- the call starts a read or a write
abbrev pub is_start : {C : Type 0} → Call C → Bool
is_start (call.Read node) = true
is_start (call.Write node content) = true
is_start _ = false

-- the kind of the operation that a call starts, a read or a write
abbrev pub kind_of : {C : Type 0} → Call C → Option OperationKind
kind_of (call.Read node) = Some Read
kind_of (call.Write node content) = Some Write
kind_of _ = None

-- The words of the law, for a run: what its parts mean, its calls, and the state that it ended in.
module _ {C Q S : Type 0} (parts : Parts C Q S) (calls : List (Entry C Q S)) (end : State Q S) where
  -- the call at a place, counted from 0
  abbrev pub At : ℕ → Entry C Q S → Type 0
  At i entry = slice_get calls i ≡ Some entry

  -- What a look at an operation answers at the end. Its kind, tag and number are the operation's, and so is the content of a read.
  abbrev pub ShownAtEnd : ℕ → OperationRow → Type 0
  ShownAtEnd operation row = may_look end.desk end.t operation ≡ Ok row

  -- the call opened the floor
  pub record Opened (i count : ℕ) (members : Members) (content : C) : Type 0 where
    pub entry : Entry C Q S
    pub there : At i entry
    pub opens : entry.call ≡ call.Open count members content
    pub taken : entry.answer ≡ Ok (Number 0)

  -- the call started the operation, a read or a write: it answered the number of its row
  pub record Started (operation i : ℕ) : Type 0 where
    pub entry : Entry C Q S
    pub there : At i entry
    pub starts : is_start entry.call ≡ true
    pub taken : entry.answer ≡ Ok (Number operation)

  -- the call started the write of a content
  pub record Wrote (operation i : ℕ) (content : C) : Type 0 where
    pub entry : Entry C Q S
    pub there : At i entry
    pub node : ℕ
    pub writes : entry.call ≡ call.Write node content
    pub taken : entry.answer ≡ Ok (Number operation)

  -- the call delivered a frame that says this, and answered so
  pub record Delivered (i : ℕ) (message : Said) (answer : ℕ) : Type 0 where
    pub entry : Entry C Q S
    pub there : At i entry
    pub slot : ℕ
    pub delivers : entry.call ≡ call.Deliver slot
    pub says : reading parts.width parts.from_bytes (slot_of entry.before.t.frames slot) ≡ Ok message
    pub answered : entry.answer ≡ Ok (Number answer)

  -- the call answered the operation: it delivered a frame of it, and answered 2
  pub record Answered (operation i : ℕ) : Type 0 where
    pub message : Said
    pub delivered : Delivered i message 2
    pub of_it : operation_of message ≡ Some operation

  -- the call looked at the operation, and this row was its answer
  pub record Looked (operation i : ℕ) (row : OperationRow) : Type 0 where
    pub entry : Entry C Q S
    pub there : At i entry
    pub looks : entry.call ≡ call.Look operation
    pub answered : entry.answer ≡ Ok (Row row)

  -- an operation that was answered
  pub record IsAnswered (operation : ℕ) (row : OperationRow) : Type 0 where
    pub shown : ShownAtEnd operation row
    pub at : ℕ
    pub answered : Answered operation at

  -- a write whose tag an answered read gave
  pub record IsReturned (operation : ℕ) (row : OperationRow) : Type 0 where
    pub shown : ShownAtEnd operation row
    pub write : row.kind ≡ Write
    pub read : ℕ
    pub given : OperationRow
    pub is_answered : IsAnswered read given
    pub is_read : given.kind ≡ Read
    pub same_tag : given.copy.tag ≡ row.copy.tag

  -- Counted are the answered reads and writes, and each write whose tag an answered read gave.
  abbrev pub Counted : ℕ → OperationRow → Type 0
  Counted operation row = IsAnswered operation row ⊎ IsReturned operation row

  -- the first started at an earlier call
  pub record StartedBefore (one other : ℕ) : Type 0 where
    pub i : ℕ
    pub j : ℕ
    pub first : Started one i
    pub second : Started other j
    pub before : i < j

  -- of two operations of one tag: a write before a read, and the read that started sooner
  abbrev pub Sooner : ℕ → OperationRow → ℕ → OperationRow → Type 0
  Sooner one row other row' =
      ((row.kind ≡ Write) × (row'.kind ≡ Read)) ⊎ ((row.kind ≡ Read) × (row'.kind ≡ Read) × StartedBefore one other)

  -- One operation stands ahead of another: by tag, a write before the reads of its tag, and those by when they started.
  abbrev pub Ahead : ℕ → OperationRow → ℕ → OperationRow → Type 0
  Ahead one row other row' = (is_higher row'.copy.tag row.copy.tag ≡ true) ⊎ ((row.copy.tag ≡ row'.copy.tag) × Sooner one row other row')

  -- a counted write that stands ahead of the read
  pub record WriteAhead (write : ℕ) (written : OperationRow) (read : ℕ) (row : OperationRow) : Type 0 where
    pub counted : Counted write written
    pub is_write : written.kind ≡ Write
    pub ahead : Ahead write written read row

  -- the read gives this content
  abbrev pub Gives : OperationRow → C → Type 0
  Gives row content = row.copy.content ≡ padded (parts.meaning content)

  -- The last write before the read; what it wrote is what the read gives.
  pub record LastWrite (read : ℕ) (row : OperationRow) : Type 0 where
    pub write : ℕ
    pub written : OperationRow
    pub ahead : WriteAhead write written read row
    pub last : (other : ℕ) (row' : OperationRow) → WriteAhead other row' read row → (other ≡ write) ⊎ Ahead other row' write written
    pub content : C
    pub at : ℕ
    pub wrote : Wrote write at content
    pub gives : Gives row content

  -- no write stands before the read, which gives the content that the floor was opened with
  pub record NoWrite (read : ℕ) (row : OperationRow) : Type 0 where
    pub none : (other : ℕ) (row' : OperationRow) → WriteAhead other row' read row → ⊥
    pub content : C
    pub at : ℕ
    pub count : ℕ
    pub members : Members
    pub opened : Opened at count members content
    pub gives : Gives row content

  -- A node holds a configuration from a call on: from the opening, and from each delivery of an update to it that answered 1, as its record shows after that call.
  pub data Holds : ℕ → ℕ → Configuration → Type 0 where
    FromOpening : (i count : ℕ) (members : Members) (content : C) (node : ℕ) (found : NodeRecord) (opened : Opened i count members content) → 1 ≤ node → node ≤ count
        → record_of opened.entry.after.t.nodes node ≡ Some found → Holds i node found.configuration
    FromUpdate : (i : ℕ) (message : Said) (node : ℕ) (found : NodeRecord) (delivered : Delivered i message 1) → updated_by message ≡ Some node
        → record_of delivered.entry.after.t.nodes node ≡ Some found → Holds i node found.configuration

  pub record OrderLaw : Type 0 where
    -- (a) Each counted read gives what the last write before it wrote, or the opening content if there is none.
    pub reads : (read : ℕ) (row : OperationRow) → IsAnswered read row → row.kind ≡ Read → NoWrite read row ⊎ LastWrite read row
    -- The floor was opened once.
    pub opened_once : (i j count count' : ℕ) (members members' : Members) (content content' : C) → Opened i count members content → Opened j count' members' content' → i ≡ j
    -- (b) No counted operation stands behind one that started only after it was answered.
    pub keeps_time : (one other : ℕ) (row row' : OperationRow) (i j : ℕ) → Counted one row → Counted other row' → Answered one i → Started other j → i < j → Ahead other row' one row → ⊥
    -- It is an order of the counted operations, each of which was started by one call.
    pub orders_any_two : (one other : ℕ) (row row' : OperationRow) → Counted one row → Counted other row' → one ≢ other → Ahead one row other row' ⊎ Ahead other row' one row
    pub not_ahead_of_itself : (one : ℕ) (row : OperationRow) → Ahead one row one row → ⊥
    pub goes_on : (one other third : ℕ) (row row' row'' : OperationRow) → Ahead one row other row' → Ahead other row' third row'' → Ahead one row third row''
    pub is_started : (operation : ℕ) (row : OperationRow) → Counted operation row → (i : ℕ) × Started operation i
    pub started_once : (operation i j : ℕ) → Started operation i → Started operation j → i ≡ j
    -- What was started can be looked at, and is of the kind of the call that started it.
    pub can_look : (operation i : ℕ) → Started operation i → (row : OperationRow) × ShownAtEnd operation row
    pub of_its_kind : (operation i : ℕ) (row : OperationRow) (started : Started operation i) → ShownAtEnd operation row → kind_of started.entry.call ≡ Some row.kind
    -- What is answered was started before, so it is a read or a write. One call answers it, and it stays as it was answered: any look after that answered what one at the end does.
    pub was_started : (operation j : ℕ) → Answered operation j → (i : ℕ) × Started operation i × (i < j)
    pub answered_once : (operation i j : ℕ) → Answered operation i → Answered operation j → i ≡ j
    pub answer_stays : (operation : ℕ) (row row' : OperationRow) (i j : ℕ) → Answered operation i → i < j → Looked operation j row' → ShownAtEnd operation row → row' ≡ row
    -- A look at the end shows it as answered if a call answered it, and only then.
    pub shows_answered : (operation i : ℕ) (row : OperationRow) → Answered operation i → ShownAtEnd operation row → row.state ≡ state.Answered
    pub shown_was_answered : (operation : ℕ) (row : OperationRow) → ShownAtEnd operation row → row.state ≡ state.Answered → (i : ℕ) × Answered operation i
    -- (c) What a node holds is what it was given: by the opening, under number 0, or by an update,
    pub opens_with : (i count : ℕ) (members : Members) (content : C) (node : ℕ) (found : NodeRecord) (opened : Opened i count members content) → 1 ≤ node → node ≤ count
        → record_of opened.entry.after.t.nodes node ≡ Some found → found.configuration ≡ record { number = 0; members = members; opening = opening_tag }
    pub installs : (i : ℕ) (head : Head) (count : ℕ) (members : List ℕ) (tag : Tag) (content : List ℕ) (found : NodeRecord) (delivered : Delivered i (update head count members tag content) 1)
        → record_of delivered.entry.after.t.nodes head.receiver ≡ Some found → found.configuration ≡ record { number = head.number; members = list_of (take count members); opening = tag }
    -- and by nothing else.
    pub given_before : (o i count : ℕ) (members : Members) (content : C) (entry : Entry C Q S) (node : ℕ) (found : NodeRecord) → Opened o count members content → o ≤ i → At i entry
        → 1 ≤ node → node ≤ count → record_of entry.after.t.nodes node ≡ Some found → (j : ℕ) × Holds j node found.configuration × (j ≤ i)
    -- All nodes that ever hold a configuration of one number hold the same members and opening tag,
    pub same_configuration : (i j one other : ℕ) (held held' : Configuration) → Holds i one held → Holds j other held' → held.number ≡ held'.number
        → (listed held.members ≡ listed held'.members) × (held.opening ≡ held'.opening)
    -- and no tag that was answered under a lower number exceeds that tag.
    pub carried_over : (operation : ℕ) (row : OperationRow) (i node : ℕ) (held : Configuration) → IsAnswered operation row → Holds i node held → row.number < held.number
        → is_higher row.copy.tag held.opening ≡ false

-- The law of all runs from a closed floor, over whatever tables and whatever the chooser was used for before.
abbrev pub OrderHolds : {C Q S : Type 0} → Parts C Q S → Type 0
OrderHolds {C} {Q} {S} parts = (start end : State Q S) (calls : List (Entry C Q S)) → start.desk ≡ closed → Run parts start calls end → OrderLaw parts calls end
