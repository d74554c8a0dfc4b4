-- What each call on an open floor does to the operation rows.
use Rattle.std.proofs.Common.{◌≡◌, ℕ, ◌<◌, Bool, true, false, inl, inr, List, Some, Result, Ok, Err, refl, ap, slice_get, slice_set, subst, sym}
use Rattle.std.specs.Prelude.{nat_lt, ok_or}
use Rattle.std.proofs.lemmas.Bool.{ltb-true}
use Rattle.calls.specs.declared.call.Answer.{Answer}
use Rattle.calls.specs.declared.call.Call.{Call}
use Rattle.calls.specs.declared.call.Call.TheVariants.{Open, Read, Write, Regroup, Propose, Settle, Work, Deliver, Lose, GiveUp, Stop, Look}
use Rattle.chooser.specs.Meaning as chooser
use Rattle.desk.specs.Asking.{served, started}
use Rattle.desk.specs.Ending.{still_open, may_give_up, giving_up, frame_lost, losing, may_stop, stopping}
use Rattle.desk.specs.declared.desk.Desk.{Desk}
use Rattle.desk.specs.Opening.{may_open, opened}
use Rattle.desk.specs.Tables.{Tables}
use Rattle.fault.specs.declared.Fault.{Fault}
use Rattle.fault.specs.declared.Fault.TheVariants.{AlreadyOpen, NotOpen, NoRegroup, NotStarted}
use Rattle.floor.specs.State.{State}
use Rattle.floor.specs.Steps.{leaving_tables}
use Rattle.handover.specs.Proposing.{regroup_open, running_node, frozen_group, proposal_left, may_propose, offered, Proposing}
use Rattle.handover.specs.Settling.{may_settle, settling}
use Rattle.node.specs.Conditions.{is_open, same_kind}
use Rattle.refusal.specs.declared.Refusal.{Refusal}
use Rattle.law.specs.Law.{is_start}
use Rattle.law.specs.Runs.{Parts, Step, telling, number_told, zero_told}
use Rattle.law.proofs.Outcomes.{Outcome, state_of, Refused, refused_by}
use Rattle.law.proofs.DeliverSteps.{delivery_rows}
use Rattle.law.proofs.Passing.{and_then_passes, result_and_passes, test_passes, found_passes}
use Rattle.law.proofs.Rows.{Edits, RowStep, Neither, refusal}
use Rattle.law.proofs.StartSteps.{read_starts, write_starts, regroup_starts}
use Rattle.slots.specs.Slots.{lost}
use Rattle.tables.specs.declared.members.Members.{Members}
use Rattle.tables.specs.declared.records.NodeRecord.{NodeRecord}
use Rattle.tables.specs.declared.records.OperationKind.TheVariants as kind
use Rattle.tables.specs.declared.records.OperationRow.{OperationRow}
use Rattle.tables.specs.declared.records.OperationState.{OperationState}
use Rattle.tables.specs.declared.records.OperationState.TheVariants as state
use Rattle.tables.specs.declared.records.ProposalRow.{ProposalRow}

-- the row of an operation that was started
started_is : (desk : Desk) (rows : List OperationRow) (operation : ℕ) (row : OperationRow) → started desk rows operation ≡ Ok row
    → (operation < desk.operations_used) × (slice_get rows operation ≡ Some row)
started_is desk rows operation row passes =
    let (below, found) = test_passes (nat_lt operation desk.operations_used) (ok_or (slice_get rows operation) NotStarted) NotStarted row passes in
    (ltb-true _ _ below, found_passes (slice_get rows operation) NotStarted row found)

-- A row that is used and open.
record UsedAndOpen (desk : Desk) (t : Tables) (operation : ℕ) (row : OperationRow) : Type 0 where
  used : operation < desk.operations_used
  there : slice_get t.operations operation ≡ Some row
  open_state : is_open row.state ≡ true

open_is : (was row : OperationRow) → still_open was ≡ Ok row → (is_open was.state ≡ true) × (was ≡ row)
open_is was row passes = let (met, is) = test_passes (is_open was.state) (Ok was) NotOpen row passes in (met, cc)

used_and_open : (desk : Desk) (t : Tables) (operation : ℕ) (was row : OperationRow) → started desk t.operations operation ≡ Ok was → is_open was.state ≡ true → was ≡ row → UsedAndOpen desk t operation row
used_and_open desk t operation was row found met same =
    let (used, there) = started_is desk t.operations operation was found in
    subst (UsedAndOpen desk t operation) same (record { used = used; there = there; open_state = met })

give_up_passes : (desk : Desk) (t : Tables) (operation : ℕ) (row : OperationRow) → may_give_up desk t operation ≡ Ok row → UsedAndOpen desk t operation row
give_up_passes desk t operation row passes =
    let (_, _, rest) = result_and_passes (served desk t) _ row passes in
    let (was, found, last) = and_then_passes (started desk t.operations operation) still_open row rest in
    let (met, same) = open_is was row last in
    used_and_open desk t operation was row found met same

propose_passes : (wins : ℕ → ℕ → Bool) (desk : Desk) (t : Tables) (operation : ℕ) (row : OperationRow) → may_propose wins desk t operation ≡ Ok row → UsedAndOpen desk t operation row
propose_passes wins desk t operation row passes =
    let (_, _, rest) = result_and_passes (served desk t) _ row passes in
    let (was, found, asked) = and_then_passes (started desk t.operations operation) _ row rest in
    let (regroup, opened, runs) = and_then_passes (regroup_open was) _ row asked in
    let (node, _, group) = and_then_passes (running_node t.nodes regroup) _ row runs in
    let (_, _, left) = result_and_passes (frozen_group wins regroup node) _ row group in
    let (_, _, last) = result_and_passes (proposal_left desk t.proposals) (Ok regroup) row left in
    let (still, stays, of_kind) = and_then_passes (still_open was) _ regroup opened in
    let (_, is) = test_passes (same_kind still.kind kind.Regroup) (Ok still) NoRegroup regroup of_kind in
    let (met, same) = open_is was still stays in
    used_and_open desk t operation was row found met (let same_as : was ≡ row = cc in same_as)

-- What a call leaves that neither starts nor answers a row.
record LeavesRows (desk : Desk) (t : Tables) (desk' : Desk) (t' : Tables) : Type 0 where
  openness : desk'.is_open ≡ desk.is_open
  nodes : desk'.node_count ≡ desk.node_count
  used : desk'.operations_used ≡ desk.operations_used
  edits : Edits t.operations t'.operations desk.operations_used

module _ (desk : Desk) (t : Tables) where
  same_rows : (t' : Tables) → t'.operations ≡ t.operations → LeavesRows desk t desk t'
  same_rows t' same = record { openness = refl; nodes = refl; used = refl; edits = inl same }

  -- the row with another mark than that of an answer
  marked : (operation : ℕ) (row : OperationRow) → UsedAndOpen desk t operation row → (mark : OperationState) → (mark ≡ state.Answered → ⊥)
      → Edits t.operations (slice_set t.operations operation (record row { state = mark })) desk.operations_used
  marked operation row passes mark other =
      inr (operation, record row { state = mark }, other, record { was = row; there = passes.there; used_before = passes.used; was_open = passes.open_state; placed = refl })

  settled_rows : (width node : ℕ) (may : Result ProposalRow Fault) → LeavesRows desk t desk (settling width t node may).1
  settled_rows width node (Ok row) = same_rows _ refl
  settled_rows width node (Err fault) = same_rows _ refl

  stopped_rows : (node : ℕ) (may : Result NodeRecord Fault) → LeavesRows desk t desk (stopping t node may).1
  stopped_rows node (Ok found) = same_rows _ refl
  stopped_rows node (Err fault) = same_rows _ refl

  frame_lost_rows : (outcome : Result (Unit {0}) Refusal × List ℕ) → LeavesRows desk t desk (frame_lost t outcome).1
  frame_lost_rows (Ok _, frames) = same_rows _ refl
  frame_lost_rows (Err refusal, frames) = same_rows _ refl

  lost_rows : (slot : ℕ) (may : Result (Unit {0}) Fault) → LeavesRows desk t desk (losing t slot may).1
  lost_rows slot (Ok _) = frame_lost_rows (lost t.frames slot)
  lost_rows slot (Err fault) = same_rows _ refl

  given_up_rows : (operation : ℕ) (may : Result OperationRow Fault) → ((row : OperationRow) → may ≡ Ok row → UsedAndOpen desk t operation row)
      → LeavesRows desk t desk (giving_up t operation may).1
  given_up_rows operation (Ok row) passes = record { openness = refl; nodes = refl; used = refl; edits = marked operation row (passes row refl) state.GivenUp (λ answered. cc) }
  given_up_rows operation (Err fault) passes = same_rows _ refl

  -- an offer that the chooser took marks the row as proposed
  offered_rows : (operation : ℕ) (row : OperationRow) → UsedAndOpen desk t operation row → (taken : chooser.Answer)
      → LeavesRows desk t (offered desk t operation row taken).1 (offered desk t operation row taken).2
  offered_rows operation row passes (Ok _) = record { openness = refl; nodes = refl; used = refl; edits = marked operation row passes state.Proposed (λ answered. cc) }
  offered_rows operation row passes (Err why) = same_rows _ refl

-- a call that neither starts nor delivers
record Quiet {C : Type 0} (call : Call C) : Type 0 where
  starts_none : is_start call ≡ false
  delivers_none : (slot : ℕ) → call ≡ Deliver slot → ⊥

module _ {C Q S : Type 0} (parts : Parts C Q S) (before after : State Q S) (answer : Result Answer Fault) where
  abbrev Rows : Call C → Type 0
  Rows call = RowStep parts before call answer after

  abbrev Leaves : Desk → Tables → Type 0
  Leaves desk t = LeavesRows before.desk before.t desk t

  -- so it neither starts nor answers a row
  neither : (call : Call C) → Quiet call → after.rule ≡ before.rule → Leaves after.desk after.t → Rows call
  neither call quiet rule leaves = Neither (record {
    keeps = record { same_openness = leaves.openness; same_nodes = leaves.nodes; same_rule = rule };
    no_start = λ number starts taken. let none = quiet.starts_none in absurd (cc);
    no_answer = λ slot delivers answered. absurd (quiet.delivers_none slot delivers);
    same_count = leaves.used;
    edits = leaves.edits;
  })

  -- a call that leaves this desk and these tables
  leaving_so : (call : Call C) → Quiet call → (desk : Desk) (t : Tables) → after.desk ≡ desk → after.t ≡ t → after.rule ≡ before.rule → Leaves desk t → Rows call
  leaving_so call quiet desk t same_desk same_tables rule leaves =
      neither call quiet rule (subst (λ d. Leaves d after.t) (sym same_desk) (subst (λ u. Leaves desk u) (sym same_tables) leaves))

  -- a call that leaves the desk
  tables_so : {A : Type 0} (call : Call C) → Quiet call → (tells : Result A Fault → Result Answer Fault) (left : Result A Fault × Tables)
      → ◌≡◌ {A = Outcome Q S} (answer, after) (telling tells (leaving_tables before left)) → Leaves before.desk left.1 → Rows call
  tables_so call quiet tells left is leaves = leaving_so call quiet before.desk left.1 (ap (λ s. s.desk) (state_of is)) (ap (λ s. s.t) (state_of is)) (ap (λ s. s.rule) (state_of is)) leaves

  -- an open floor is not opened again
  pub opening_refused : before.desk.is_open ≡ true → (count : ℕ) (members : Members) (content : C) → Step parts before (Open count members content) answer after → Refused before answer after
  opening_refused open_already count members content step =
      let stops : may_open before.desk before.t count members ≡ Err AlreadyOpen = rw open_already refl in
      refused_by before after answer AlreadyOpen (rw stops at step)

  propose_by : (operation : ℕ) (outcome : Result ℕ Fault) → after.rule ≡ before.rule → (may : Result OperationRow Fault)
      → may_propose (parts.winning before.rule) before.desk before.t operation ≡ may
      → Proposing parts.offering before.desk before.t before.chooser operation may (outcome, after.desk, after.t) after.chooser → Rows (Propose operation)
  propose_by operation outcome rule (Ok row) may (taken, offers, is) =
      let left = offered before.desk before.t operation row taken in
      let passes = propose_passes (parts.winning before.rule) before.desk before.t operation row may in
      leaving_so (Propose operation) (record { starts_none = refl; delivers_none = λ slot same. cc }) left.1 left.2 (ap (λ (o : Result ℕ Fault × Desk × Tables). o.1) is)
      (ap (λ (o : Result ℕ Fault × Desk × Tables). o.2) is) rule (offered_rows before.desk before.t operation row passes taken)
  propose_by operation outcome rule (Err fault) may (is, asked) =
      leaving_so (Propose operation) (record { starts_none = refl; delivers_none = λ slot same. cc }) before.desk before.t (ap (λ (o : Result ℕ Fault × Desk × Tables). o.1) is)
      (ap (λ (o : Result ℕ Fault × Desk × Tables). o.2) is) rule (same_rows before.desk before.t before.t refl)

  -- a call that leaves desk, rule and tables
  nothing_so : (call : Call C) → Quiet call → after.desk ≡ before.desk → after.t ≡ before.t → after.rule ≡ before.rule → Rows call
  nothing_so call quiet desk t rule = leaving_so call quiet before.desk before.t desk t rule (same_rows before.desk before.t before.t refl)

  -- What each call does to the rows of an open floor.
  pub row_step : (call : Call C) → before.desk.is_open ≡ true → Step parts before call answer after → Rows call
  row_step (Open count members content) open_already step = refusal parts before (Open count members content) answer after (opening_refused open_already count members content step)
  row_step (Read node) open_already step = read_starts parts before after answer node step
  row_step (Write node content) open_already step = write_starts parts before after answer node content step
  row_step (Regroup node members) open_already step = regroup_starts parts before after answer node members step
  row_step (Propose operation) open_already (outcome, (proposes, rule), told) = propose_by operation outcome rule (may_propose (parts.winning before.rule) before.desk before.t operation) refl proposes
  row_step (Settle node) open_already step =
      tables_so (Settle node) (record { starts_none = refl; delivers_none = λ slot same. cc }) number_told _ step
      (settled_rows before.desk before.t parts.width node (may_settle (parts.decided before.chooser) before.desk before.t node))
  row_step (Work number phase ballot set) open_already (taken, (works, left), told) =
      nothing_so (Work number phase ballot set) (record { starts_none = refl; delivers_none = λ slot same. cc }) (ap (λ s. s.desk) left) (ap (λ s. s.t) left) (ap (λ s. s.rule) left)
  row_step (Deliver slot) open_already step = delivery_rows parts before after answer slot step
  row_step (Lose slot) open_already step =
      tables_so (Lose slot) (record { starts_none = refl; delivers_none = λ slot same. cc }) zero_told _ step (lost_rows before.desk before.t slot (served before.desk before.t))
  row_step (GiveUp operation) open_already step =
      tables_so (GiveUp operation) (record { starts_none = refl; delivers_none = λ slot same. cc }) zero_told _ step
      (given_up_rows before.desk before.t operation (may_give_up before.desk before.t operation) (give_up_passes before.desk before.t operation))
  row_step (Stop node) open_already step =
      tables_so (Stop node) (record { starts_none = refl; delivers_none = λ slot same. cc }) zero_told _ step (stopped_rows before.desk before.t node (may_stop before.desk before.t node))
  row_step (Look operation) open_already (told, left) =
      nothing_so (Look operation) (record { starts_none = refl; delivers_none = λ slot same. cc }) (ap (λ s. s.desk) left) (ap (λ s. s.t) left) (ap (λ s. s.rule) left)
