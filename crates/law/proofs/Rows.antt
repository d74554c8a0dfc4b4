-- What one call does to the operation rows: it starts one, answers one, or does neither.
use Rattle.std.proofs.Common.{◌≡◌, ℕ, suc, ◌<◌, true, ◌⊎◌, inl, List, length, Some, Result, Ok, slice_get, slice_set, refl, ap, ◌∙◌}
use Rattle.calls.specs.declared.call.Answer.{Answer}
use Rattle.calls.specs.declared.call.Answer.TheVariants.{Number}
use Rattle.calls.specs.declared.call.Call.{Call}
use Rattle.calls.specs.declared.call.Call.TheVariants as made
use Rattle.content.specs.Bytes.{padded}
use Rattle.fault.specs.declared.Fault.{Fault}
use Rattle.floor.specs.State.{State}
use Rattle.frame.specs.Messages.{Said, reading}
use Rattle.node.specs.Conditions.{is_open}
use Rattle.law.specs.Law.{operation_of, is_start}
use Rattle.law.specs.Runs.{Parts}
use Rattle.law.proofs.Outcomes.{Refused}
use Rattle.tables.specs.declared.records.OperationKind.TheVariants as kind
use Rattle.tables.specs.declared.records.OperationRow.{OperationRow}
use Rattle.tables.specs.declared.records.OperationState.TheVariants.{Open, Answered}
use Rattle.writer.specs.Table.{slot_of}

-- how a row begins, by the call that starts it; no other call starts one
abbrev pub Begins : {C : Type 0} → (C → List ℕ) → Call C → OperationRow → Type 0
Begins meaning (made.Read node) row = row.kind ≡ kind.Read
Begins meaning (made.Write node content) row = (row.kind ≡ kind.Write) × (row.copy.content ≡ padded (meaning content))
Begins meaning (made.Regroup node members) row = row.kind ≡ kind.Regroup
Begins meaning _ row = ⊥

-- what no call on an open floor changes
pub record Keeps {Q S : Type 0} (before after : State Q S) : Type 0 where
  pub same_openness : after.desk.is_open ≡ before.desk.is_open
  pub same_nodes : after.desk.node_count ≡ before.desk.node_count
  pub same_rule : after.rule ≡ before.rule

-- where it leaves a state that keeps these
pub keeps_by : {Q S : Type 0} (before after left : State Q S) → after ≡ left → left.desk.is_open ≡ before.desk.is_open → left.desk.node_count ≡ before.desk.node_count
    → left.rule ≡ before.rule
    → Keeps before after
keeps_by before after left is openness nodes rule = record {
  same_openness = ap (λ s. s.desk.is_open) is ∙ openness;
  same_nodes = ap (λ s. s.desk.node_count) is ∙ nodes;
  same_rule = ap (λ s. s.rule) is ∙ rule;
}

-- a row that is used and open becomes this one
pub record OpenRowSet (old new : List OperationRow) (used operation : ℕ) (row : OperationRow) : Type 0 where
  pub was : OperationRow
  pub there : slice_get old operation ≡ Some was
  pub used_before : operation < used
  pub was_open : is_open was.state ≡ true
  pub placed : new ≡ slice_set old operation row

-- one open row may change, but is not answered
abbrev pub Edits : List OperationRow → List OperationRow → ℕ → Type 0
Edits old new used = (new ≡ old) ⊎ ((operation : ℕ) × (row : OperationRow) × (row.state ≡ Answered → ⊥) × OpenRowSet old new used operation row)

module _ {C Q S : Type 0} (parts : Parts C Q S) (before : State Q S) (call : Call C) (answer : Result Answer Fault) (after : State Q S) where
  -- It starts a row behind those in use, and answers its number.
  pub record StartsRow : Type 0 where
    pub keeps : Keeps before after
    pub row : OperationRow
    pub begins : Begins parts.meaning call row
    pub is_open : row.state ≡ Open
    pub answered : answer ≡ Ok (Number before.desk.operations_used)
    pub counted : after.desk.operations_used ≡ suc before.desk.operations_used
    pub has_room : before.desk.operations_used < length before.t.operations
    pub placed : after.t.operations ≡ slice_set before.t.operations before.desk.operations_used row

  -- It delivers a frame that speaks of the operation, and answers 2: the operation's row, open before, is answered.
  pub record AnswersRow : Type 0 where
    pub keeps : Keeps before after
    pub slot : ℕ
    pub message : Said
    pub operation : ℕ
    pub row : OperationRow
    pub delivers : call ≡ made.Deliver slot
    pub says : reading parts.width parts.from_bytes (slot_of before.t.frames slot) ≡ Ok message
    pub of_it : operation_of message ≡ Some operation
    pub answered : answer ≡ Ok (Number 2)
    pub same_count : after.desk.operations_used ≡ before.desk.operations_used
    pub is_answered : row.state ≡ Answered
    pub set : OpenRowSet before.t.operations after.t.operations before.desk.operations_used operation row

  -- It neither starts nor answers a row, and is not answered as if it did.
  pub record NeitherRow : Type 0 where
    pub keeps : Keeps before after
    pub no_start : (number : ℕ) → is_start call ≡ true → answer ≡ Ok (Number number) → ⊥
    pub no_answer : (slot : ℕ) → call ≡ made.Deliver slot → answer ≡ Ok (Number 2) → ⊥
    pub same_count : after.desk.operations_used ≡ before.desk.operations_used
    pub edits : Edits before.t.operations after.t.operations before.desk.operations_used

  pub data RowStep : Type 0 where
    Starts : StartsRow → RowStep
    Answers : AnswersRow → RowStep
    Neither : NeitherRow → RowStep

module _ {C Q S : Type 0} (parts : Parts C Q S) (before : State Q S) (call : Call C) (answer : Result Answer Fault) where
  -- A refused call does nothing to the rows.
  pub refusal : (after : State Q S) → Refused before answer after → RowStep parts before call answer after
  refusal after refused = Neither (record {
    keeps = keeps_by before after before refused.nothing refl refl refl;
    no_start = λ number starts taken. absurd (let says = refused.says in cc);
    no_answer = λ slot delivers answered. absurd (let says = refused.says in cc);
    same_count = ap (λ s. s.desk.operations_used) refused.nothing;
    edits = inl (ap (λ s. s.t.operations) refused.nothing);
  })
