-- On an open floor no call changes what a node holds, but the delivery of an update to it.
use Rattle.std.proofs.Common.{◌≡◌, ℕ, ◌⊎◌, inl, inr, true, List, Option, Some, None, Result, Ok, Err, refl, ap, sym, ◌∙◌, subst, take}
use Rattle.std.proofs.lemmas.Bool.{cases_eq}
use Rattle.calls.specs.declared.call.Answer.{Answer}
use Rattle.calls.specs.declared.call.Answer.TheVariants.{Number}
use Rattle.calls.specs.declared.call.Call.{Call}
use Rattle.calls.specs.declared.call.Call.TheVariants.{Open, Read, Write, Regroup, Propose, Settle, Work, Deliver, Lose, GiveUp, Stop, Look}
use Rattle.chooser.specs.Meaning as chooser
use Rattle.delivery.specs.Delivery.{number, may_deliver, delivering}
use Rattle.desk.specs.Asking.{served, record_of}
use Rattle.desk.specs.declared.desk.Desk.{Desk}
use Rattle.desk.specs.Ending.{may_give_up, giving_up, losing, frame_lost, may_stop, stopping}
use Rattle.desk.specs.Tables.{Tables}
use Rattle.fault.specs.declared.Fault.{Fault}
use Rattle.floor.specs.State.{State}
use Rattle.floor.specs.Steps.{leaving}
use Rattle.frame.specs.Messages.{Said, reading}
use Rattle.handover.specs.Proposing.{may_propose, offered, Proposing}
use Rattle.handover.specs.Settling.{may_settle, settling}
use Rattle.link.proofs.Entries.{new_record, other_record}
use Rattle.link.proofs.NotRefused.{runs}
use Rattle.link.proofs.StartsMet.{write_met, regroup_met}
use Rattle.node.specs.declared.plan.Plan.{Plan}
use Rattle.node.specs.Applying.{with_record}
use Rattle.refusal.specs.declared.Refusal.{Refusal}
use Rattle.slots.specs.Slots.{lost}
use Rattle.law.specs.Law.{updated_by}
use Rattle.law.specs.Runs.{Parts, Step, telling, told}
use Rattle.law.proofs.DeliverSteps.{Passes, deliver_passes}
use Rattle.law.proofs.OpenSteps.{opening_refused}
use Rattle.law.proofs.Outcomes.{Outcome, answer_of, state_of}
use Rattle.law.proofs.Passing.{result_and_passes}
use Rattle.law.proofs.PlansKeep.{plan_kept}
use Rattle.starts.specs.declared.start.Start.{Start}
use Rattle.starts.specs.Grounds.{may_read, may_write, may_regroup}
use Rattle.starts.specs.Starts as starts
use Rattle.tables.specs.declared.records.NodeRecord.{NodeRecord}
use Rattle.tables.specs.declared.records.OperationRow.{OperationRow}
use Rattle.tables.specs.declared.records.ProposalRow.{ProposalRow}
use Rattle.writer.specs.Table.{slot_of}

-- The calls that change no record.
module _ (width : ℕ) (desk : Desk) (t : Tables) where
  reading_keeps : (may : Result Start Fault) → (starts.reading width desk t may).2.nodes ≡ t.nodes
  reading_keeps (Ok start) = refl
  reading_keeps (Err fault) = refl

  offered_keeps : (operation : ℕ) (row : OperationRow) (taken : chooser.Answer) → (offered desk t operation row taken).2.nodes ≡ t.nodes
  offered_keeps operation row (Ok _) = refl
  offered_keeps operation row (Err refusal) = refl

  settling_keeps : (node : ℕ) (may : Result ProposalRow Fault) → (settling width t node may).1.nodes ≡ t.nodes
  settling_keeps node (Ok row) = refl
  settling_keeps node (Err fault) = refl

  giving_up_keeps : (operation : ℕ) (may : Result OperationRow Fault) → (giving_up t operation may).1.nodes ≡ t.nodes
  giving_up_keeps operation (Ok row) = refl
  giving_up_keeps operation (Err fault) = refl

  lost_keeps : (left : Result (Unit {0}) Refusal × List ℕ) → (frame_lost t left).1.nodes ≡ t.nodes
  lost_keeps (Ok _, frames) = refl
  lost_keeps (Err refusal, frames) = refl

  losing_keeps : (slot : ℕ) (may : Result (Unit {0}) Fault) → (losing t slot may).1.nodes ≡ t.nodes
  losing_keeps slot (Ok _) = lost_keeps (lost t.frames slot)
  losing_keeps slot (Err fault) = refl

-- a node's record before, which holds the same
pub record HeldBefore (nodes : List NodeRecord) (node : ℕ) (found : NodeRecord) : Type 0 where
  pub was : NodeRecord
  pub there : record_of nodes node ≡ Some was
  pub same : was.configuration ≡ found.configuration

-- the call delivered an update to the node
pub record Updates {C Q S : Type 0} (parts : Parts C Q S) (before : State Q S) (call : Call C) (answer : Result Answer Fault) (node : ℕ) : Type 0 where
  pub slot : ℕ
  pub message : Said
  pub delivers : call ≡ Deliver slot
  pub says : reading parts.width parts.from_bytes (slot_of before.t.frames slot) ≡ Ok message
  pub answered : answer ≡ Ok (Number 1)
  pub goes_to : updated_by message ≡ Some node

-- A node's record behind a call.
module _ {C Q S : Type 0} (parts : Parts C Q S) (before after : State Q S) (answer : Result Answer Fault) (node : ℕ) (found : NodeRecord) (shown : record_of after.t.nodes node ≡ Some found) where
  abbrev Before : Type 0
  Before = HeldBefore before.t.nodes node found

  abbrev Updated : Call C → Type 0
  Updated call = Updates parts before call answer node

  untouched : after.t.nodes ≡ before.t.nodes → Before
  untouched same = record { was = found; there = subst (λ nodes. record_of nodes node ≡ Some found) same shown; same = refl }

  -- where another node's record is written
  elsewhere : (changed : ℕ) (value : NodeRecord) → after.t.nodes ≡ with_record before.t.nodes changed value → (node ≡ changed → ⊥) → Before
  elsewhere changed value nodes differ = record {
    was = found;
    there = sym (other_record before.t.nodes changed node value differ) ∙ sym (ap (λ n. record_of n node) nodes) ∙ shown;
    same = refl;
  }

  -- where one is written that holds what the one before did
  written : (changed : ℕ) (was value : NodeRecord) → after.t.nodes ≡ with_record before.t.nodes changed value → record_of before.t.nodes changed ≡ Some was
      → value.configuration ≡ was.configuration → Before
  written changed was value nodes there same = elim (cases_eq node changed) [
    | inl is ↦
        let shown_there : record_of (with_record before.t.nodes changed value) changed ≡ Some found = subst (λ n. record_of (with_record before.t.nodes changed value) n ≡ Some found) is
        (sym (ap (λ n. record_of n node) nodes) ∙ shown) in
        let is_value = new_record before.t.nodes changed value found shown_there in
        record {
          was = was;
          there = subst (λ n. record_of before.t.nodes n ≡ Some was) (sym is) there;
          same = sym same ∙ ap (λ (n : NodeRecord). n.configuration) (sym is_value);
        }
    | inr differ ↦ elsewhere changed value nodes differ
  ]

  -- a start that writes the record of its node
  started : (changed : ℕ) (may : Result Start Fault)
      → ((start : Start) → may ≡ Ok start → (was : NodeRecord) × (record_of before.t.nodes changed ≡ Some was) × (start.node.configuration ≡ was.configuration))
      → after.t.nodes ≡ (starts.starting parts.width before.desk before.t changed may).2.nodes → Before
  started changed (Ok start) met nodes = let (was, there, same) = met start refl in written changed was start.node nodes there same
  started changed (Err fault) met nodes = untouched nodes

  stopped : (changed : ℕ) (may : Result NodeRecord Fault) → may_stop before.desk before.t changed ≡ may → after.t.nodes ≡ (stopping before.t changed may).1.nodes → Before
  stopped changed (Ok was) may nodes =
      let (_, _, is) = result_and_passes (served before.desk before.t) _ was may in
      written changed was (record was { stopped = true }) nodes (runs before.desk before.t.nodes changed was is).here refl
  stopped changed (Err fault) may nodes = untouched nodes

  proposed : (operation : ℕ) (outcome : Result ℕ Fault) (may : Result OperationRow Fault)
      → Proposing parts.offering before.desk before.t before.chooser operation may (outcome, after.desk, after.t) after.chooser → Before
  proposed operation outcome (Ok row) (taken, offers, is) =
      untouched (ap (λ (o : Result ℕ Fault × Desk × Tables). o.2.nodes) is ∙ offered_keeps parts.width before.desk before.t operation row taken)
  proposed operation outcome (Err fault) (is, asked) = untouched (ap (λ (o : Result ℕ Fault × Desk × Tables). o.2.nodes) is)

  abbrev Left : Result (Option Plan) Fault → Type 0
  Left may = ◌≡◌ {A = Outcome Q S} (answer, after) (telling (told number) (leaving before (delivering parts.width before.desk before.t may)))

  by_plan : (slot : ℕ) (plan : Plan) → Passes parts.width parts.from_bytes (parts.winning before.rule) before.desk before.t slot (Some plan) → Left (Ok (Some plan))
      → Before ⊎ Updated (Deliver slot)
  by_plan slot plan passes is =
      let kept = plan_kept (parts.winning before.rule) passes.found (take before.desk.operations_used before.t.operations) before.desk.moment passes.message plan passes.plans in
      let nodes : after.t.nodes ≡ with_record before.t.nodes plan.receiver plan.node = ap (λ (s : State Q S). s.t.nodes) (state_of is) in
      elim kept.keeps [
        | inl same ↦ inl (written plan.receiver passes.found plan.node nodes (subst (λ n. record_of before.t.nodes n ≡ Some passes.found) (sym kept.of_receiver) passes.receives.here) same)
        | inr (goes_to, no_row) ↦ elim (cases_eq node plan.receiver) [
          | inl receives ↦
              inr
              (record {
                slot = slot;
                message = passes.message;
                delivers = refl;
                says = passes.says;
                answered = rw no_row at (answer_of is);
                goes_to = goes_to ∙ ap (λ n. Some n) (sym (receives ∙ kept.of_receiver));
              })
          | inr differ ↦ inl (elsewhere plan.receiver plan.node nodes differ)
        ]
      ]

  delivered : (slot : ℕ) (may : Result (Option Plan) Fault) → may_deliver parts.width parts.from_bytes (parts.winning before.rule) before.desk before.t slot ≡ may → Left may
      → Before ⊎ Updated (Deliver slot)
  delivered slot (Ok (Some plan)) may is = by_plan slot plan (deliver_passes parts.width parts.from_bytes (parts.winning before.rule) before.desk before.t slot (Some plan) may) is
  delivered slot (Ok None) may is = inl (untouched (ap (λ (s : State Q S). s.t.nodes) (state_of is)))
  delivered slot (Err fault) may is = inl (untouched (ap (λ (s : State Q S). s.t.nodes) (state_of is)))

  write_starts : (content : List ℕ) (changed : ℕ) (start : Start) → may_write before.desk before.t changed content ≡ Ok start
      → (was : NodeRecord) × (record_of before.t.nodes changed ≡ Some was) × (start.node.configuration ≡ was.configuration)
  write_starts content changed start may =
      let met = write_met before.desk before.t changed content start may in
      (met.found, met.leading.in_group.runs.here, ap (λ (s : Start). s.node.configuration) (sym met.is))

  pub held_step : (call : Call C) → before.desk.is_open ≡ true → Step parts before call answer after → Before ⊎ Updated call
  held_step (Open count members content) is_open step = inl (untouched (ap (λ s. s.t.nodes) (opening_refused parts before after answer is_open count members content step).nothing))
  held_step (Read changed) is_open step = inl (untouched (ap (λ s. s.t.nodes) (state_of step) ∙ reading_keeps parts.width before.desk before.t (may_read before.desk before.t changed)))
  held_step (Write changed content) is_open step =
      inl (started changed (may_write before.desk before.t changed (parts.meaning content)) (write_starts (parts.meaning content) changed) (ap (λ s. s.t.nodes) (state_of step)))
  held_step (Regroup changed members) is_open step =
      inl
      (started changed (may_regroup before.desk before.t changed members)
      (λ start may.
      let met = regroup_met before.desk before.t changed members start may in
      (met.found, met.in_group.runs.here, ap (λ (s : Start). s.node.configuration) (sym met.is))) (ap (λ s. s.t.nodes) (state_of step)))
  held_step (Propose operation) is_open (outcome, (proposes, rule), says) = inl (proposed operation outcome (may_propose (parts.winning before.rule) before.desk before.t operation) proposes)
  held_step (Settle changed) is_open step =
      inl (untouched (ap (λ s. s.t.nodes) (state_of step) ∙ settling_keeps parts.width before.desk before.t changed (may_settle (parts.decided before.chooser) before.desk before.t changed)))
  held_step (Work number phase ballot set) is_open (taken, (works, left), says) = inl (untouched (ap (λ s. s.t.nodes) left))
  held_step (Deliver slot) is_open step = delivered slot (may_deliver parts.width parts.from_bytes (parts.winning before.rule) before.desk before.t slot) refl step
  held_step (Lose slot) is_open step = inl (untouched (ap (λ s. s.t.nodes) (state_of step) ∙ losing_keeps parts.width before.desk before.t slot (served before.desk before.t)))
  held_step (GiveUp operation) is_open step =
      inl (untouched (ap (λ s. s.t.nodes) (state_of step) ∙ giving_up_keeps parts.width before.desk before.t operation (may_give_up before.desk before.t operation)))
  held_step (Stop changed) is_open step = inl (stopped changed (may_stop before.desk before.t changed) refl (ap (λ s. s.t.nodes) (state_of step)))
  held_step (Look operation) is_open (says, left) = inl (untouched (ap (λ s. s.t.nodes) left))
