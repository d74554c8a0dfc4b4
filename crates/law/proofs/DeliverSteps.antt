-- A delivery on an open floor answers a row, or changes none into an answered one, or is refused.
use Rattle.std.proofs.Common.{◌≡◌, ℕ, zero, suc, ◌<◌, ◌≤◌, ◌⊎◌, Bool, true, false, inl, inr, List, [], ◌∷◌, Option, Some, None, Result, Ok, Err, refl, ap, ◌∙◌, subst, slice_get, take, arith, if◌then◌else◌}
use Rattle.std.specs.Prelude.{nat_lt, not, ◌&&◌}
use Rattle.calls.specs.declared.call.Answer.{Answer}
use Rattle.calls.specs.declared.call.Answer.TheVariants.{Number}
use Rattle.calls.specs.declared.call.Call.TheVariants as made
use Rattle.delivery.specs.declared.delivery.Delivery.TheVariants as delivered
use Rattle.delivery.specs.Delivery.{number, from_refusal, from_frame_fault, message_in, has_room, received, may_deliver, delivering}
use Rattle.desk.specs.Asking.{served, running}
use Rattle.desk.specs.declared.desk.Desk.{Desk}
use Rattle.desk.specs.Tables.{Tables}
use Rattle.fault.specs.declared.Fault.{Fault}
use Rattle.floor.specs.State.{State}
use Rattle.floor.specs.Steps.{leaving}
use Rattle.frame.specs.declared.fault.FrameFault.{FrameFault}
use Rattle.frame.specs.Messages.{Said, reading}
use Rattle.link.proofs.NotRefused.{Runs, runs}
use Rattle.node.specs.declared.plan.Plan.{Plan}
use Rattle.node.specs.Applying.{with_row, with_record}
use Rattle.node.specs.Plans.{answers}
use Rattle.node.specs.Received.{head_said}
use Rattle.node.specs.Rules.{planned}
use Rattle.refusal.specs.declared.Refusal.TheVariants.{NoSlot}
use Rattle.law.specs.Law.{operation_of}
use Rattle.law.specs.Runs.{Parts, Step, telling, told}
use Rattle.law.proofs.Outcomes.{Outcome, answer_of, state_of, refused_by}
use Rattle.law.proofs.Passing.{and_then_passes, result_and_passes}
use Rattle.law.proofs.Planned.{Counts, planned_rows}
use Rattle.law.proofs.Rows.{Keeps, keeps_by, OpenRowSet, Edits, RowStep, Answers, Neither, refusal}
use Rattle.slots.specs.Slots.{occupied, is_empty}
use Rattle.tables.specs.declared.records.NodeRecord.{NodeRecord}
use Rattle.tables.specs.declared.records.OperationState.{OperationState}
use Rattle.tables.specs.declared.records.OperationState.TheVariants.{Open, Answered, GivenUp, Proposed}
use Rattle.writer.specs.Table.{slots, slot_of}

-- the bytes of an occupied slot
occupied_is : (frames : List ℕ) (slot : ℕ) (bytes : List ℕ) → from_refusal (occupied frames slot) ≡ Ok bytes → bytes ≡ slot_of frames slot
occupied_is frames slot bytes passes = go (nat_lt slot (slots frames) && not (is_empty frames slot)) passes
  where
    go : (met : Bool) → from_refusal (if met then Ok (slot_of frames slot) else Err NoSlot) ≡ Ok bytes → bytes ≡ slot_of frames slot
    go true is = cc
    go false is = absurd (cc)

-- where there is room for the reply, the plan is what was planned
room_is : (frames : List ℕ) (said plan : Option Plan) → has_room frames said ≡ Ok plan → said ≡ plan
room_is frames (Some said) plan passes = let (_, _, is) = result_and_passes _ (Ok (Some said)) plan passes in cc
room_is frames None plan passes = cc

-- an element of the first so many
pub within_used : {A : Type 0} (used : ℕ) (rows : List A) (operation : ℕ) (row : A) → slice_get (take used rows) operation ≡ Some row
    → (operation < used) × (slice_get rows operation ≡ Some row)
within_used zero rows operation row there = absurd (cc)
within_used (suc used) [] operation row there = absurd (cc)
within_used (suc used) (first ∷ rows) zero row there = (omega arith, there)
within_used (suc used) (first ∷ rows) (suc operation) row there = let (below, found) = within_used used rows operation row there in (omega arith, found)

-- A delivery that no ground stops: what the frame says, to a node of the floor, and what that makes of it.
pub record Passes {C : Type 0} (width : ℕ) (reads : List ℕ → Option C) (wins : ℕ → ℕ → Bool) (desk : Desk) (t : Tables) (slot : ℕ) (plan : Option Plan) : Type 0 where
  pub message : Said
  pub found : NodeRecord
  pub says : reading width reads (slot_of t.frames slot) ≡ Ok message
  pub receives : Runs desk t.nodes (head_said message).receiver found
  pub plans : planned wins found (take desk.operations_used t.operations) desk.moment message ≡ plan

from_fault_passes : {A : Type 0} (answer : Result A FrameFault) (value : A) → from_frame_fault answer ≡ Ok value → answer ≡ Ok value
from_fault_passes (Ok found) value is = cc
from_fault_passes (Err fault) value is = absurd (cc)

pub deliver_passes : {C : Type 0} (width : ℕ) (reads : List ℕ → Option C) (wins : ℕ → ℕ → Bool) (desk : Desk) (t : Tables) (slot : ℕ) (plan : Option Plan)
    → may_deliver width reads wins desk t slot ≡ Ok plan → Passes width reads wins desk t slot plan
deliver_passes width reads wins desk t slot plan passes =
    let (_, _, served) = result_and_passes (served desk t) _ plan passes in
    let (message, in_slot, taken) = and_then_passes (message_in width reads t.frames slot) (received wins desk t) plan served in
    let (bytes, there, read) = and_then_passes (from_refusal (occupied t.frames slot)) _ message in_slot in
    let (found, receives, room) = and_then_passes (running desk t.nodes (head_said message).receiver) _ plan taken in
    record {
      message = message;
      found = found;
      says = subst (λ b. reading width reads b ≡ Ok message) (occupied_is t.frames slot bytes there) (from_fault_passes (reading width reads bytes) message read);
      receives = runs desk t.nodes (head_said message).receiver found receives;
      plans = room_is t.frames _ plan room;
    }

module _ {C Q S : Type 0} (parts : Parts C Q S) (before after : State Q S) (answer : Result Answer Fault) (slot : ℕ) where
  abbrev Left : Result (Option Plan) Fault → Type 0
  Left may = ◌≡◌ {A = Outcome Q S} (answer, after) (telling (told number) (leaving before (delivering parts.width before.desk before.t may)))

  abbrev DeliverPasses : Option Plan → Type 0
  DeliverPasses plan = Passes parts.width parts.from_bytes (parts.winning before.rule) before.desk before.t slot plan

  -- the number that a plan is answered with
  abbrev number_of : Plan → ℕ
  number_of plan = number (if answers plan.row then delivered.Answered else delivered.Handled)

  kept : (plan : Plan) → Left (Ok (Some plan)) → Keeps before after
  kept plan is = keeps_by before after _ (state_of is) refl refl refl

  told_so : (plan : Plan) → Left (Ok (Some plan)) → answer ≡ Ok (Number (number_of plan))
  told_so plan is = answer_of is

  same_count : (plan : Plan) → Left (Ok (Some plan)) → after.desk.operations_used ≡ before.desk.operations_used
  same_count plan is = ap (λ (s : State Q S). s.desk.operations_used) (state_of is)

  rows_left : (plan : Plan) → Left (Ok (Some plan)) → after.t.operations ≡ with_row before.t.operations plan.row
  rows_left plan is = ap (λ (s : State Q S). s.t.operations) (state_of is)

  -- a plan that answers none
  unanswered : (plan : Plan) → Left (Ok (Some plan)) → answers plan.row ≡ false → Edits before.t.operations after.t.operations before.desk.operations_used
      → RowStep parts before (made.Deliver slot) answer after
  unanswered plan is none edits = Neither (record {
    keeps = kept plan is;
    no_start = λ number starts taken. absurd (cc);
    no_answer = λ other delivers answered. absurd (let is_one : answer ≡ Ok (Number 1) = rw none at (told_so plan is) in cc);
    same_count = same_count plan is;
    edits = edits;
  })

  -- an open row is counted, and answered or not
  counting : (plan : Plan) (passes : DeliverPasses (Some plan)) → Left (Ok (Some plan)) → Counts (take before.desk.operations_used before.t.operations) (operation_of passes.message) plan
      → RowStep parts before (made.Deliver slot) answer after
  counting plan passes is counts = go counts.row.state refl
    where
      set : OpenRowSet before.t.operations after.t.operations before.desk.operations_used counts.operation counts.row
      set =
          let (used, there) = within_used before.desk.operations_used before.t.operations counts.operation counts.was counts.there in
          record { was = counts.was; there = there; used_before = used; was_open = counts.was_open; placed = rows_left plan is ∙ ap (with_row before.t.operations) counts.planned }

      go : (state : OperationState) → counts.row.state ≡ state → RowStep parts before (made.Deliver slot) answer after
      go Answered state = Answers (record {
        keeps = kept plan is;
        slot = slot;
        message = passes.message;
        operation = counts.operation;
        row = counts.row;
        delivers = refl;
        says = passes.says;
        of_it = counts.same;
        answered = rw (counts.planned, state) at (told_so plan is);
        same_count = same_count plan is;
        is_answered = state;
        set = set;
      })
      go Open state = unanswered plan is (rw (counts.planned, state) refl) (inr (counts.operation, counts.row, λ answered. absurd (cc), set))
      go GivenUp state = unanswered plan is (rw (counts.planned, state) refl) (inr (counts.operation, counts.row, λ answered. absurd (cc), set))
      go Proposed state = unanswered plan is (rw (counts.planned, state) refl) (inr (counts.operation, counts.row, λ answered. absurd (cc), set))

  by_plan : (plan : Plan) (passes : DeliverPasses (Some plan)) → Left (Ok (Some plan))
      → (plan.row ≡ None) ⊎ Counts (take before.desk.operations_used before.t.operations) (operation_of passes.message) plan
      → RowStep parts before (made.Deliver slot) answer after
  by_plan plan passes is (inl none) = unanswered plan is (rw none refl) (inl (rows_left plan is ∙ ap (with_row before.t.operations) none))
  by_plan plan passes is (inr counts) = counting plan passes is counts

  by_outcome : (may : Result (Option Plan) Fault) → may_deliver parts.width parts.from_bytes (parts.winning before.rule) before.desk before.t slot ≡ may → Left may
      → RowStep parts before (made.Deliver slot) answer after
  by_outcome (Ok (Some plan)) may is =
      let passes = deliver_passes parts.width parts.from_bytes (parts.winning before.rule) before.desk before.t slot (Some plan) may in
      by_plan plan passes is (planned_rows (parts.winning before.rule) passes.found (take before.desk.operations_used before.t.operations) before.desk.moment plan passes.message passes.plans).counts
  by_outcome (Ok None) may is = Neither (record {
    keeps = keeps_by before after _ (state_of is) refl refl refl;
    no_start = λ number starts taken. absurd (cc);
    no_answer = λ other delivers answered. absurd (let ignored : answer ≡ Ok (Number 0) = answer_of is in cc);
    same_count = ap (λ (s : State Q S). s.desk.operations_used) (state_of is);
    edits = inl (ap (λ (s : State Q S). s.t.operations) (state_of is));
  })
  by_outcome (Err fault) may is =
      refusal parts before (made.Deliver slot) answer after (refused_by before after answer fault is)

  pub delivery_rows : Step parts before (made.Deliver slot) answer after → RowStep parts before (made.Deliver slot) answer after
  delivery_rows step = by_outcome (may_deliver parts.width parts.from_bytes (parts.winning before.rule) before.desk before.t slot) refl step

  passes_by : (may : Result (Option Plan) Fault) → may_deliver parts.width parts.from_bytes (parts.winning before.rule) before.desk before.t slot ≡ may → Left may → (number : ℕ)
      → answer ≡ Ok (Number number)
      → (plan : Option Plan) × DeliverPasses plan
  passes_by (Ok plan) may is number answered = (plan, deliver_passes parts.width parts.from_bytes (parts.winning before.rule) before.desk before.t slot plan may)
  passes_by (Err fault) may is number answered = absurd (let refused : answer ≡ Err fault = answer_of is in cc)

  -- A delivery that is answered with a number went to a node of the floor.
  pub receiver_counted : (message : Said) (number : ℕ) → Step parts before (made.Deliver slot) answer after → answer ≡ Ok (Number number)
      → reading parts.width parts.from_bytes (slot_of before.t.frames slot) ≡ Ok message → (head_said message).receiver ≤ before.desk.node_count
  receiver_counted message number step answered says =
      let (plan, passes) = passes_by (may_deliver parts.width parts.from_bytes (parts.winning before.rule) before.desk before.t slot) refl step number answered in
      let says' = passes.says in
      let same : passes.message ≡ message = cc in
      subst (λ m. (head_said m).receiver ≤ before.desk.node_count) same passes.receives.inside

  -- A delivery that is answered 1 had a plan, whose record is in the node's place.
  pub record Handles : Type 0 where
    pub plan : Plan
    pub passes : DeliverPasses (Some plan)
    pub nodes : after.t.nodes ≡ with_record before.t.nodes plan.receiver plan.node

  handled_by : (may : Result (Option Plan) Fault) → may_deliver parts.width parts.from_bytes (parts.winning before.rule) before.desk before.t slot ≡ may → Left may → answer ≡ Ok (Number 1)
      → Handles
  handled_by (Ok (Some plan)) may is one = record {
    plan = plan;
    passes = deliver_passes parts.width parts.from_bytes (parts.winning before.rule) before.desk before.t slot (Some plan) may;
    nodes = ap (λ (s : State Q S). s.t.nodes) (state_of is);
  }
  handled_by (Ok None) may is one = absurd (let ignored : answer ≡ Ok (Number 0) = answer_of is in cc)
  handled_by (Err fault) may is one = absurd (let refused : answer ≡ Err fault = answer_of is in cc)

  pub handled : Step parts before (made.Deliver slot) answer after → answer ≡ Ok (Number 1) → Handles
  handled step one = handled_by (may_deliver parts.width parts.from_bytes (parts.winning before.rule) before.desk before.t slot) refl step one
