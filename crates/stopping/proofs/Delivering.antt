-- The call deliver stops rightly.
use Rattle.std.proofs.Common.{◌≡◌, ◌⊎◌, ℕ, ◌<◌, ◌≤◌, Bool, true, false, not, ◌&&◌, List, take, Option, Some, None, Result, Ok, Err, refl, ap, if◌then◌else◌, arith}
use Rattle.std.specs.Prelude.{IfErr, IsSomeAnd, nat_lt, option_map, option_and_then}
use Rattle.std.proofs.lemmas.Bool.Decides.{nat_tests}
use Rattle.calls.specs.declared.call.Answer.{Answer}
use Rattle.calls.specs.declared.call.Answer.TheVariants.{Number}
use Rattle.calls.specs.declared.call.Call.{Call}
use Rattle.calls.specs.declared.call.Call.TheVariants as call
use Rattle.delivery.specs.Delivery as delivery
use Rattle.delivery.specs.Delivery.{from_refusal, from_frame_fault, message_in, has_room, received, may_deliver, delivering}
use Rattle.delivery.specs.declared.delivery.Delivery.TheVariants.{Handled, Answered}
use Rattle.desk.specs.Asking.{and_then, record_of, running}
use Rattle.fault.specs.declared.Fault.{Fault}
use Rattle.fault.specs.declared.Fault.TheVariants.{Closed, TableLength, NoSlot, Unreadable, NoNode, Stopped, TooFewSlots, Chooser}
use Rattle.floor.specs.State.{State}
use Rattle.floor.specs.Steps.{leaving}
use Rattle.frame.specs.declared.fault.FrameFault.{FrameFault}
use Rattle.frame.specs.Messages.{Said, reading}
use Rattle.law.proofs.Outcomes.{Outcome, answer_of}
use Rattle.law.specs.Runs.{Parts, Step, telling, told}
use Rattle.link.proofs.NotRefused.{runs}
use Rattle.node.specs.declared.plan.Plan.{Plan}
use Rattle.node.specs.declared.plan.Reply.{Reply}
use Rattle.node.specs.Applying.{may_apply}
use Rattle.node.specs.Plans.{answers}
use Rattle.node.specs.Received.{head_said}
use Rattle.node.specs.Rules.{planned}
use Rattle.refusal.specs.declared.Refusal.TheVariants as refused
use Rattle.slots.specs.Slots.{is_empty, empty_count}
use Rattle.tables.specs.declared.records.NodeRecord.{NodeRecord}
use Rattle.writer.specs.Table.{slots, slot_of}
use Rattle.stopping.specs.Grounds.{Holds, StopsRightly, if_read, read_in, reply_due}
use Rattle.stopping.proofs.Asked.{running_holds, running_up_to, none_stops, stopped_stops}
use Rattle.stopping.proofs.Chains.{UpTo, Stops, then_holds, and_holds, first_stops, and_first_stops, next_stops, of_mapped, at_mapped, of_next, at_next}
use Rattle.stopping.proofs.Ending.{no_frame, fails_there}
use Rattle.stopping.proofs.Judged.{Judged, StopsAtEach, stopped, went_on, rightly}
use Rattle.stopping.proofs.Serving.{all_grounded, stops_closed, stops_lengths, rest_stops}

-- The frame: it is there or not, and what reading it answers

-- a frame that cannot be read
fault_holds : (P : Fault → Type 0) (answer : Result Said FrameFault) → ((fault : FrameFault) → answer ≡ Err fault → P (Unreadable fault)) → IfErr (from_frame_fault answer) P
fault_holds P (Ok message) unreadable = tt
fault_holds P (Err fault) unreadable = unreadable fault refl

read_is : (answer : Result Said FrameFault) (message : Said) → from_frame_fault answer ≡ Ok message → answer ≡ Ok message
read_is (Ok other) message is = cc
read_is (Err fault) message is = absurd (cc)

fault_stops : (answer : Result Said FrameFault) (fault : FrameFault) → answer ≡ Err fault → Stops 4 (from_frame_fault answer)
fault_stops (Ok message) fault is = absurd (cc)
fault_stops (Err other) fault is = omega arith

module _ (read : List ℕ → Result Said FrameFault) (bytes : List ℕ) where
  -- what the frame says, where it is there
  abbrev Frame : Bool → Result Said Fault
  Frame there = and_then (from_refusal (if there then Ok bytes else Err refused.NoSlot)) (λ bytes. from_frame_fault (read bytes))

  -- It is not there, or cannot be read.
  frame_holds : (P : Fault → Type 0) (there : Bool) → (there ≡ false → P NoSlot) → ((fault : FrameFault) → read bytes ≡ Err fault → P (Unreadable fault)) → IfErr (Frame there) P
  frame_holds P true no_slot unreadable = fault_holds P (read bytes) unreadable
  frame_holds P false no_slot unreadable = no_slot refl

  -- what the call goes on with is what reading answers
  frame_read : (there : Bool) (message : Said) → Frame there ≡ Ok message → read bytes ≡ Ok message
  frame_read true message is = read_is (read bytes) message is
  frame_read false message is = absurd (cc)

  no_slot_stops : (there : Bool) → there ≡ false → Stops 3 (Frame there)
  no_slot_stops true is = absurd (cc)
  no_slot_stops false is = omega arith

  -- One that is not there stops on 3, which is lower.
  unreadable_stops : (there : Bool) (fault : FrameFault) → read bytes ≡ Err fault → Stops 4 (Frame there)
  unreadable_stops true fault is = fault_stops (read bytes) fault is
  unreadable_stops false fault is = omega arith

-- The reply: it finds a slot or not

module _ (frames : List ℕ) where
  abbrev Fewer : ℕ → Type 0
  Fewer due = empty_count frames < due

  -- what sending one frame asks
  sent_holds : (P : Fault → Type 0) (few : Bool) → (few ≡ true → P TooFewSlots) → IfErr (from_refusal {A = Unit {0}} (if few then Err refused.TooFewSlots else Ok tt)) P
  sent_holds P true holds = holds refl
  sent_holds P false holds = tt

  sent_stops : (few : Bool) → few ≡ true → Stops 19 (from_refusal {A = Unit {0}} (if few then Err refused.TooFewSlots else Ok tt))
  sent_stops true is = omega arith
  sent_stops false is = absurd (cc)

  -- A reply is one frame.
  reply_holds : (P : Fault → Type 0) (reply : Option Reply) → (IsSomeAnd (option_map (λ _. 1) reply) Fewer → P TooFewSlots) → IfErr (from_refusal (may_apply reply frames)) P
  reply_holds P (Some reply) few = sent_holds P (nat_lt (empty_count frames) 1) (λ test. few (grind (arith, nat_tests)))
  reply_holds P None few = tt

  reply_stops : (reply : Option Reply) → IsSomeAnd (option_map (λ _. 1) reply) Fewer → Stops 19 (from_refusal (may_apply reply frames))
  reply_stops (Some reply) few = sent_stops (nat_lt (empty_count frames) 1) (grind (arith, nat_tests))
  reply_stops None few = absurd few

  -- a reply, where one is planned
  abbrev due_of : Plan → Option ℕ
  due_of plan = option_map (λ _. 1) plan.reply

  -- Where no reply is planned, no slot is asked for.
  room_holds : (P : Fault → Type 0) (said : Option Plan) → (IsSomeAnd (option_and_then due_of said) Fewer → P TooFewSlots) → IfErr (has_room frames said) P
  room_holds P (Some plan) few = and_holds P (from_refusal (may_apply plan.reply frames)) (Ok (Some plan)) (reply_holds P plan.reply few) tt
  room_holds P None few = tt

  room_stops : (said : Option Plan) → IsSomeAnd (option_and_then due_of said) Fewer → Stops 19 (has_room frames said)
  room_stops (Some plan) few = and_first_stops (UpTo 19) (from_refusal (may_apply plan.reply frames)) (Ok (Some plan)) (reply_stops plan.reply few)
  room_stops None few = absurd few

module _ {C Q S : Type 0} (parts : Parts C Q S) (before : State Q S) (answer : Result Answer Fault) (after : State Q S) (slot : ℕ) where
  abbrev delivers : Call C
  delivers = call.Deliver slot

  abbrev DeliverGround : Fault → Type 0
  DeliverGround = Holds parts before delivers after.chooser

  abbrev wins : ℕ → ℕ → Bool
  wins = parts.winning before.rule

  abbrev may : Result (Option Plan) Fault
  may = may_deliver parts.width parts.from_bytes wins before.desk before.t slot

  abbrev there : Bool
  there = nat_lt slot (slots before.t.frames) && not (is_empty before.t.frames slot)

  abbrev bytes : List ℕ
  bytes = slot_of before.t.frames slot

  abbrev reads : List ℕ → Result Said FrameFault
  reads bytes = reading parts.width parts.from_bytes bytes

  abbrev frame : Result Said Fault
  frame = message_in parts.width parts.from_bytes before.t.frames slot

  abbrev rest : Result (Option Plan) Fault
  rest = and_then frame (received wins before.desk before.t)

  -- The frame says this.
  abbrev Says : Said → Type 0
  Says message = read_in parts before slot ≡ Ok message

  abbrev receiver : Said → ℕ
  receiver message = (head_said message).receiver

  -- of the receiver, where the frame can be read
  at_receiver : (P : ℕ → Type 0) (message : Said) → Says message → P (receiver message) → IsSomeAnd (option_map receiver (if_read (read_in parts before slot))) P
  at_receiver P message says holds = at_mapped P receiver (if_read (read_in parts before slot)) message (ap if_read says) holds

  of_receiver : (P : ℕ → Type 0) (message : Said) → Says message → IsSomeAnd (option_map receiver (if_read (read_in parts before slot))) P → P (receiver message)
  of_receiver P message says holds = of_mapped P receiver (if_read (read_in parts before slot)) message (ap if_read says) holds

  -- The receiver's record, and whether too few slots are empty for what it replies
  abbrev Its : Said → NodeRecord → Type 0
  Its message found = record_of before.t.nodes (receiver message) ≡ Some found

  abbrev plan_of : Said → NodeRecord → Option Plan
  plan_of message found = planned wins found (take before.desk.operations_used before.t.operations) before.desk.moment message

  abbrev due_by : Said → Option ℕ
  due_by message = option_and_then (reply_due parts before message) (record_of before.t.nodes (receiver message))

  abbrev TooFew : Type 0
  TooFew = IsSomeAnd (option_and_then due_by (if_read (read_in parts before slot))) (Fewer before.t.frames)

  -- Where too few slots are empty for the reply of this record to this message, that is so of the call,
  too_few : (message : Said) → Says message → (found : NodeRecord) → Its message found → IsSomeAnd (reply_due parts before message found) (Fewer before.t.frames) → TooFew
  too_few message says found its few =
      at_next (Fewer before.t.frames) due_by (if_read (read_in parts before slot)) message (ap if_read says)
      (at_next (Fewer before.t.frames) (reply_due parts before message) (record_of before.t.nodes (receiver message)) found its few)

  -- and the other way round.
  few_so : (message : Said) → Says message → (found : NodeRecord) → Its message found → TooFew → IsSomeAnd (reply_due parts before message found) (Fewer before.t.frames)
  few_so message says found its few =
      of_next (Fewer before.t.frames) (reply_due parts before message) (record_of before.t.nodes (receiver message)) found its
      (of_next (Fewer before.t.frames) due_by (if_read (read_in parts before slot)) message (ap if_read says) few)

  -- What the receiver is asked

  abbrev its_run : Said → Result NodeRecord Fault
  its_run message = running before.desk before.t.nodes (receiver message)

  abbrev its_room : Said → NodeRecord → Result (Option Plan) Fault
  its_room message found = has_room before.t.frames (plan_of message found)

  -- The receiver is asked whether it runs, then for a slot for what it replies.
  received_grounded : (message : Said) → Says message → IfErr (received wins before.desk before.t message) DeliverGround
  received_grounded message says =
      then_holds DeliverGround (its_run message) (its_room message)
      (running_holds before.desk before.t.nodes (receiver message) DeliverGround
      (at_receiver (λ node. (node ≡ 0) ⊎ ((before.desk.node_count < node) ⊎ (record_of before.t.nodes node ≡ None))) message says)
      (at_receiver (λ node. IsSomeAnd (record_of before.t.nodes node) (λ found. found.stopped ≡ true)) message says)) (λ found is.
      room_holds before.t.frames DeliverGround (plan_of message found) (too_few message says found (runs before.desk before.t.nodes (receiver message) found is).here))

  frame_says : (message : Said) → frame ≡ Ok message → Says message
  frame_says message is = frame_read reads bytes there message is

  -- Each question stops on its own ground.
  deliver_grounded : IfErr may DeliverGround
  deliver_grounded =
      all_grounded parts before delivers after.chooser refl rest
      (then_holds DeliverGround frame (received wins before.desk before.t)
      (frame_holds reads bytes DeliverGround there (no_frame before.t.frames slot) (λ fault is. is)) (λ message is. received_grounded message (frame_says message is)))

  -- after the frame
  after_frame : (n : ℕ) → 4 ≤ n → ((message : Said) → Says message → Stops n (received wins before.desk before.t message)) → Stops n may
  after_frame n low further =
      rest_stops parts before delivers after.chooser refl rest n (omega arith)
      (next_stops (UpTo n) frame (received wins before.desk before.t) (frame_holds reads bytes (UpTo n) there (λ _. omega arith) (λ fault _. low)) (λ message is.
      further message (frame_says message is)))

  -- It stops where a ground holds: what is asked before has a lower number.
  deliver_each : StopsAtEach parts before delivers answer after may
  deliver_each Closed low holds = stops_closed parts before delivers after.chooser refl rest holds
  deliver_each TableLength low holds = stops_lengths parts before delivers after.chooser refl rest holds
  deliver_each NoSlot low holds =
      rest_stops parts before delivers after.chooser refl rest 3 (omega arith)
      (first_stops (UpTo 3) frame (received wins before.desk before.t) (no_slot_stops reads bytes there (fails_there before.t.frames slot holds)))
  deliver_each (Unreadable fault) low holds =
      rest_stops parts before delivers after.chooser refl rest 4 (omega arith) (first_stops (UpTo 4) frame (received wins before.desk before.t) (unreadable_stops reads bytes there fault holds))
  deliver_each NoNode low holds =
      after_frame 7 (omega arith) (λ message says.
      first_stops (UpTo 7) (its_run message) (its_room message)
      (none_stops before.desk before.t.nodes (receiver message)
      (of_receiver (λ node. (node ≡ 0) ⊎ ((before.desk.node_count < node) ⊎ (record_of before.t.nodes node ≡ None))) message says holds)))
  deliver_each Stopped low holds =
      after_frame 8 (omega arith) (λ message says.
      first_stops (UpTo 8) (its_run message) (its_room message)
      (stopped_stops before.desk before.t.nodes (receiver message) (of_receiver (λ node. IsSomeAnd (record_of before.t.nodes node) (λ found. found.stopped ≡ true)) message says holds)))
  deliver_each TooFewSlots low holds =
      after_frame 19 (omega arith) (λ message says.
      next_stops (UpTo 19) (its_run message) (its_room message) (running_up_to before.desk before.t.nodes (receiver message) 19 (omega arith)) (λ found is.
      room_stops before.t.frames (plan_of message found) (few_so message says found (runs before.desk before.t.nodes (receiver message) found is).here holds)))
  deliver_each (Chooser refusal) low holds = absurd (cc)
  deliver_each _ low holds = absurd holds

  -- It answers what became of the frame, or the fault.
  delivered : (result : Result (Option Plan) Fault) → may ≡ result → ◌≡◌ {A = Outcome Q S} (answer, after) (telling (told delivery.number) (leaving before (delivering parts.width before.desk before.t result)))
      → Judged parts before delivers answer after
  delivered (Ok (Some plan)) is step =
      went_on parts before delivers answer after may deliver_grounded deliver_each (Some plan) is (Number (delivery.number (if answers plan.row then Answered else Handled))) (answer_of step) refl
  delivered (Ok None) is step = went_on parts before delivers answer after may deliver_grounded deliver_each None is (Number 0) (answer_of step) refl
  delivered (Err fault) is step = stopped parts before delivers answer after may deliver_grounded deliver_each fault is step

  pub deliver_rightly : Step parts before delivers answer after → StopsRightly parts before delivers answer after
  deliver_rightly step = rightly parts before delivers answer after (delivered may refl step)
