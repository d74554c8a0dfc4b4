-- The call deliver: what it answers and leaves.
use Rattle.std.specs.Prelude.{ℕ, Bool, List, take, Option, Some, None, Result, Ok, Err, if◌then◌else◌}
use Rattle.std.specs.Result.{result_and}
use Rattle.fault.specs.declared.Fault.{Fault}
use Rattle.fault.specs.declared.Fault.TheVariants.{Unreadable}
use Rattle.fault.specs.Faults.{fault_of}
use Rattle.frame.specs.declared.fault.FrameFault.{FrameFault}
use Rattle.frame.specs.Messages.{Said, reading}
use Rattle.refusal.specs.declared.Refusal.{Refusal}
use Rattle.slots.specs.Slots.{occupied}
use Rattle.tables.specs.Moments.{next_moment}
use Rattle.node.specs.declared.plan.Plan.{Plan}
use Rattle.node.specs.Applying.{with_record, with_row, with_reply, may_apply}
use Rattle.node.specs.Plans.{answers}
use Rattle.node.specs.Received.{head_said}
use Rattle.node.specs.Rules.{planned}
use Rattle.desk.specs.declared.desk.Desk.{Desk}
use Rattle.desk.specs.Tables.{Tables}
use Rattle.desk.specs.Asking.{and_then, served, running}
use Rattle.delivery.specs.declared.delivery.Delivery.{Delivery}
use Rattle.delivery.specs.declared.delivery.Delivery.TheVariants.{Ignored, Handled, Answered}

-- the number of what a delivery answers
abbrev pub number : Delivery → ℕ
number Ignored = 0
number Handled = 1
number Answered = 2

-- a refusal of a part below as the ground of the same number
abbrev pub from_refusal : {A : Type 0} → Result A Refusal → Result A Fault
from_refusal (Ok value) = Ok value
from_refusal (Err refusal) = Err (fault_of refusal)

-- the fault of an unreadable slot as a ground, with its cause and its offset
abbrev pub from_frame_fault : {A : Type 0} → Result A FrameFault → Result A Fault
from_frame_fault (Ok value) = Ok value
from_frame_fault (Err fault) = Err (Unreadable fault)

-- what the frame in a slot says
abbrev pub message_in : {C : Type 0} → ℕ → (List ℕ → Option C) → List ℕ → ℕ → Result Said Fault
message_in width reads frames slot = and_then (from_refusal (occupied frames slot)) (λ bytes. from_frame_fault (reading width reads bytes))

-- a plan whose reply, if it has one, finds an empty slot
abbrev pub has_room : List ℕ → Option Plan → Result (Option Plan) Fault
has_room frames (Some plan) = result_and (from_refusal (may_apply plan.reply frames)) (Ok (Some plan))
has_room frames None = Ok None

-- what the receiver makes of a message: it has to be a node of the floor that is running
abbrev pub received : (ℕ → ℕ → Bool) → Desk → Tables → Said → Result (Option Plan) Fault
received wins desk t message =
    and_then (running desk t.nodes (head_said message).receiver) (λ found.
    has_room t.frames (planned wins found (take desk.operations_used t.operations) desk.moment message))

-- the plan of the delivery, none where the frame is ignored; or the first ground on which the call stops
abbrev pub may_deliver : {C : Type 0} → ℕ → (List ℕ → Option C) → (ℕ → ℕ → Bool) → Desk → Tables → ℕ → Result (Option Plan) Fault
may_deliver width reads wins desk t slot =
    result_and (served desk t) (and_then (message_in width reads t.frames slot) (received wins desk t))

-- the tables with a plan applied; the frame stays in its slot
abbrev pub applied : ℕ → Tables → Plan → Tables
applied width t plan = record {
  nodes = with_record t.nodes plan.receiver plan.node;
  operations = with_row t.operations plan.row;
  frames = with_reply width t.frames plan.reply;
  proposals = t.proposals;
}

-- an answer raises the moment
abbrev pub timed : Desk → Plan → Desk
timed desk plan = record desk { moment = if answers plan.row then next_moment desk.moment else desk.moment }

abbrev pub delivering : ℕ → Desk → Tables → Result (Option Plan) Fault → Result Delivery Fault × Desk × Tables
delivering width desk t (Ok (Some plan)) = (Ok (if answers plan.row then Answered else Handled), timed desk plan, applied width t plan)
delivering width desk t (Ok None) = (Ok Ignored, desk, t)
delivering width desk t (Err fault) = (Err fault, desk, t)

abbrev pub deliver_step : {C : Type 0} → ℕ → (List ℕ → Option C) → (ℕ → ℕ → Bool) → Desk → Tables → ℕ → Result Delivery Fault × Desk × Tables
deliver_step width reads wins desk t slot = delivering width desk t (may_deliver width reads wins desk t slot)
