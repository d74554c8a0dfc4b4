-- What a call did, as a chart shows it.
use Rattle.std.specs.Prelude.{ℕ, zero, suc, Bool, true, false, not, ◌&&◌, List, slice_get, Option, Some, None, Result, Ok, Err, nat_lt, if◌then◌else◌}
use Rattle.calls.specs.declared.call.Answer.{Answer}
use Rattle.calls.specs.declared.call.Answer.TheVariants.{Number, Row}
use Rattle.calls.specs.declared.call.Call.{Call}
use Rattle.calls.specs.declared.call.Call.TheVariants.{Open, Read, Write, Regroup, Propose, Settle, Work, Deliver, Lose, GiveUp, Stop, Look}
use Rattle.content.specs.Bytes.{padded}
use Rattle.desk.specs.Asking.{record_of}
use Rattle.fault.specs.declared.Fault.{Fault}
use Rattle.tables.specs.declared.copy.SheetCopy.{SheetCopy}
use Rattle.tables.specs.declared.records.NodeRecord.{NodeRecord}
use Rattle.tables.specs.declared.records.OperationRow.{OperationRow}
use Rattle.tables.specs.declared.records.Status.{Status}
use Rattle.tables.specs.declared.records.Status.TheVariants.{Idle, Active, Frozen}
use Rattle.chart.specs.declared.arrow.Arrow.{Arrow}
use Rattle.chart.specs.declared.event.Change.{Change}
use Rattle.chart.specs.declared.event.Change.TheVariants.{Nothing, Froze, Joined}
use Rattle.chart.specs.declared.event.Event.{Event}
use Rattle.chart.specs.declared.event.Event.TheVariants as event
use Rattle.chart.specs.declared.event.Sight.{Sight}

-- Starts, proposals, settling, and what ends an operation: from the row or the record that tells of it

abbrev pub started : ℕ → Option OperationRow → Event
started operation (Some row) = event.Started operation row
started operation None = event.Unseen

abbrev pub proposed : ℕ → ℕ → Option OperationRow → Event
proposed operation proposal (Some row) = event.Proposed operation proposal row
proposed operation proposal None = event.Unseen

abbrev pub given_up : ℕ → Option OperationRow → Event
given_up operation (Some row) = event.GivenUp operation row
given_up operation None = event.Unseen

abbrev pub settled : ℕ → ℕ → Option NodeRecord → Event
settled node frames (Some record_after) = event.Settled node record_after.configuration.number frames
settled node frames None = event.Unseen

-- the copy that a sheet opens with
abbrev pub opening_copy : List ℕ → SheetCopy
opening_copy meaning = record { tag = record { version = 0; node = 0 }; content = padded meaning }

-- Frames

abbrev pub is_frozen : Status → Bool
is_frozen Idle = false
is_frozen Active = false
is_frozen Frozen = true

-- what is other at a node: it joined a later configuration, else it froze
abbrev pub change_of : NodeRecord → NodeRecord → Change
change_of old new =
    if nat_lt old.configuration.number new.configuration.number then Joined new.configuration
    else if not (is_frozen old.status) && is_frozen new.status then Froze new.configuration.number
    else Nothing

abbrev pub change_at : Option NodeRecord → Option NodeRecord → Change
change_at (Some old) (Some new) = change_of old new
change_at (Some old) None = Nothing
change_at None new = Nothing

abbrev pub answered_row : Arrow → ℕ → Option OperationRow → Event
answered_row arrow operation (Some row) = event.Answered arrow operation row
answered_row arrow operation None = event.Unseen

abbrev pub answered : Arrow → List OperationRow → Option ℕ → Event
answered arrow operations (Some operation) = answered_row arrow operation (slice_get operations operation)
answered arrow operations None = event.Unseen

-- what became of a frame: 0 is ignored, 1 taken, 2 taken with its operation answered
abbrev pub delivered_arrow : ℕ → Sight → Arrow → Event
delivered_arrow zero sight arrow = event.Ignored arrow
delivered_arrow (suc zero) sight arrow = event.Handled arrow (change_at (record_of sight.before.now arrow.head.receiver) (record_of sight.after.now arrow.head.receiver))
delivered_arrow (suc (suc zero)) sight arrow = answered arrow sight.operations.now arrow.operation
delivered_arrow number sight arrow = event.Unseen

abbrev pub delivered : ℕ → Sight → Option Arrow → Event
delivered number sight (Some arrow) = delivered_arrow number sight arrow
delivered number sight None = event.Unseen

abbrev pub lost : Bool → Option Arrow → Event
lost repeat (Some arrow) = event.Lost arrow repeat
lost repeat None = event.Unseen

-- Refusals: the node that a call speaks of, by its number, by the operation that was started there, or by the frame that goes there

abbrev pub row_node : Option OperationRow → Option ℕ
row_node (Some row) = Some row.node
row_node None = None

abbrev pub receiver : Option Arrow → Option ℕ
receiver (Some arrow) = Some arrow.head.receiver
receiver None = None

abbrev pub node_of : {C : Type 0} → Call C → Sight → Option ℕ
node_of (Open count members content) sight = None
node_of (Read node) sight = Some node
node_of (Write node content) sight = Some node
node_of (Regroup node members) sight = Some node
node_of (Propose operation) sight = row_node (slice_get sight.operations.now operation)
node_of (Settle node) sight = Some node
node_of (Work number step ballot set) sight = None
node_of (Deliver slot) sight = receiver sight.arrow
node_of (Lose slot) sight = receiver sight.arrow
node_of (GiveUp operation) sight = row_node (slice_get sight.operations.now operation)
node_of (Stop node) sight = Some node
node_of (Look operation) sight = row_node (slice_get sight.operations.now operation)

-- All calls

-- what a call did that was answered a number
abbrev pub numbered : {C : Type 0} → (C → List ℕ) → Call C → ℕ → Sight → Event
numbered meaning (Open count members content) number sight = event.Opened members (opening_copy (meaning content))
numbered meaning (Read node) operation sight = started operation (slice_get sight.operations.now operation)
numbered meaning (Write node content) operation sight = started operation (slice_get sight.operations.now operation)
numbered meaning (Regroup node members) operation sight = started operation (slice_get sight.operations.now operation)
numbered meaning (Propose operation) proposal sight = proposed operation proposal (slice_get sight.operations.now operation)
numbered meaning (Settle node) frames sight = settled node frames (record_of sight.after.now node)
numbered meaning (Work number step ballot set) answer sight = event.Worked number step ballot set
numbered meaning (Deliver slot) number sight = delivered number sight sight.arrow
numbered meaning (Lose slot) number sight = lost sight.repeat sight.arrow
numbered meaning (GiveUp operation) number sight = given_up operation (slice_get sight.operations.now operation)
numbered meaning (Stop node) number sight = event.Stopped node
numbered meaning (Look operation) number sight = event.Unseen

-- What a call did, from its answer and what is seen round it. The kind of answer that a call never gets shows nothing, and so does a frame or a row that is not there.
abbrev pub happened : {C : Type 0} → (C → List ℕ) → Call C → Result Answer Fault → Sight → Event
happened meaning call (Ok (Number number)) sight = numbered meaning call number sight
happened meaning call (Ok (Row row)) sight = event.Unseen
happened meaning call (Err fault) sight = event.Refused (node_of call sight) fault
