-- What a chart shows of a frame.
use Rattle.std.specs.Prelude.{ℕ, List, Option, Some, None, Result, Ok, Err}
use Rattle.frame.specs.declared.fault.FrameFault.{FrameFault}
use Rattle.frame.specs.declared.message.Tag.{Tag}
use Rattle.frame.specs.Bytes.{kind_of}
use Rattle.frame.specs.Messages.{Said, get, get_ack, put, put_ack, freeze, held, update, reading}
use Rattle.node.specs.Received.{head_said}
use Rattle.refusal.specs.declared.Refusal.{Refusal}
use Rattle.slots.specs.Slots.{occupied}
use Rattle.chart.specs.declared.arrow.Arrow.{Arrow}

-- which operation it belongs to
abbrev pub operation_said : Said → Option ℕ
operation_said (get head operation) = Some operation
operation_said (get_ack head operation) = Some operation
operation_said (put head operation tag content) = Some operation
operation_said (put_ack head operation) = Some operation
operation_said (freeze head operation) = Some operation
operation_said (held head operation tag content) = Some operation
operation_said (update head count members tag content) = None

-- the tag of its copy
abbrev pub tag_said : Said → Option Tag
tag_said (get head operation) = None
tag_said (get_ack head operation) = None
tag_said (put head operation tag content) = Some tag
tag_said (put_ack head operation) = None
tag_said (freeze head operation) = None
tag_said (held head operation tag content) = Some tag
tag_said (update head count members tag content) = Some tag

abbrev pub arrow_of : Said → Arrow
arrow_of message = record { kind = kind_of message; head = head_said message; operation = operation_said message; tag = tag_said message }

abbrev pub arrow_read : Result Said FrameFault → Option Arrow
arrow_read (Ok message) = Some (arrow_of message)
arrow_read (Err fault) = None

abbrev pub arrow_found : {C : Type 0} → ℕ → (List ℕ → Option C) → Result (List ℕ) Refusal → Option Arrow
arrow_found width reads (Ok bytes) = arrow_read (reading width reads bytes)
arrow_found width reads (Err refusal) = None

-- the frame in a slot, if one can be read there
abbrev pub arrow_in : {C : Type 0} → ℕ → (List ℕ → Option C) → List ℕ → ℕ → Option Arrow
arrow_in width reads frames slot = arrow_found width reads (occupied frames slot)
