-- What checking a slot answers.
use Rattle.std.specs.Prelude.{ℕ, ◌+◌, List, [], ◌∷◌, length, Ok, Err, Option, Result, ◌==◌, if◌then◌else◌}
use Rattle.std.specs.Result.{result_and}
use Rattle.frame.specs.declared.fault.Cause.TheVariants.{Rest}
use Rattle.frame.specs.declared.fault.FrameFault.{FrameFault}
use Rattle.frame.specs.declared.kind.FrameKind.{FrameKind}
use Rattle.frame.specs.declared.kind.FrameKind.TheVariants.{Get, GetAck, Put, PutAck, Freeze, Held, Update}
use Rattle.frame.specs.Faults.{fault}
use Rattle.frame.specs.Fields.{Test, byte_at, verdict, judged_runs, route_fields, number_operation_fields, number_count_fields, member_fields, tag_fields, content_fields, rest_test}
use Rattle.frame.specs.Kinds.{kind_number, kind_from}
use Rattle.frame.specs.Limits.{slot_size}

-- the fields between kind and rest, in their order: of get, get-ack, put-ack and freeze,
abbrev pub plain_runs : List ℕ → List (List Test)
plain_runs slot = route_fields slot ∷ number_operation_fields slot ∷ []

-- of put and held,
abbrev pub copy_runs : {C : Type 0} → ℕ → (List ℕ → Option C) → List ℕ → List (List Test)
copy_runs width reads slot = route_fields slot ∷ number_operation_fields slot ∷ tag_fields slot 6 ∷ content_fields width reads slot 9 ∷ []

-- and of update
abbrev pub update_runs : {C : Type 0} → ℕ → (List ℕ → Option C) → List ℕ → List (List Test)
update_runs width reads slot =
    route_fields slot ∷ number_count_fields slot ∷ member_fields slot ∷ tag_fields slot 12 ∷ content_fields width reads slot 15 ∷ []

-- those of each kind
abbrev pub kind_runs : {C : Type 0} → ℕ → (List ℕ → Option C) → List ℕ → FrameKind → List (List Test)
kind_runs width reads slot Get = plain_runs slot
kind_runs width reads slot GetAck = plain_runs slot
kind_runs width reads slot Put = copy_runs width reads slot
kind_runs width reads slot PutAck = plain_runs slot
kind_runs width reads slot Freeze = plain_runs slot
kind_runs width reads slot Held = copy_runs width reads slot
kind_runs width reads slot Update = update_runs width reads slot

-- how many bytes a frame of each kind takes
abbrev pub kind_takes : ℕ → FrameKind → ℕ
kind_takes width Get = 6
kind_takes width GetAck = 6
kind_takes width Put = 9 + width
kind_takes width PutAck = 6
kind_takes width Freeze = 6
kind_takes width Held = 9 + width
kind_takes width Update = 15 + width

-- The kind and the number of bytes that its frame takes; or the fault of the first field that fails, the rest behind those bytes last.
abbrev pub checked_kind : {C : Type 0} → ℕ → (List ℕ → Option C) → List ℕ → FrameKind → Result (FrameKind × ℕ) FrameFault
checked_kind width reads slot kind =
    result_and (judged_runs (kind_runs width reads slot kind) (tt {0}))
    (result_and (verdict (rest_test slot (kind_takes width kind))) (Ok (kind, kind_takes width kind)))

-- the same where the first byte gave a kind, else its fault
abbrev pub checked_as : {C : Type 0} → ℕ → (List ℕ → Option C) → List ℕ → Result FrameKind FrameFault → Result (FrameKind × ℕ) FrameFault
checked_as width reads slot (Ok kind) = checked_kind width reads slot kind
checked_as width reads slot (Err fault) = Err fault

-- The frame in a slot, on every list of bytes. One that does not have 32 is at fault as a whole: cause rest, offset 0.
abbrev pub frame_in : {C : Type 0} → ℕ → (List ℕ → Option C) → List ℕ → Result (FrameKind × ℕ) FrameFault
frame_in width reads slot =
    if length slot == slot_size then checked_as width reads slot (kind_from (byte_at slot 0)) else Err (fault Rest 0)

-- the kind by its number
abbrev pub numbered : Result (FrameKind × ℕ) FrameFault → Result (ℕ × ℕ) FrameFault
numbered (Ok found) = Ok (kind_number found.0, found.1)
numbered (Err fault) = Err fault

-- What checking answers: kind and length of the frame in the slot as two plain numbers, or the fault.
abbrev pub checked : {C : Type 0} → ℕ → (List ℕ → Option C) → List ℕ → Result (ℕ × ℕ) FrameFault
checked width reads slot = numbered (frame_in width reads slot)
