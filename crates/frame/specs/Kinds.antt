-- The kinds of frame: their numbers, and their names as they are printed.
use Rattle.std.specs.Prelude.{ℕ, List, Ok, Err, Result, codes, ◌==◌, if◌then◌else◌}
use Rattle.frame.specs.declared.fault.Cause.TheVariants.{Kind}
use Rattle.frame.specs.declared.fault.FrameFault.{FrameFault}
use Rattle.frame.specs.declared.kind.FrameKind.{FrameKind}
use Rattle.frame.specs.declared.kind.FrameKind.TheVariants.{Get, GetAck, Put, PutAck, Freeze, Held, Update}
use Rattle.frame.specs.Faults.{fault}

-- the number of a kind
abbrev pub kind_number : FrameKind → ℕ
kind_number Get = 1
kind_number GetAck = 2
kind_number Put = 3
kind_number PutAck = 4
kind_number Freeze = 5
kind_number Held = 6
kind_number Update = 7

-- the kind of a number, or the fault of the first byte
abbrev pub kind_from : ℕ → Result FrameKind FrameFault
kind_from n =
    if n == 1 then Ok Get
    else if n == 2 then Ok GetAck
    else if n == 3 then Ok Put
    else if n == 4 then Ok PutAck
    else if n == 5 then Ok Freeze
    else if n == 6 then Ok Held
    else if n == 7 then Ok Update
    else Err (fault Kind 0)

-- a kind as it is printed
abbrev pub shown_kind : FrameKind → List ℕ
shown_kind Get = codes "get"
shown_kind GetAck = codes "get-ack"
shown_kind Put = codes "put"
shown_kind PutAck = codes "put-ack"
shown_kind Freeze = codes "freeze"
shown_kind Held = codes "held"
shown_kind Update = codes "update"
