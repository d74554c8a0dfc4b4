-- What a message says, and what reading a slot answers.
use Rattle.std.specs.Prelude.{ℕ, ◌+◌, List, take, drop, Ok, Err, Option, Result}
use Rattle.frame.specs.declared.fault.FrameFault.{FrameFault}
use Rattle.frame.specs.declared.message.Head.{Head}
use Rattle.frame.specs.declared.message.Message.{Message}
use Rattle.frame.specs.declared.kind.FrameKind.{FrameKind}
use Rattle.frame.specs.declared.kind.FrameKind.TheVariants.{Get, GetAck, Put, PutAck, Freeze, Held, Update}
use Rattle.frame.specs.declared.message.Message.TheVariants as message
use Rattle.frame.specs.declared.message.Tag.{Tag}
use Rattle.frame.specs.Check.{frame_in}
use Rattle.frame.specs.Fields.{byte_at, word_at, members_of}

-- A message with its members and content as lists. The fields are head, operation, tag, content in kinds 1 to 6, as far as they have them; and head, count, members, tag, content in an update.
pub data Said : Type 0 where
  get : Head → ℕ → Said
  get_ack : Head → ℕ → Said
  put : Head → ℕ → Tag → List ℕ → Said
  put_ack : Head → ℕ → Said
  freeze : Head → ℕ → Said
  held : Head → ℕ → Tag → List ℕ → Said
  update : Head → ℕ → List ℕ → Tag → List ℕ → Said

-- what a message says: its fields, members and content as they stand where it borrows them
abbrev pub says : Message → Said
says (message.Get head operation) = get head operation
says (message.GetAck head operation) = get_ack head operation
says (message.Put head operation tag content) = put head operation tag content.now
says (message.PutAck head operation) = put_ack head operation
says (message.Freeze head operation) = freeze head operation
says (message.Held head operation tag content) = held head operation tag content.now
says (message.Update head count members tag content) = update head count members.now tag content.now

-- the same of an answer
abbrev pub answers : Result Message FrameFault → Result Said FrameFault
answers (Ok message) = Ok (says message)
answers (Err fault) = Err fault

-- the head of a slot
abbrev pub head_of : List ℕ → Head
head_of slot = record { receiver = byte_at slot 1; sender = byte_at slot 2; number = byte_at slot 3 }

-- the tag that begins at byte i
abbrev pub tag_at : List ℕ → ℕ → Tag
tag_at slot i = record { version = word_at slot i; node = byte_at slot (i + 2) }

-- what a slot of this kind says
abbrev pub told : ℕ → List ℕ → FrameKind → Said
told width slot Get = get (head_of slot) (word_at slot 4)
told width slot GetAck = get_ack (head_of slot) (word_at slot 4)
told width slot Put = put (head_of slot) (word_at slot 4) (tag_at slot 6) (take width (drop 9 slot))
told width slot PutAck = put_ack (head_of slot) (word_at slot 4)
told width slot Freeze = freeze (head_of slot) (word_at slot 4)
told width slot Held = held (head_of slot) (word_at slot 4) (tag_at slot 6) (take width (drop 9 slot))
told width slot Update = update (head_of slot) (byte_at slot 4) (members_of slot) (tag_at slot 12) (take width (drop 15 slot))

-- what the slot says where a frame was found, else the fault
abbrev pub told_if : ℕ → List ℕ → Result (FrameKind × ℕ) FrameFault → Result Said FrameFault
told_if width slot (Ok found) = Ok (told width slot found.0)
told_if width slot (Err fault) = Err fault

-- What reading answers, on every list of bytes: what the frame in the slot says, or the fault that checking answers.
abbrev pub reading : {C : Type 0} → ℕ → (List ℕ → Option C) → List ℕ → Result Said FrameFault
reading width reads slot = told_if width slot (frame_in width reads slot)
