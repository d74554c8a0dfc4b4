-- The 32 bytes of a message.
use Rattle.std.specs.Prelude.{ℕ, ◌-◌, ◌/◌, ◌%◌, ◌^◌, ◌<◌, Bool, true, ◌&&◌, List, [], ◌∷◌, ◌++◌, length, replicate, ◌==◌}
use Rattle.quorum.specs.Limits.{largest_group}
use Rattle.frame.specs.declared.kind.FrameKind.{FrameKind}
use Rattle.frame.specs.declared.kind.FrameKind.TheVariants.{Get, GetAck, Put, PutAck, Freeze, Held, Update}
use Rattle.frame.specs.declared.message.Head.{Head}
use Rattle.frame.specs.declared.message.Tag.{Tag}
use Rattle.frame.specs.Kinds.{kind_number}
use Rattle.frame.specs.Limits.{slot_size}
use Rattle.frame.specs.Messages.{Said, get, get_ack, put, put_ack, freeze, held, update}

-- a number as two bytes, the high one first
abbrev pub two_bytes : ℕ → List ℕ
two_bytes n = (n / 256 % 256) ∷ (n % 256) ∷ []

-- kind, receiver, sender, number
abbrev pub head_bytes : FrameKind → Head → List ℕ
head_bytes kind head = kind_number kind ∷ head.receiver ∷ head.sender ∷ head.number ∷ []

-- version, node
abbrev pub tag_bytes : Tag → List ℕ
tag_bytes tag = two_bytes tag.version ++ (tag.node ∷ [])

-- what they take of their slot: get, get-ack, put-ack and freeze; put and held; update
abbrev pub plain_bytes : FrameKind → Head → ℕ → List ℕ
plain_bytes kind head operation = head_bytes kind head ++ two_bytes operation

abbrev pub copy_bytes : FrameKind → Head → ℕ → Tag → List ℕ → List ℕ
copy_bytes kind head operation tag content = head_bytes kind head ++ (two_bytes operation ++ (tag_bytes tag ++ content))

abbrev pub update_bytes : Head → ℕ → List ℕ → Tag → List ℕ → List ℕ
update_bytes head count members tag content = head_bytes Update head ++ ((count ∷ []) ++ (members ++ (tag_bytes tag ++ content)))

-- what a message takes of its slot
abbrev pub taken : Said → List ℕ
taken (get head operation) = plain_bytes Get head operation
taken (get_ack head operation) = plain_bytes GetAck head operation
taken (put head operation tag content) = copy_bytes Put head operation tag content
taken (put_ack head operation) = plain_bytes PutAck head operation
taken (freeze head operation) = plain_bytes Freeze head operation
taken (held head operation tag content) = copy_bytes Held head operation tag content
taken (update head count members tag content) = update_bytes head count members tag content

-- bytes, then zeros up to 32
abbrev pub filled : List ℕ → List ℕ
filled bytes = bytes ++ replicate (slot_size - length bytes) 0

-- a message as the bytes of its slot
abbrev pub bytes_of : Said → List ℕ
bytes_of message = filled (taken message)

-- the kind of a message
abbrev pub kind_of : Said → FrameKind
kind_of (get head operation) = Get
kind_of (get_ack head operation) = GetAck
kind_of (put head operation tag content) = Put
kind_of (put_ack head operation) = PutAck
kind_of (freeze head operation) = Freeze
kind_of (held head operation tag content) = Held
kind_of (update head count members tag content) = Update

-- A message's parts have the lengths of their fields: seven members, a content of the kind's width.
abbrev pub fits : ℕ → Said → Bool
fits width (get head operation) = true
fits width (get_ack head operation) = true
fits width (put head operation tag content) = length content == width
fits width (put_ack head operation) = true
fits width (freeze head operation) = true
fits width (held head operation tag content) = length content == width
fits width (update head count members tag content) = length members == largest_group && length content == width

-- Its operation and version have 16 bits, as in code they always do.
abbrev pub WordsFit : Said → Type 0
WordsFit (get head operation) = operation < 2 ^ 16
WordsFit (get_ack head operation) = operation < 2 ^ 16
WordsFit (put head operation tag content) = (operation < 2 ^ 16) × (tag.version < 2 ^ 16)
WordsFit (put_ack head operation) = operation < 2 ^ 16
WordsFit (freeze head operation) = operation < 2 ^ 16
WordsFit (held head operation tag content) = (operation < 2 ^ 16) × (tag.version < 2 ^ 16)
WordsFit (update head count members tag content) = tag.version < 2 ^ 16
