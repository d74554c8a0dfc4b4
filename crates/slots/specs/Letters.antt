-- What a letter says when it goes to a receiver.
use Rattle.std.specs.Prelude.{ℕ, take}
use Rattle.frame.specs.declared.message.Head.{Head}
use Rattle.frame.specs.Messages.{Said, get, get_ack, put, put_ack, freeze, held, update}
use Rattle.slots.specs.declared.letter.Body.{Body}
use Rattle.slots.specs.declared.letter.Body.TheVariants.{Get, GetAck, Put, PutAck, Freeze, Held, Update}
use Rattle.slots.specs.declared.letter.Letter.{Letter}

-- A body under a head. A copy's content lies in sixteen bytes, of which the kind's width are the content.
abbrev pub said : ℕ → Head → Body → Said
said width head (Get operation) = get head operation
said width head (GetAck operation) = get_ack head operation
said width head (Put operation copy) = put head operation copy.tag (take width copy.content)
said width head (PutAck operation) = put_ack head operation
said width head (Freeze operation) = freeze head operation
said width head (Held operation copy) = held head operation copy.tag (take width copy.content)
said width head (Update members copy) = update head members.count members.nodes copy.tag (take width copy.content)

-- the letter as a message to the receiver
abbrev pub addressed : ℕ → Letter → ℕ → Said
addressed width letter receiver = said width (record { receiver = receiver; sender = letter.sender; number = letter.number }) letter.body
