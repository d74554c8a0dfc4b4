-- What a frame says, by value.
use Rattle.std.specs.Prelude.{take}
use Rattle.frame.specs.declared.message.Head.{Head}
use Rattle.frame.specs.Messages.{Said, get, get_ack, put, put_ack, freeze, held, update}
use Rattle.slots.specs.declared.letter.Body.{Body}
use Rattle.slots.specs.declared.letter.Body.TheVariants.{Get, GetAck, Put, PutAck, Freeze, Held, Update}
use Rattle.tables.specs.Copies.{copy_of}
use Rattle.tables.specs.Members.{list_of}

abbrev pub head_said : Said → Head
head_said (get head operation) = head
head_said (get_ack head operation) = head
head_said (put head operation tag content) = head
head_said (put_ack head operation) = head
head_said (freeze head operation) = head
head_said (held head operation tag content) = head
head_said (update head count members tag content) = head

-- what it says beyond its head, with copies and members as records have them
abbrev pub body_said : Said → Body
body_said (get head operation) = Get operation
body_said (get_ack head operation) = GetAck operation
body_said (put head operation tag content) = Put operation (copy_of tag content)
body_said (put_ack head operation) = PutAck operation
body_said (freeze head operation) = Freeze operation
body_said (held head operation tag content) = Held operation (copy_of tag content)
body_said (update head count members tag content) = Update (list_of (take count members)) (copy_of tag content)
