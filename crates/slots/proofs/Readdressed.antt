-- A letter's frames differ in their receivers alone.
use Rattle.std.proofs.Common.{◌≡◌, ℕ, refl}
use Rattle.std.specs.Prelude.{slice_set}
use Rattle.frame.specs.Bytes.{bytes_of}
use Rattle.slots.specs.declared.letter.Body.{Body}
use Rattle.slots.specs.declared.letter.Body.TheVariants.{Get, GetAck, Put, PutAck, Freeze, Held, Update}
use Rattle.slots.specs.declared.letter.Letter.{Letter}
use Rattle.slots.specs.Letters.{said, addressed}

-- the receiver is the second byte of every frame
said_to : (width sender number nobody receiver : ℕ) (body : Body)
    → slice_set (bytes_of (said width (record { receiver = nobody; sender = sender; number = number }) body)) 1 receiver
    ≡ bytes_of (said width (record { receiver = receiver; sender = sender; number = number }) body)
said_to width sender number nobody receiver (Get operation) = refl
said_to width sender number nobody receiver (GetAck operation) = refl
said_to width sender number nobody receiver (Put operation copy) = refl
said_to width sender number nobody receiver (PutAck operation) = refl
said_to width sender number nobody receiver (Freeze operation) = refl
said_to width sender number nobody receiver (Held operation copy) = refl
said_to width sender number nobody receiver (Update members copy) = refl

pub readdressed : (width nobody receiver : ℕ) (letter : Letter) → slice_set (bytes_of (addressed width letter nobody)) 1 receiver ≡ bytes_of (addressed width letter receiver)
readdressed width nobody receiver letter = said_to width letter.sender letter.number nobody receiver letter.body
