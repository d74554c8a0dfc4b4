-- Frames fit their slots: contents have at most 16 bytes, and an update has seven members.
use Rattle.std.proofs.Common.{◌≡◌, ℕ, ◌≤◌, List, length, arith, length-append}
use Rattle.std.proofs.lemmas.List.{length-take, length-replicate}
use Rattle.content.specs.Bytes.{widest}
use Rattle.frame.specs.Bytes.{taken, filled}
use Rattle.frame.specs.declared.message.Head.{Head}
use Rattle.frame.specs.Limits.{slot_size}
use Rattle.quorum.specs.Limits.{largest_group}
use Rattle.slots.proofs.Sending.{Fills}
use Rattle.slots.specs.declared.letter.Body.{Body}
use Rattle.slots.specs.declared.letter.Body.TheVariants.{Get, GetAck, Put, PutAck, Freeze, Held, Update}
use Rattle.slots.specs.declared.letter.Letter.{Letter}
use Rattle.slots.specs.Letters.{said, addressed}

-- what an update has to have
abbrev pub BodyFits : Body → Type 0
BodyFits (Update members copy) = length members.nodes ≡ largest_group
BodyFits _ = Unit {0}

filled_whole : (bytes : List ℕ) → length bytes ≤ slot_size → length (filled bytes) ≡ slot_size
filled_whole bytes room = simp (length-append, length-replicate) (omega arith)

body_fills : (width : ℕ) → width ≤ widest → (head : Head) (body : Body) → BodyFits body → length (taken (said width head body)) ≤ slot_size
body_fills width narrow head (Get operation) fits = omega arith
body_fills width narrow head (GetAck operation) fits = omega arith
body_fills width narrow head (Put operation copy) fits = omega (arith, length-take width copy.content)
body_fills width narrow head (PutAck operation) fits = omega arith
body_fills width narrow head (Freeze operation) fits = omega arith
body_fills width narrow head (Held operation copy) fits = omega (arith, length-take width copy.content)
body_fills width narrow head (Update members copy) fits = omega (arith, fits, length-append {A = ℕ}, length-take width copy.content)

pub letter_fills : (width : ℕ) → width ≤ widest → (letter : Letter) → BodyFits letter.body → Fills width letter
letter_fills width narrow letter fits receiver =
    filled_whole (taken (addressed width letter receiver))
    (body_fills width narrow (record { receiver = receiver; sender = letter.sender; number = letter.number }) letter.body fits)
