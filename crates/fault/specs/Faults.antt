-- The grounds on which calls stop: their numbers and their words, and how they are printed with the values that they carry, as the contracts and the printed answers have them.
use Rattle.std.specs.Prelude.{◌≡◌, ℕ, List, ◌++◌, codes, decimal}
use Rattle.refusal.specs.Numbers as refusals
use Rattle.refusal.specs.declared.Refusal.{Refusal}
use Rattle.refusal.specs.declared.Refusal.TheVariants as refused
use Rattle.frame.specs.Faults as frames
use Rattle.chooser.specs.Refusals.{shown_refusal}
use Rattle.fault.specs.declared.Fault.{Fault}
use Rattle.fault.specs.declared.Fault.TheVariants.{Closed, AlreadyOpen, TableLength, NoSlot, Unreadable, NotStarted, NotOpen, NoRegroup, NoNode, NodeCount, Stopped, Idle, Frozen, NotPrimary, OtherNumber, Unlawful, TooFewFrozen, NoDecision, NotProposed, OperationsUsed, LastVersion, TooFewSlots, ProposalsUsed, Chooser}

-- the number of a ground
abbrev pub number : Fault → ℕ
number Closed = 1
number AlreadyOpen = 1
number TableLength = 2
number NoSlot = 3
number (Unreadable fault) = 4
number NotStarted = 5
number NotOpen = 6
number NoRegroup = 6
number NoNode = 7
number NodeCount = 7
number Stopped = 8
number Idle = 9
number Frozen = 10
number NotPrimary = 11
number OtherNumber = 12
number Unlawful = 13
number TooFewFrozen = 14
number NoDecision = 15
number NotProposed = 16
number OperationsUsed = 17
number LastVersion = 18
number TooFewSlots = 19
number ProposalsUsed = 20
number (Chooser refusal) = 21

-- a ground in words
abbrev pub words : Fault → List ℕ
words Closed = codes "floor not open"
words AlreadyOpen = codes "floor already open"
words TableLength = codes "table length not allowed, or not that of the opening"
words NoSlot = refusals.words refused.NoSlot
words (Unreadable fault) = codes "slot unreadable"
words NotStarted = codes "operation not started"
words NotOpen = codes "operation not open"
words NoRegroup = codes "operation is no regroup"
words NoNode = codes "node zero or above the node count"
words NodeCount = codes "node count not 1 to 16"
words Stopped = codes "node stopped"
words Idle = codes "node idle"
words Frozen = codes "node frozen"
words NotPrimary = codes "node not primary"
words OtherNumber = codes "node no longer under the operation's number"
words Unlawful = codes "unlawful members, or one above the node count"
words TooFewFrozen = codes "answering set does not win"
words NoDecision = codes "no decision under the node's number"
words NotProposed = codes "decision names no used proposal row of that number"
words OperationsUsed = codes "operation rows used up"
words LastVersion = codes "newest version is 9999"
words TooFewSlots = refusals.words refused.TooFewSlots
words ProposalsUsed = codes "proposal rows used up"
words (Chooser refusal) = codes "chooser refused"

-- As a fault is printed: `7: node zero or above the node count`, `4 cause 2 offset 8: slot unreadable`, `21 chooser 2: eight offers stand`.
abbrev pub shown_fault : Fault → List ℕ
shown_fault (Unreadable fault) = decimal (number (Unreadable fault)) ++ (codes " cause " ++ (decimal (frames.number fault.cause) ++ (codes " offset " ++ (decimal fault.offset ++ codes ": slot unreadable"))))
shown_fault (Chooser refusal) = decimal (number (Chooser refusal)) ++ (codes " chooser " ++ shown_refusal refusal)
shown_fault fault = decimal (number fault) ++ (codes ": " ++ words fault)

-- a refusal of a part below as a ground
abbrev pub fault_of : Refusal → Fault
fault_of refused.NoSlot = NoSlot
fault_of refused.Unlawful = Unlawful
fault_of refused.TooFewSlots = TooFewSlots

-- Both have one number.
abbrev pub SameNumber : Refusal → Fault → Type 0
SameNumber refusal fault = number fault ≡ refusals.number refusal
