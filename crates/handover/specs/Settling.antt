-- The call settle: what it answers and leaves.
use Rattle.std.specs.Prelude.{ℕ, suc, List, Option, Some, None, Result, Ok, Err, slice_get, ◌==◌, nat_lt, if◌then◌else◌}
use Rattle.std.specs.Result.{result_and}
use Rattle.chooser.specs.Meaning.{Decisions, decision_at}
use Rattle.fault.specs.declared.Fault.{Fault}
use Rattle.fault.specs.declared.Fault.TheVariants.{NoDecision, NotProposed, TooFewSlots}
use Rattle.slots.specs.declared.letter.Body.TheVariants.{Update}
use Rattle.slots.specs.declared.letter.Letter.{Letter}
use Rattle.slots.specs.Slots.{empty_count, sent_to_each}
use Rattle.tables.specs.declared.records.ProposalRow.{ProposalRow}
use Rattle.tables.specs.Members.{size, listed}
use Rattle.desk.specs.declared.desk.Desk.{Desk}
use Rattle.desk.specs.Tables.{Tables}
use Rattle.desk.specs.Asking.{and_then, served}
use Rattle.starts.specs.Grounds.{taking_part}

-- a proposal row, if there is one for the number
abbrev pub of_number : ℕ → Option ProposalRow → Result ProposalRow Fault
of_number number None = Err NotProposed
of_number number (Some row) = if row.number == number then Ok row else Err NotProposed

-- the used proposal row that a decision under the number names
abbrev pub named : Desk → List ProposalRow → ℕ → Option ℕ → Result ProposalRow Fault
named desk proposals number None = Err NoDecision
named desk proposals number (Some proposal) = if nat_lt proposal desk.proposals_used then of_number number (slice_get proposals proposal) else Err NotProposed

-- each of the proposal's members gets its frame
abbrev pub slots_left : List ℕ → ProposalRow → Result (Unit {0}) Fault
slots_left frames row = if nat_lt (empty_count frames) (size row.members) then Err TooFewSlots else Ok tt

-- the proposal that follows the node's configuration, or the first ground on which the call stops
abbrev pub may_settle : Decisions → Desk → Tables → ℕ → Result ProposalRow Fault
may_settle decided desk t node =
    result_and (served desk t)
    (and_then (taking_part desk t.nodes node) (λ found.
    and_then (named desk t.proposals found.configuration.number (decision_at decided found.configuration.number)) (λ row.
    result_and (slots_left t.frames row)
    (Ok row))))

-- the update that carries the proposal, under the next number
abbrev pub update_letter : ℕ → ProposalRow → Letter
update_letter node row = record { sender = node; number = suc row.number; body = Update row.members row.copy }

-- it goes to each of the proposal's members, and the call answers how many there are
abbrev pub settling : ℕ → Tables → ℕ → Result ProposalRow Fault → Result ℕ Fault × Tables
settling width t node (Ok row) = (Ok (size row.members), record t { frames = sent_to_each width t.frames (listed row.members) (update_letter node row) })
settling width t node (Err fault) = (Err fault, t)

abbrev pub settle_step : ℕ → Decisions → Desk → Tables → ℕ → Result ℕ Fault × Tables
settle_step width decided desk t node = settling width t node (may_settle decided desk t node)
