-- The call work: the move that decides, if the chooser does.
use Rattle.std.proofs.Common.{ℕ, List, Option, Result, Ok, Err, sym, subst}
use Rattle.chooser.specs.Laws.{Deciding}
use Rattle.chooser.specs.Meaning.{Decisions, Answer}
use Rattle.fault.specs.declared.Fault.{Fault}
use Rattle.desk.specs.declared.desk.Desk.{Desk}
use Rattle.desk.specs.Tables.{Tables}
use Rattle.desk.specs.Asking.{served}
use Rattle.handover.specs.Working.{Working, WorkStep}
use Rattle.protocol.specs.State.{System, Setting}
use Rattle.protocol.specs.Moves.{Now}
use Rattle.link.proofs.Represents.{Represents, GoesTo}
use Rattle.link.proofs.Deciding.{deciding_goes}

-- what a chooser keeps to where it works
abbrev pub WorkDecides : {S : Type 0} → (S → Decisions) → (S → ℕ → ℕ → ℕ → ℕ → Answer → S → Type 0) → Type 0
WorkDecides {S} decided working =
    (chooser after : S) (number step ballot set : ℕ) (answer : Answer) → working chooser number step ballot set answer after → Deciding (decided chooser) number answer (decided after)

module _ {C S : Type 0} (width : ℕ) (meaning : C → List ℕ) (reads : List ℕ → Option C) (setting : Setting)
    (decided : S → Decisions) (working : S → ℕ → ℕ → ℕ → ℕ → Answer → S → Type 0) (work_decides : WorkDecides decided working)
    (before : System) (desk : Desk) (t : Tables) (chooser after : S) (stands : Represents width meaning reads (decided chooser) desk t before) where
  -- what the call comes to
  abbrev Goes : S → Type 0
  Goes left = GoesTo width meaning reads setting before (decided left) desk t

  pub work_goes : (number step ballot set : ℕ) (outcome : Result (Unit {0}) Fault) → WorkStep working desk t chooser number step ballot set outcome after → Goes after
  work_goes number step ballot set outcome works = go (served desk t) works
    where
      go : (answer : Result (Unit {0}) Fault) → Working working chooser number step ballot set answer outcome after → Goes after
      go (Err fault) (left, same) = subst Goes (sym same) (before, Now, stands)
      go (Ok _) (answer, does, left) = deciding_goes setting stands (decided after) number answer (work_decides chooser after number step ballot set answer does)
