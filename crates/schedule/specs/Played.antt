-- What playing calls promises.
use Rattle.std.specs.Prelude.{List}
use Rattle.calls.specs.declared.call.Turn.{Turn}
use Rattle.floor.specs.State.{State}
use Rattle.law.specs.Law.{OrderLaw}
use Rattle.law.specs.Runs.{Parts, Played}

-- The calls were made as a run and answered as the turns say, and of this run the order law holds.
pub record PlayedInOrder {C Q S : Type 0} (parts : Parts C Q S) (start : State Q S) (turns : List (Turn C)) (end : State Q S) : Type 0 where
  pub played : Played parts start turns end
  pub law : OrderLaw parts played.entries end
