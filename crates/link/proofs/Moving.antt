-- Going from a system to one that stands for what a call left: by one move, or by some and then others.
use Rattle.std.proofs.Common.{ℕ, List, Option}
use Rattle.chooser.specs.Meaning.{Decisions}
use Rattle.desk.specs.declared.desk.Desk.{Desk}
use Rattle.desk.specs.Tables.{Tables}
use Rattle.protocol.specs.State.{System, Setting}
use Rattle.protocol.specs.Effects.{Effect}
use Rattle.protocol.specs.Moves.{Allowed, Later, Now, AfterMove}
use Rattle.witness.proofs.Performing.{perform, performed}
use Rattle.link.proofs.Represents.{Represents, GoesTo}

pub later_still : {setting : Setting} {early between late : System} → Later setting early between → Later setting between late → Later setting early late
later_still earlier Now = earlier
later_still earlier (AfterMove later move) = AfterMove (later_still earlier later) move

module _ {C : Type 0} {width : ℕ} {meaning : C → List ℕ} {reads : List ℕ → Option C} (setting : Setting) {before : System} {decided : Decisions} {desk : Desk} {t : Tables} where
  -- where an effect is allowed, and the system that it makes stands for the tables
  pub by_one_move : (effect : Effect) → Allowed setting before effect → Represents width meaning reads decided desk t (perform effect before)
      → GoesTo width meaning reads setting before decided desk t
  by_one_move effect allowed represents = (perform effect before, AfterMove Now (effect, allowed, performed effect before), represents)

  -- where it goes on from a system to which it has gone
  pub and_then_goes : {between : System} → Later setting before between → GoesTo width meaning reads setting between decided desk t → GoesTo width meaning reads setting before decided desk t
  and_then_goes earlier (late, later, represents) = (late, later_still earlier later, represents)
