-- The order law holds of all runs from a closed floor, where calls are moves of the protocol.
use Rattle.law.specs.Law.{OrderHolds}
use Rattle.law.specs.Runs.{Parts}
use Rattle.law.proofs.AnswersStay.{was_started, answered_once, look_stays, shows_answered, shown_was_answered}
use Rattle.law.proofs.CanLook.{can_look}
use Rattle.law.proofs.Configurations.{same_configuration, carried_over}
use Rattle.law.proofs.HeldSince.{given_before}
use Rattle.law.proofs.Installing.{opens_with, installs}
use Rattle.law.proofs.KeepsTime.{is_started, started_once, not_ahead_of_itself, goes_on, orders_any_two, keeps_time}
use Rattle.law.proofs.KeptKinds.{of_its_kind}
use Rattle.law.proofs.Linked.{Linked}
use Rattle.law.proofs.OpenedOnce.{opened_once}
use Rattle.law.proofs.Opening.{FromClosed}
use Rattle.law.proofs.ReadsGive.{reads}

pub order_holds : {C Q S : Type 0} (parts : Parts C Q S) → Linked parts → OrderHolds parts
order_holds parts link start end calls closed_start run =
    let ran : FromClosed parts calls end = record { start = start; closed_start = closed_start; run = run } in
    record {
      reads = reads link ran;
      opened_once = opened_once ran;
      keeps_time = keeps_time link ran;
      orders_any_two = orders_any_two link ran;
      not_ahead_of_itself = not_ahead_of_itself link ran;
      goes_on = goes_on link ran;
      is_started = is_started link ran;
      started_once = started_once link ran;
      can_look = can_look link ran;
      of_its_kind = of_its_kind link ran;
      was_started = was_started link ran;
      answered_once = answered_once ran;
      answer_stays = look_stays ran;
      shows_answered = shows_answered ran;
      shown_was_answered = shown_was_answered ran;
      opens_with = opens_with ran;
      installs = installs ran;
      given_before = given_before ran;
      same_configuration = same_configuration link ran;
      carried_over = carried_over link ran;
    }
