-- That calls are moves of the protocol.
use Rattle.std.proofs.Common.{◌≡◌, ℕ, true, List, Result, Ok, Err, refl, sym, ap, ◌∙◌, subst}
use Rattle.calls.specs.declared.call.Answer.{Answer}
use Rattle.calls.specs.declared.call.Answer.TheVariants.{Number}
use Rattle.calls.specs.declared.call.Call.{Call}
use Rattle.calls.specs.declared.call.Call.TheVariants.{Open, Read, Write, Regroup, Propose, Settle, Work, Deliver, Lose, GiveUp, Stop, Look}
use Rattle.content.specs.Bytes.{padded}
use Rattle.desk.proofs.LawfulLists.{taken_is_lawful}
use Rattle.desk.proofs.OpenedLawful.{open_makes_lawful}
use Rattle.desk.specs.Opening.{open_step}
use Rattle.desk.specs.declared.desk.Desk.{Desk}
use Rattle.desk.specs.Tables.{Tables}
use Rattle.fault.specs.declared.Fault.{Fault}
use Rattle.floor.specs.State.{State}
use Rattle.law.proofs.CallsStand.{as_before, open_stands, read_stands, write_stands, regroup_stands, propose_stands, settle_stands, work_stands, deliver_stands, lose_stands, give_up_stands, stop_stands}
use Rattle.law.proofs.LeftStanding.{setting_in, LeftStanding}
use Rattle.law.proofs.Linked.{PartsLaws, Stands, Linked}
use Rattle.law.specs.Runs.{Parts, Step, zero_told}
use Rattle.link.proofs.Opening.{opening_represented}
use Rattle.link.proofs.RowsInside.{none_inside}
use Rattle.protocol.specs.Moves.{Opens}
use Rattle.protocol.specs.State.{Content, System}
use Rattle.tables.specs.declared.members.Members.{Members}
use Rattle.tables.specs.Members.{listed}

-- a call that was taken was not refused
taken : (answer : Result (Unit {0}) Fault) → Ok (Number 0) ≡ zero_told answer → answer ≡ Ok tt
taken (Ok _) is = refl
taken (Err fault) is = absurd (cc)

module _ {C Q S : Type 0} (parts : Parts C Q S) (laws : PartsLaws parts) where
  module _ (members : List ℕ) (content : Content) (before after : State Q S) (answer : Result Answer Fault) (system : System) (stands : Stands parts before system)
      (is_open : before.desk.is_open ≡ true) where
    step_stands : (call : Call C) → Step parts before call answer after → LeftStanding parts laws members content before system stands after
    step_stands (Open count chosen value) is = open_stands parts laws members content before system stands answer after count chosen value is_open is
    step_stands (Read node) is = read_stands parts laws members content before system stands answer after node is
    step_stands (Write node value) is = write_stands parts laws members content before system stands answer after node value is
    step_stands (Regroup node chosen) is = regroup_stands parts laws members content before system stands answer after node chosen is
    step_stands (Propose operation) (row, proposes, is) = propose_stands parts laws members content before system stands row after operation proposes
    step_stands (Settle node) is = settle_stands parts laws members content before system stands answer after node is
    step_stands (Work number step ballot set) (done, works, is) = work_stands parts laws members content before system stands done after number step ballot set works
    step_stands (Deliver slot) is = deliver_stands parts laws members content before system stands answer after slot is
    step_stands (Lose slot) is = lose_stands parts laws members content before system stands answer after slot is
    step_stands (GiveUp operation) is = give_up_stands parts laws members content before system stands answer after operation is
    step_stands (Stop node) is = stop_stands parts laws members content before system stands answer after node is
    step_stands (Look operation) (is, same) = subst (LeftStanding parts laws members content before system stands) (sym same) (as_before parts laws members content before system stands)

  module _ (before : State Q S) (count : ℕ) (members : Members) (value : C) where
    -- what the opening leaves
    abbrev left : Result (Unit {0}) Fault × Desk × Tables
    left = open_step before.desk before.t count members (parts.meaning value)

    abbrev Begins : State Q S → Type 0
    Begins after = (system : System) × Opens (setting_in parts laws before.rule (listed members) (padded (parts.meaning value))) system × Stands parts after system

    opening_left : left.0 ≡ Ok tt → Begins (record before { desk = left.1; t = left.2 })
    opening_left is_taken =
        let (system, opens, represents) = opening_represented (setting_in parts laws before.rule (listed members) (padded (parts.meaning value))) members (parts.meaning value) refl refl
        parts.width parts.meaning parts.from_bytes (parts.decided before.chooser) before.desk before.t count is_taken in (
          system,
          opens,
          record {
            represents = represents;
            lawful = open_makes_lawful parts.meaning before.desk before.t count members (taken_is_lawful members count) value left refl is_taken;
            inside = none_inside left.1 left.2 (sym represents.operations_counted ∙ opens.no_operations);
          },
        )

    opening_stands : (after : State Q S) → Step parts before (Open count members value) (Ok (Number 0)) after → Begins after
    opening_stands after is =
        subst Begins (sym (ap (λ (left : Result Answer Fault × State Q S). left.1) is))
        (opening_left (taken left.0 (ap (λ (left : Result Answer Fault × State Q S). left.0) is)))

-- Calls are moves of the protocol, whatever parts keep the laws.
pub linked : {C Q S : Type 0} (parts : Parts C Q S) → PartsLaws parts → Linked parts
linked parts laws = record {
  narrow = laws.content_laws.bounded;
  setting = setting_in parts laws;
  same_content = λ rule members content. refl;
  step_stands = λ members content before after call answer system stands is_open step. step_stands parts laws members content before after answer system stands is_open call step;
  opening_stands = λ before after count members value was_closed step. opening_stands parts laws before count members value after step;
}
