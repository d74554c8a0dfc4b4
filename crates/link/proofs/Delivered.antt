-- The call deliver: where it does something, that is a move of the protocol.
use Rattle.std.proofs.Common.{◌≡◌, ℕ, ◌<◌, Bool, true, false, List, take, Some, None, Option, Result, Ok, Err, if◌then◌else◌, refl, sym, ap, subst, ◌∙◌}
use Rattle.chooser.specs.Meaning.{Decisions}
use Rattle.fault.specs.declared.Fault.{Fault}
use Rattle.refusal.specs.declared.Refusal.{Refusal}
use Rattle.frame.proofs.Laws.{Laws}
use Rattle.frame.specs.declared.fault.FrameFault.{FrameFault}
use Rattle.frame.specs.Lawful.{Lawful}
use Rattle.frame.specs.Messages.{Said, reading}
use Rattle.writer.specs.Table.{slot_of}
use Rattle.slots.specs.Slots.{occupied}
use Rattle.tables.specs.declared.records.NodeRecord.{NodeRecord}
use Rattle.tables.specs.Lawful.{LawfulNode, LawfulOperation}
use Rattle.node.proofs.LawfulKept.{lawful_stays}
use Rattle.node.proofs.Options.{when_some}
use Rattle.node.specs.declared.plan.Plan.{Plan}
use Rattle.node.specs.Applying.{may_apply}
use Rattle.node.specs.LawfulPlans.{LawfulPlan}
use Rattle.node.specs.Received.{head_said}
use Rattle.node.specs.Rules.{planned}
use Rattle.desk.specs.declared.desk.Desk.{Desk}
use Rattle.desk.specs.Asking.{served, running}
use Rattle.desk.specs.LawfulTables.{LawfulTables}
use Rattle.desk.specs.Tables.{Tables}
use Rattle.delivery.specs.declared.delivery.Delivery.{Delivery}
use Rattle.delivery.specs.Delivery.{from_refusal, from_frame_fault, message_in, has_room, received, may_deliver, timed, applied, delivering, deliver_step}
use Rattle.protocol.specs.State.{Content, System}
use Rattle.protocol.specs.Moves.{Now}
use Rattle.link.proofs.Counting.{RowsKnown}
use Rattle.link.proofs.Entries.{found_in_all}
use Rattle.link.proofs.Following.{follows_goes}
use Rattle.link.proofs.Lawfulness.{holds_of, record_lawful}
use Rattle.link.proofs.NotRefused.{then_both, and_both, Runs, runs}
use Rattle.link.proofs.Planned.{planned_moves}
use Rattle.link.proofs.Receiving.{Receives}
use Rattle.link.proofs.Represents.{Represents, GoesTo}
use Rattle.link.proofs.Settings.{RuleLaws, setting_of}
use Rattle.link.proofs.Standing.{found_stands}
use Rattle.link.proofs.Terms.{StandsFor}

-- What a delivery has found that is not refused, nor ignored: a message, and a plan for it.
record PlanMet {C : Type 0} (width : ℕ) (reads : List ℕ → Option C) (winning : ℕ → ℕ → Bool) (desk : Desk) (t : Tables) (slot : ℕ) (plan : Plan) : Type 0 where
  message : Said
  read : reading width reads (slot_of t.frames slot) ≡ Ok message
  found : NodeRecord
  runs : Runs desk t.nodes (head_said message).receiver found
  is : planned winning found (take desk.operations_used t.operations) desk.moment message ≡ Some plan

not_refused : {A : Type 0} (test : Bool) (refusal : Refusal) (there answer : A) → from_refusal (if test then Ok there else Err refusal) ≡ Ok answer → there ≡ answer
not_refused true refusal there answer is = cc
not_refused false refusal there answer is = absurd (cc)

was_read : {A : Type 0} (result : Result A FrameFault) (answer : A) → from_frame_fault result ≡ Ok answer → result ≡ Ok answer
was_read (Ok value) answer is = let same : value ≡ answer = cc in ap Ok same
was_read (Err fault) answer is = absurd (cc)

was_planned : (frames : List ℕ) (made : Option Plan) (plan : Plan) → has_room frames made ≡ Ok (Some plan) → made ≡ Some plan
was_planned frames None plan is = absurd (cc)
was_planned frames (Some made) plan is = let room = and_both (from_refusal (may_apply made.reply frames)) (Ok (Some made)) (Some plan) is in cc (room.2)

plan_met : {C : Type 0} (width : ℕ) (reads : List ℕ → Option C) (winning : ℕ → ℕ → Bool) (desk : Desk) (t : Tables) (slot : ℕ) (plan : Plan) → may_deliver width reads winning desk t slot ≡ Ok (Some plan)
    → PlanMet width reads winning desk t slot plan
plan_met width reads winning desk t slot plan may =
    let asked = and_both (served desk t) _ (Some plan) may in
    let told = then_both (message_in width reads t.frames slot) (received winning desk t) (Some plan) asked.2 in
    let bytes = then_both (from_refusal (occupied t.frames slot)) (λ bytes. from_frame_fault (reading width reads bytes)) told.0 told.1 in
    let receiver = then_both (running desk t.nodes (head_said told.0).receiver) _ (Some plan) told.2 in
    record {
      message = told.0;
      read = ap (reading width reads) (not_refused _ _ (slot_of t.frames slot) bytes.0 bytes.1) ∙ was_read (reading width reads bytes.0) told.0 bytes.2;
      found = receiver.0;
      runs = runs desk t.nodes (head_said told.0).receiver receiver.0 receiver.1;
      is = was_planned t.frames _ plan receiver.2;
    }

module _ {C : Type 0} (width : ℕ) (meaning : C → List ℕ) (reads : List ℕ → Option C) (laws : Laws width meaning reads) (winning : ℕ → ℕ → Bool) (rule_laws : RuleLaws winning)
    (members : List ℕ) (content : Content) (decided : Decisions) (desk : Desk) (t : Tables) (before : System)
    (represents : Represents width meaning reads decided desk t before) (lawful : LawfulTables meaning desk t) where
  -- the rows that are used
  rows_known : RowsKnown meaning before (take desk.operations_used t.operations)
  rows_known operation row is =
      let found = found_in_all t.operations desk.operations_used operation row is in (
        subst (λ count. operation < count) (sym represents.operations_counted) found.0,
        found_stands StandsFor desk.operations_used t.operations before.operations.row operation row represents.operations found.0 found.1,
        holds_of (LawfulOperation meaning) _ row found.1 (lawful.operations_lawful operation found.0),
      )

  module _ (plan : Plan) (slot : ℕ) (met : PlanMet width reads winning desk t slot plan) where
    found_lawful : LawfulNode meaning met.found
    found_lawful = record_lawful meaning desk t lawful (head_said met.message).receiver met.found met.runs.inside met.runs.here

    message_lawful : Lawful meaning met.message
    message_lawful = represents.frames_lawful slot met.message met.read

    plan_lawful : LawfulPlan width meaning plan
    plan_lawful =
        lawful_stays width meaning laws.fills laws.bounded winning met.found (take desk.operations_used t.operations) desk.moment met.message (Some plan) (sym met.is) found_lawful
        (λ operation. when_some (LawfulOperation meaning) _ (λ row is. (rows_known operation row is).2)) message_lawful

    receives : Receives before (head_said met.message) met.found
    receives = record { here = represents.nodes (head_said met.message).receiver met.found met.runs.inside met.runs.here; running = met.runs.goes_on }

    plan_goes : GoesTo width meaning reads (setting_of winning rule_laws members content) before decided (timed desk plan) (applied width t plan)
    plan_goes =
        let move = planned_moves width meaning reads laws winning rule_laws members content before met.found found_lawful (take desk.operations_used t.operations) rows_known desk.moment plan
        met.message met.found.status refl receives message_lawful (represents.frames slot met.message met.read) met.is in
        follows_goes width meaning reads laws decided desk t before represents plan plan_lawful.reply_lawful (setting_of winning rule_laws members content) move.0 move.1 move.2

  -- what a call leaves
  abbrev Outcome : Type 0
  Outcome = Result Delivery Fault × Desk × Tables

  abbrev Goes : Outcome → Type 0
  Goes outcome = GoesTo width meaning reads (setting_of winning rule_laws members content) before decided outcome.1 outcome.2

  delivering_goes : (slot : ℕ) (judged : Result (Option Plan) Fault) → may_deliver width reads winning desk t slot ≡ judged → Goes (delivering width desk t judged)
  delivering_goes slot (Ok (Some plan)) is = plan_goes plan slot (plan_met width reads winning desk t slot plan is)
  delivering_goes slot (Ok None) is = (before, Now, represents)
  delivering_goes slot (Err fault) is = (before, Now, represents)

  -- A delivery is a move; one that is refused or ignored is none.
  pub deliver_goes : (slot : ℕ) (answer : Result Delivery Fault) (desk_after : Desk) (t_after : Tables) → ◌≡◌ {A = Outcome} (answer, desk_after, t_after) (deliver_step width reads winning desk t slot)
      → GoesTo width meaning reads (setting_of winning rule_laws members content) before decided desk_after t_after
  deliver_goes slot answer desk_after t_after is = subst Goes (sym is) (delivering_goes slot (may_deliver width reads winning desk t slot) refl)
