-- Deliver keeps lawful tables lawful, where the slot says nothing or something lawful.
use Rattle.std.proofs.Common.{◌≡◌, ℕ, zero, suc, ◌<◌, ◌≤◌, Bool, true, false, List, [], ◌∷◌, length, take, Some, None, Option, Result, Ok, Err, refl, sym, subst, slice_get, if◌then◌else◌, arith}
use Rattle.std.specs.Option.{IfSome}
use Rattle.std.specs.Result.{IfOk}
use Rattle.content.specs.Bytes.{widest}
use Rattle.fault.specs.declared.Fault.{Fault}
use Rattle.frame.specs.declared.fault.FrameFault.{FrameFault}
use Rattle.frame.specs.Lawful.{Lawful}
use Rattle.frame.specs.Messages.{Said, reading}
use Rattle.refusal.specs.declared.Refusal.TheVariants.{NoSlot}
use Rattle.slots.specs.Slots.{occupied}
use Rattle.tables.specs.Lawful.{LawfulNode, LawfulOperation}
use Rattle.writer.specs.Table.{slot_of}
use Rattle.node.specs.declared.plan.Plan.{Plan}
use Rattle.node.specs.declared.plan.RowPlan.{RowPlan}
use Rattle.node.specs.Applying.{with_row, may_apply}
use Rattle.node.specs.LawfulPlans.{LawfulPlan}
use Rattle.node.specs.Received.{head_said}
use Rattle.node.specs.Rules.{planned}
use Rattle.node.proofs.LawfulKept.{lawful_stays}
use Rattle.desk.specs.declared.desk.Desk.{Desk}
use Rattle.desk.specs.Asking.{served, running}
use Rattle.desk.specs.LawfulTables.{LawfulTables}
use Rattle.desk.specs.Tables.{Tables}
use Rattle.desk.proofs.KeptLawful.{LawfulAt, running_lawful}
use Rattle.desk.proofs.Replaced.{record_replaced, row_replaced}
use Rattle.desk.proofs.Results.{where_first, where_found}
use Rattle.delivery.specs.Delivery.{from_refusal, from_frame_fault, message_in, has_room, received, may_deliver, applied, timed, delivering, deliver_step}

-- the bytes that are found are those of the slot
slot_found : (test : Bool) (bytes : List ℕ) → IfOk (from_refusal (if test then Ok bytes else Err NoSlot)) (λ found. found ≡ bytes)
slot_found true bytes = refl
slot_found false bytes = tt

-- what holds of all that can be read holds of what is read
read_holds : (P : Said → Type 0) (answer : Result Said FrameFault) → ((message : Said) → answer ≡ Ok message → P message) → IfOk (from_frame_fault answer) P
read_holds P (Ok message) holds = holds message refl
read_holds P (Err fault) holds = tt

room_holds : (P : Plan → Type 0) (frames : List ℕ) (plan : Option Plan) → IfSome plan P → IfOk (has_room frames plan) (λ plan. IfSome plan P)
room_holds P frames (Some plan) holds = where_first (λ plan. IfSome plan P) (from_refusal (may_apply plan.reply frames)) (Ok (Some plan)) (λ _. holds)
room_holds P frames None holds = tt

-- what holds of the first rows is all that there is to hold of them alone
first_alone : {X : Type 0} (P : X → Type 0) (n : ℕ) (xs : List X) → ((i : ℕ) → i < n → IfSome (slice_get xs i) P) → (i : ℕ) → IfSome (slice_get (take n xs) i) P
first_alone P zero [] all i = tt
first_alone P zero (x ∷ xs) all i = tt
first_alone P (suc n) [] all i = tt
first_alone P (suc n) (x ∷ xs) all zero = all zero (omega arith)
first_alone P (suc n) (x ∷ xs) all (suc i) = first_alone P n xs (λ place below. all (suc place) (omega arith)) i

-- Of this kind of content, whose contents have its width, at most 16.
module _ {C : Type 0} (width : ℕ) (meaning : C → List ℕ) (reads : List ℕ → Option C) (wide : (content : C) → length (meaning content) ≡ width) (bounded : width ≤ widest)
    (desk : Desk) (t : Tables) (lawful : LawfulTables meaning desk t) where
  abbrev Planned : Option Plan → Type 0
  Planned plan = IfSome plan (LawfulPlan width meaning)

  message_lawful : (slot : ℕ) → ((message : Said) → reading width reads (slot_of t.frames slot) ≡ Ok message → Lawful meaning message) → IfOk (message_in width reads t.frames slot) (Lawful meaning)
  message_lawful slot all =
      where_found (λ bytes. bytes ≡ slot_of t.frames slot) (Lawful meaning) (from_refusal (occupied t.frames slot)) _ (slot_found _ (slot_of t.frames slot)) (λ bytes same.
      read_holds (Lawful meaning) (reading width reads bytes) (subst (λ bytes. (message : Said) → reading width reads bytes ≡ Ok message → Lawful meaning message) (sym same) all))

  pub received_lawful : (wins : ℕ → ℕ → Bool) (message : Said) → Lawful meaning message → IfOk (received wins desk t message) Planned
  received_lawful wins message message_is_lawful =
      let receiver = (head_said message).receiver in
      let used = take desk.operations_used t.operations in
      let used_lawful = first_alone (LawfulOperation meaning) desk.operations_used t.operations lawful.operations_lawful in
      where_found (LawfulAt meaning receiver) Planned (running desk t.nodes receiver) _ (running_lawful meaning desk t lawful receiver) (λ found found_lawful.
      room_holds (LawfulPlan width meaning) t.frames (planned wins found used desk.moment message)
      (lawful_stays width meaning wide bounded wins found used desk.moment message _ refl found_lawful.1 used_lawful message_is_lawful))

  row_kept : (change : Option RowPlan) → IfSome change (λ change. LawfulOperation meaning change.row) → (operation : ℕ) → operation < desk.operations_used
      → IfSome (slice_get (with_row t.operations change) operation) (LawfulOperation meaning)
  row_kept (Some change) row_lawful = row_replaced (LawfulOperation meaning) desk.operations_used t.operations lawful.operations_lawful change.row row_lawful change.operation
  row_kept None _ = lawful.operations_lawful

  -- a lawful plan applied, at any moment
  pub applied_lawful : (plan : Plan) → LawfulPlan width meaning plan → (moment : ℕ) → LawfulTables meaning (record desk { moment = moment }) (applied width t plan)
  applied_lawful plan plan_lawful moment = record {
    nodes_lawful = record_replaced (LawfulNode meaning) desk.node_count t.nodes lawful.nodes_lawful plan.receiver plan.node plan_lawful.node_lawful;
    operations_lawful = row_kept plan.row plan_lawful.row_lawful;
    proposals_lawful = lawful.proposals_lawful;
    nodes_counted = lawful.nodes_counted;
  }

  delivered_lawful : (answer : Result (Option Plan) Fault) → IfOk answer Planned → LawfulTables meaning (delivering width desk t answer).1 (delivering width desk t answer).2
  delivered_lawful (Ok (Some plan)) plan_lawful = applied_lawful plan plan_lawful (timed desk plan).moment
  delivered_lawful (Ok None) _ = lawful
  delivered_lawful (Err fault) _ = lawful

  pub deliver_keeps_lawful : (wins : ℕ → ℕ → Bool) (slot : ℕ) → ((message : Said) → reading width reads (slot_of t.frames slot) ≡ Ok message → Lawful meaning message)
      → LawfulTables meaning (deliver_step width reads wins desk t slot).1 (deliver_step width reads wins desk t slot).2
  deliver_keeps_lawful wins slot all =
      delivered_lawful (may_deliver width reads wins desk t slot)
      (where_first Planned (served desk t) _ (λ _.
      where_found (Lawful meaning) Planned (message_in width reads t.frames slot) (received wins desk t) (message_lawful slot all) (received_lawful wins)))
