-- An acknowledgement or a held copy that is counted: its operation waits for it, and its sender has a place.
use Rattle.std.proofs.Common.{◌≡◌, ℕ, ◌<◌, Bool, true, false, ◌&&◌, List, length, slice_get, Option, Some, None, ◌==◌, if◌then◌else◌, refl, sym, ap, subst, ◌∙◌, inr, arith}
use Rattle.std.proofs.lemmas.Bool.{eqb-true}
use Rattle.std.proofs.lemmas.Bool.Decides.{nat_tests}
use Rattle.std.proofs.lemmas.List.{length-take}
use Rattle.std.proofs.lemmas.List.Quantifiers.{position-Some}
use Rattle.std.proofs.lemmas.Option.{none-some, same_Some}
use Rattle.std.specs.Option.{option_map, option_and_then}
use Rattle.quorum.specs.Limits.{largest_group}
use Rattle.quorum.specs.Sets.{member}
use Rattle.frame.specs.declared.message.Head.{Head}
use Rattle.tables.specs.declared.copy.SheetCopy.{SheetCopy}
use Rattle.tables.specs.declared.records.NodeRecord.{NodeRecord}
use Rattle.tables.specs.declared.records.OperationKind.{OperationKind}
use Rattle.tables.specs.declared.records.OperationKind.TheVariants.{Read, Write, Regroup}
use Rattle.tables.specs.declared.records.OperationRow.{OperationRow}
use Rattle.tables.specs.declared.records.OperationState.{OperationState}
use Rattle.tables.specs.declared.records.OperationState.TheVariants.{Open}
use Rattle.tables.specs.Lawful.{LawfulNode, LawfulOperation}
use Rattle.tables.specs.Members.{listed, place_of}
use Rattle.node.specs.declared.plan.Plan.{Plan}
use Rattle.node.specs.Conditions.{is_open, same_kind, same_number, waits_for}
use Rattle.node.specs.Plans.{counted_as}
use Rattle.node.specs.Rules.{joined, counted_set, counting, answered}
use Rattle.protocol.specs.State.{Copy, Places, Stage, Operation, System, node_at}
use Rattle.protocol.specs.Changes.{with_place, with_copy, answered_at}
use Rattle.protocol.specs.Conditions.{Counts}
use Rattle.protocol.specs.Effects.{quiet, RowBecomes}
use Rattle.link.proofs.Following.{Follows}
use Rattle.link.proofs.Receiving.{Receives, numbers_agree}
use Rattle.link.proofs.Sets.{joined_alike}
use Rattle.link.proofs.Terms.{StandsFor, kind_said, stage_said, copy_said}

-- the row of an operation that was started: it stands for it, and is lawful
abbrev pub RowKnown : {C : Type 0} → (C → List ℕ) → System → ℕ → OperationRow → Type 0
RowKnown meaning before operation row = (operation < before.operations.count) × StandsFor row (before.operations.row operation) × LawfulOperation meaning row

-- all rows that can be found are so
abbrev pub RowsKnown : {C : Type 0} → (C → List ℕ) → System → List OperationRow → Type 0
RowsKnown meaning before rows = (operation : ℕ) (row : OperationRow) → slice_get rows operation ≡ Some row → RowKnown meaning before operation row

-- what is known of a frame that is counted: the row of its operation, and the place of its sender
pub record Counted {C : Type 0} (meaning : C → List ℕ) (before : System) (kind : OperationKind) (head : Head) (operation : ℕ) (row : OperationRow) (place : ℕ) : Type 0 where
  pub counts : Counts before (kind_said kind) head.receiver head.sender head.number operation place
  pub stands : StandsFor row (before.operations.row operation)
  pub row_lawful : LawfulOperation meaning row
  pub below_seven : place < largest_group

same_kind_is : (one other : OperationKind) → same_kind one other ≡ true → one ≡ other
same_kind_is Read Read is = refl
same_kind_is Write Write is = refl
same_kind_is Regroup Regroup is = refl
same_kind_is one other is = absurd (cc)

open_is : (state : OperationState) → is_open state ≡ true → state ≡ Open
open_is Open is = refl
open_is state is = absurd (cc)

-- what it is to wait for a frame, one by one
record Waits (kind : OperationKind) (node : NodeRecord) (head : Head) (row : OperationRow) : Type 0 where
  of_kind : row.kind ≡ kind
  still_open : row.state ≡ Open
  here : row.node ≡ head.receiver
  under : row.number ≡ head.number
  same_number : same_number node head ≡ true

all_met : (a b c d e : Bool) → (a && b && c && d && e) ≡ true → (a ≡ true) × (b ≡ true) × (c ≡ true) × (d ≡ true) × (e ≡ true)
all_met true true true true true met = (refl, refl, refl, refl, refl)
all_met a b c d e met = absurd (cc)

waits_parts : (kind : OperationKind) (node : NodeRecord) (head : Head) (row : OperationRow) → waits_for kind node head row ≡ true → Waits kind node head row
waits_parts kind node head row waits =
    let met = all_met (same_kind row.kind kind) (is_open row.state) (row.node == head.receiver) (row.number == head.number) (same_number node head) waits in
    record {
      of_kind = same_kind_is row.kind kind met.0;
      still_open = open_is row.state met.1;
      here = eqb-true row.node head.receiver met.2;
      under = eqb-true row.number head.number met.3;
      same_number = met.4;
    }

module _ {C : Type 0} (meaning : C → List ℕ) (before : System) (head : Head) (node : NodeRecord) (receives : Receives before head node) (node_lawful : LawfulNode meaning node)
    (kind : OperationKind) (operation : ℕ) where
  abbrev Known : OperationRow → Type 0
  Known row = RowKnown meaning before operation row

  abbrev sender_place : Option ℕ
  sender_place = place_of node.configuration.members head.sender

  -- the sender is at its place among the members, which are seven at most
  sender_placed : (place : ℕ) → sender_place ≡ Some place → (place < length (listed node.configuration.members)) × (node_at (listed node.configuration.members) place ≡ head.sender) × (place < largest_group)
  sender_placed place found =
      let members = node.configuration.members in
      let (inside, is_sender, first) = position-Some (λ member. member == head.sender) (listed members) place 0 found in
      (inside, grind (arith, nat_tests), omega (arith, inside, length-take members.count members.nodes, node_lawful.configuration_lawful.members_lawful.seven))

  is_counted : (row : OperationRow) (place : ℕ) → Known row → waits_for kind node head row ≡ true → sender_place ≡ Some place → Counted meaning before kind head operation row place
  is_counted row place known waits found =
      let waiting = waits_parts kind node head row waits in
      let placed = sender_placed place found in
      record {
        counts = record {
          same_number = numbers_agree before head node receives waiting.same_number;
          waits = record { is_started = known.0; still_open = known.1.same_stage ∙ ap stage_said waiting.still_open };
          of_kind = known.1.same_kind ∙ ap kind_said waiting.of_kind;
          here = known.1.same_node ∙ waiting.here;
          under = known.1.same_number ∙ waiting.under;
          is_place = subst (λ state. place < length state.members) (sym receives.here) placed.0;
          is_sender = ap (λ state. node_at state.members place) receives.here ∙ placed.1;
        };
        stands = known.1;
        row_lawful = known.2;
        below_seven = placed.2;
      }

  -- A plan for a counted frame is one for its row, with the place of its sender joined.
  pub where_counted : (P : Plan → Type 0) (rows : List OperationRow) → RowsKnown meaning before rows → (plan_for : OperationRow → ℕ → Plan) (plan : Plan) → counting kind node rows head operation plan_for ≡ Some plan
      → ((row : OperationRow) (place : ℕ) → Counted meaning before kind head operation row place → P (plan_for row (joined row.set place))) → P plan
  where_counted P rows known plan_for plan is holds = at_row (slice_get rows operation) (known operation) is
    where
      at_place : (row : OperationRow) (place : Option ℕ) → sender_place ≡ place → Known row → waits_for kind node head row ≡ true
          → option_map (plan_for row) (option_map (joined row.set) place) ≡ Some plan → P plan
      at_place row (Some place) found row_known waits is = subst P (same_Some _ plan is) (holds row place (is_counted row place row_known waits found))
      at_place row None found row_known waits is = absurd (none-some plan is)

      where_waiting : (row : OperationRow) (waits : Bool) → waits_for kind node head row ≡ waits → Known row
          → option_map (plan_for row) (if waits then option_map (joined row.set) sender_place else None) ≡ Some plan → P plan
      where_waiting row true waits row_known is = at_place row sender_place refl row_known waits is
      where_waiting row false waits row_known is = absurd (none-some plan is)

      at_row : (found : Option OperationRow) → ((row : OperationRow) → found ≡ Some row → Known row)
          → option_and_then (λ row. option_map (plan_for row) (counted_set kind node head row)) found ≡ Some plan → P plan
      at_row (Some row) row_known is = where_waiting row (waits_for kind node head row) refl (row_known row refl) is
      at_row None row_known is = absurd (none-some plan is)

-- What a row stands for, with another copy, set and state, and answered at another moment.
stands_changed : (row : OperationRow) (operation : Operation) {copy : SheetCopy} {set : ℕ} {state : OperationState} {answer : ℕ} {said : Copy} {places : Places} {stage : Stage} {moment : ℕ}
    → StandsFor row operation → said ≡ copy_said copy → ((place : ℕ) → places place ≡ member place set) → stage ≡ stage_said state
    → StandsFor (record row { copy = copy; set = set; state = state; answer = answer }) (record operation { copy = said; set = places; stage = stage; answer = moment })
stands_changed row operation stands same_copy same_places same_stage = record {
  same_kind = stands.same_kind;
  same_node = stands.same_node;
  same_number = stands.same_number;
  same_copy = same_copy;
  same_members = stands.same_members;
  same_places = same_places;
  same_stage = same_stage;
}

pub stands_joined : (row : OperationRow) (operation : Operation) (place : ℕ) → StandsFor row operation → StandsFor (record row { set = joined row.set place }) (with_place operation place)
stands_joined row operation place stands = stands_changed row operation stands stands.same_copy (joined_alike row.set place operation.set stands.same_places) stands.same_stage

pub stands_with_copy : (row : OperationRow) (operation : Operation) (copy : SheetCopy) (said : Copy) → said ≡ copy_said copy → StandsFor row operation → StandsFor (record row { copy = copy }) (with_copy operation said)
stands_with_copy row operation copy said same stands = stands_changed row operation stands same stands.same_places stands.same_stage

pub stands_answered : (row : OperationRow) (operation : Operation) (moment later : ℕ) → StandsFor row operation → StandsFor (answered row moment) (answered_at operation later)
stands_answered row operation moment later stands = stands_changed row operation stands stands.same_copy stands.same_places refl

-- A plan for the row alone is followed by an effect on its operation alone, with or without a tick.
pub row_alone : {C : Type 0} (width : ℕ) (meaning : C → List ℕ) (before : System) (head : Head) (node : NodeRecord) → Receives before head node → (kind : OperationKind) (operation : ℕ) (row : OperationRow) (place : ℕ)
    → Counted meaning before kind head operation row place → (after : OperationRow) (value : Operation) (ticks : Bool) → StandsFor after value
    → Follows width (counted_as head node operation after) before (record quiet { operation = RowBecomes operation value; ticks = ticks })
row_alone width meaning before head node receives kind operation row place counted after value ticks stands = record {
  node = inr (refl, receives.here);
  operation = (value, stands, counted.counts.waits.is_started, refl);
  proposal = refl;
  decision = refl;
  sends = refl;
}
