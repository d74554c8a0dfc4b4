-- Each rule of a node keeps what is lawful.
use Rattle.std.proofs.Common.{◌≡◌, ⊎_elim, Option, ℕ, ◌<◌, ◌≤◌, ◌==◌, Bool, sym, subst, List, length, Some, arith, slice_get}
use Rattle.std.proofs.lemmas.List.{length-take}
use Rattle.std.proofs.lemmas.List.Quantifiers.{position-Some}
use Rattle.std.specs.Option.{IfSome, option_map}
use Rattle.content.specs.Bytes.{widest}
use Rattle.quorum.specs.Limits.{largest_group}
use Rattle.frame.specs.declared.message.Head.{Head}
use Rattle.frame.specs.declared.message.Tag.{Tag}
use Rattle.frame.specs.Lawful.{Lawful, LawfulStart, LawfulTag}
use Rattle.frame.specs.Limits.{highest_number, highest_version}
use Rattle.frame.specs.Messages.{Said, get, get_ack, put, put_ack, freeze, held, update}
use Rattle.slots.specs.declared.letter.Body.{Body}
use Rattle.slots.specs.declared.letter.Body.TheVariants.{Get, GetAck, Put, PutAck, Freeze, Held, Update}
use Rattle.tables.specs.declared.copy.SheetCopy.{SheetCopy}
use Rattle.tables.specs.declared.members.Members.{Members}
use Rattle.tables.specs.declared.records.NodeRecord.{NodeRecord}
use Rattle.tables.specs.declared.records.OperationKind.{OperationKind}
use Rattle.tables.specs.declared.records.OperationKind.TheVariants.{Read, Write, Regroup}
use Rattle.tables.specs.declared.records.OperationRow.{OperationRow}
use Rattle.tables.specs.declared.records.OperationState.{OperationState}
use Rattle.tables.specs.declared.records.OperationState.TheVariants.{Answered}
use Rattle.tables.specs.declared.records.Status.{Status}
use Rattle.tables.specs.declared.records.Status.TheVariants.{Idle, Active, Frozen}
use Rattle.tables.specs.Copies.{newer}
use Rattle.tables.specs.Moments.{last_moment, next_moment}
use Rattle.tables.specs.Lawful.{LawfulSheetCopy, LawfulNode, LawfulOperation, LawfulList}
use Rattle.tables.specs.Members.{listed, place_of}
use Rattle.node.specs.declared.plan.Plan.{Plan}
use Rattle.node.specs.Received.{head_said, body_said}
use Rattle.node.specs.Conditions.{obeys, same_number, waits_for, may_join}
use Rattle.node.specs.LawfulPlans.{LawfulPlan, AllLawful, LawfulStays}
use Rattle.node.specs.Plans.{counted_as}
use Rattle.node.specs.Rules.{joined, counted_set, counting, enough, answered, read_counted, write_counted, held_copy, held_counted, joining, by_status, planned}
use Rattle.node.specs.Rules.{on_get, on_put, on_freeze, on_get_ack, on_put_ack, on_held, on_update}
use Rattle.node.proofs.Options.{either_way, if_met, answer_if_met, when_some, map_holds, and_then_holds}
use Rattle.node.proofs.LawfulParts.{copy_from_frame, content_for_frame, newer_lawful, joined_bounded, members_taken_lawful}

-- the set is that of the row with a place below seven joined
abbrev Joins : OperationRow → ℕ → Type 0
Joins row set = (place : ℕ) × (place < largest_group) × (set ≡ joined row.set place)

-- A node of this kind of content, and a frame to it; contents have the kind's width, which is at most 16.
module _ {C : Type 0} (width : ℕ) (meaning : C → List ℕ) (wide : (content : C) → length (meaning content) ≡ width) (bounded : width ≤ widest)
    (node : NodeRecord) (node_lawful : LawfulNode meaning node) (head : Head) (operation : ℕ) where
  abbrev Kept : Plan → Type 0
  Kept plan = LawfulPlan width meaning plan

  -- the node with another stored copy
  storing_lawful : (copy : SheetCopy) → LawfulSheetCopy meaning copy → LawfulNode meaning (record node { stored = copy })
  storing_lawful copy copy_lawful = record {
    configuration_lawful = node_lawful.configuration_lawful;
    stored_lawful = copy_lawful;
    served_lawful = node_lawful.served_lawful;
    newest_bounded = node_lawful.newest_bounded;
  }

  serving_lawful : (copy : SheetCopy) → LawfulSheetCopy meaning copy → LawfulNode meaning (record node { served = copy })
  serving_lawful copy copy_lawful = record {
    configuration_lawful = node_lawful.configuration_lawful;
    stored_lawful = node_lawful.stored_lawful;
    served_lawful = copy_lawful;
    newest_bounded = node_lawful.newest_bounded;
  }

  -- no bound speaks of the status
  frozen_lawful : LawfulNode meaning (record node { status = Frozen })
  frozen_lawful = record {
    configuration_lawful = node_lawful.configuration_lawful;
    stored_lawful = node_lawful.stored_lawful;
    served_lawful = node_lawful.served_lawful;
    newest_bounded = node_lawful.newest_bounded;
  }

  -- in the head of a reply sender and receiver change places
  start_back : LawfulStart head operation → LawfulStart (record { receiver = head.sender; sender = head.receiver; number = head.number }) operation
  start_back start = record {
    route = record { receiver = start.route.sender; sender = start.route.receiver };
    number_bounded = start.number_bounded;
    operation_bounded = start.operation_bounded;
  }

  get_keeps : LawfulStart head operation → IfSome (on_get node head operation) Kept
  get_keeps start = if_met Kept (obeys node head) (record { node_lawful = node_lawful; row_lawful = tt; reply_lawful = start_back start })

  put_keeps : (copy : SheetCopy) → LawfulStart head operation → LawfulSheetCopy meaning copy → IfSome (on_put node head operation copy) Kept
  put_keeps copy start copy_lawful = if_met Kept (obeys node head) (record {
    node_lawful = storing_lawful _ (newer_lawful meaning node.stored copy node_lawful.stored_lawful copy_lawful);
    row_lawful = tt;
    reply_lawful = start_back start;
  })

  freeze_keeps : LawfulStart head operation → IfSome (on_freeze node head operation) Kept
  freeze_keeps start = if_met Kept (same_number node head) (record {
    node_lawful = frozen_lawful;
    row_lawful = tt;
    reply_lawful = record {
      start = start_back start;
      tag_lawful = node_lawful.stored_lawful.tag_lawful;
      content_lawful = content_for_frame width meaning wide bounded node.stored node_lawful.stored_lawful;
    };
  })

  -- the place of a member of a lawful list is below seven
  place_below_seven : (place : ℕ) → place_of node.configuration.members head.sender ≡ Some place → place < largest_group
  place_below_seven place found =
      let members = node.configuration.members in
      let inside = position-Some (λ member. member == head.sender) (listed members) place 0 found in
      omega (arith, inside.0, length-take members.count members.nodes, node_lawful.configuration_lawful.members_lawful.seven)

  -- so what is counted joins a place below seven
  counted_joins : (kind : OperationKind) (row : OperationRow) → IfSome (counted_set kind node head row) (Joins row)
  counted_joins kind row =
      let place = place_of node.configuration.members head.sender in
      answer_if_met (Joins row) (waits_for kind node head row) (option_map (joined row.set) place)
      (map_holds (λ p. p < largest_group) (Joins row) (joined row.set) place (when_some (λ p. p < largest_group) place place_below_seven) (λ p below. (p, below, λ i. joined row.set p)))

  -- What is planned for a counted row is lawful if it is so for each place that may join.
  counting_keeps : (kind : OperationKind) (rows : List OperationRow) (plan : OperationRow → ℕ → Plan) → AllLawful meaning rows
      → ((row : OperationRow) (place : ℕ) → LawfulOperation meaning row → place < largest_group → Kept (plan row (joined row.set place)))
      → IfSome (counting kind node rows head operation plan) Kept
  counting_keeps kind rows plan all_lawful each =
      and_then_holds (LawfulOperation meaning) Kept (λ row. option_map (plan row) (counted_set kind node head row)) (slice_get rows operation) (all_lawful operation)
      (λ row row_lawful. map_holds (Joins row) Kept (plan row) (counted_set kind node head row) (counted_joins kind row)
      (λ set joins. subst (λ x. Kept (plan row x)) (sym joins.2) (each row joins.0 row_lawful joins.1)))

  -- A row keeps within its bounds with a place below seven joined, any lawful copy, any state, and an answer at any moment.
  counted_lawful : (after : NodeRecord) (row : OperationRow) (place : ℕ) (copy : SheetCopy) (state : OperationState) (answer : ℕ) → LawfulNode meaning after → LawfulOperation meaning row
      → place < largest_group → LawfulSheetCopy meaning copy → answer ≤ last_moment
      → Kept (counted_as head after operation (record row { copy = copy; set = joined row.set place; state = state; answer = answer }))
  counted_lawful after row place copy state answer after_lawful row_lawful below copy_lawful answer_bounded = record {
    node_lawful = after_lawful;
    row_lawful = record {
      node_bounded = row_lawful.node_bounded;
      number_bounded = row_lawful.number_bounded;
      copy_lawful = copy_lawful;
      members_lawful = row_lawful.members_lawful;
      set_bounded = joined_bounded row.set place row_lawful.set_bounded below;
      moments_bounded = (row_lawful.moments_bounded.0, answer_bounded);
    };
    reply_lawful = tt;
  }

  -- as it is where it is not answered
  open_lawful : (row : OperationRow) (place : ℕ) (copy : SheetCopy) → LawfulOperation meaning row → place < largest_group → LawfulSheetCopy meaning copy
      → Kept (counted_as head node operation (record row { copy = copy; set = joined row.set place }))
  open_lawful row place copy row_lawful below copy_lawful =
      counted_lawful node row place copy row.state row.answer node_lawful row_lawful below copy_lawful row_lawful.moments_bounded.1

  -- and where it is, at the next moment
  answered_lawful : (after : NodeRecord) (row : OperationRow) (place : ℕ) (copy : SheetCopy) (moment : ℕ) → LawfulNode meaning after → LawfulOperation meaning row → place < largest_group
      → LawfulSheetCopy meaning copy → Kept (counted_as head after operation (answered (record row { copy = copy; set = joined row.set place }) moment))
  answered_lawful after row place copy moment after_lawful row_lawful below copy_lawful =
      counted_lawful after row place copy Answered (next_moment moment) after_lawful row_lawful below copy_lawful (omega arith)

  get_ack_keeps : (wins : ℕ → ℕ → Bool) (rows : List OperationRow) (moment : ℕ) → AllLawful meaning rows → IfSome (on_get_ack wins node rows moment head operation) Kept
  get_ack_keeps wins rows moment all_lawful = counting_keeps Read rows (read_counted wins node moment head operation) all_lawful (λ row place row_lawful below.
      either_way Kept (enough wins node (joined row.set place))
      (answered_lawful node row place node.served moment node_lawful row_lawful below node_lawful.served_lawful)
      (open_lawful row place row.copy row_lawful below row_lawful.copy_lawful))

  put_ack_keeps : (wins : ℕ → ℕ → Bool) (rows : List OperationRow) (moment : ℕ) → AllLawful meaning rows → IfSome (on_put_ack wins node rows moment head operation) Kept
  put_ack_keeps wins rows moment all_lawful = counting_keeps Write rows (write_counted wins node moment head operation) all_lawful (λ row place row_lawful below.
      let copy_lawful = row_lawful.copy_lawful in
      let served = serving_lawful _ (newer_lawful meaning node.served row.copy node_lawful.served_lawful copy_lawful) in
      either_way Kept (enough wins node (joined row.set place))
      (answered_lawful (record node { served = newer node.served row.copy }) row place row.copy moment served row_lawful below copy_lawful)
      (open_lawful row place row.copy row_lawful below copy_lawful))

  held_keeps : (rows : List OperationRow) (copy : SheetCopy) → AllLawful meaning rows → LawfulSheetCopy meaning copy → IfSome (on_held node rows head operation copy) Kept
  held_keeps rows copy all_lawful copy_lawful = counting_keeps Regroup rows (held_counted node head operation copy) all_lawful (λ row place row_lawful below.
      let held_lawful = either_way (LawfulSheetCopy meaning) (row.set == 0) copy_lawful (newer_lawful meaning row.copy copy row_lawful.copy_lawful copy_lawful) in
      open_lawful row place (held_copy row copy) row_lawful below held_lawful)

-- the version of a lawful tag is at most the highest
version_bounded : (tag : Tag) → LawfulTag tag → tag.version ≤ highest_version
version_bounded tag lawful = ⊎_elim (λ opening. omega (arith, opening.0)) (λ other. other.0.1) lawful

-- A lawful node that joins a lawful configuration stays lawful.
module _ {C : Type 0} (width : ℕ) (meaning : C → List ℕ) (node : NodeRecord) (node_lawful : LawfulNode meaning node) (head : Head) (members : Members) (copy : SheetCopy)
    (number_bounded : head.number ≤ highest_number) (members_lawful : LawfulList members) (copy_lawful : LawfulSheetCopy meaning copy) where
  joining_lawful : LawfulNode meaning (joining node head members copy)
  joining_lawful = record {
    configuration_lawful = record { number_bounded = number_bounded; members_lawful = members_lawful; opening_lawful = copy_lawful.tag_lawful };
    stored_lawful = newer_lawful meaning node.stored copy node_lawful.stored_lawful copy_lawful;
    served_lawful = copy_lawful;
    newest_bounded = omega (arith, node_lawful.newest_bounded, version_bounded copy.tag copy_lawful.tag_lawful);
  }

  update_keeps : IfSome (on_update node head members copy) (LawfulPlan width meaning)
  update_keeps = if_met (LawfulPlan width meaning) (may_join node head members) (record { node_lawful = joining_lawful; row_lawful = tt; reply_lawful = tt })

-- what is lawful of a message by value, under its head
abbrev LawfulBody : {C : Type 0} → (C → List ℕ) → Head → Body → Type 0
LawfulBody meaning head (Get operation) = LawfulStart head operation
LawfulBody meaning head (GetAck operation) = LawfulStart head operation
LawfulBody meaning head (Put operation copy) = LawfulStart head operation × LawfulSheetCopy meaning copy
LawfulBody meaning head (PutAck operation) = LawfulStart head operation
LawfulBody meaning head (Freeze operation) = LawfulStart head operation
LawfulBody meaning head (Held operation copy) = LawfulStart head operation × LawfulSheetCopy meaning copy
LawfulBody meaning head (Update members copy) = (head.number ≤ highest_number) × LawfulList members × LawfulSheetCopy meaning copy

-- Of this kind of content, whose contents have its width, at most 16.
module _ {C : Type 0} (width : ℕ) (meaning : C → List ℕ) (wide : (content : C) → length (meaning content) ≡ width) (bounded : width ≤ widest) where
  -- a lawful message is so by value
  body_lawful : (message : Said) → Lawful meaning message → LawfulBody meaning (head_said message) (body_said message)
  body_lawful (get head operation) lawful = lawful
  body_lawful (get_ack head operation) lawful = lawful
  body_lawful (put head operation tag content) lawful = (lawful.start, copy_from_frame width meaning wide bounded tag content lawful.tag_lawful lawful.content_lawful)
  body_lawful (put_ack head operation) lawful = lawful
  body_lawful (freeze head operation) lawful = lawful
  body_lawful (held head operation tag content) lawful = (lawful.start, copy_from_frame width meaning wide bounded tag content lawful.tag_lawful lawful.content_lawful)
  body_lawful (update head count members tag content) lawful =
      (lawful.number_bounded.1, members_taken_lawful count members lawful.members_lawful, copy_from_frame width meaning wide bounded tag content lawful.tag_lawful lawful.content_lawful)

  -- and what a lawful node makes of it is lawful, whatever its status
  by_status_keeps : (wins : ℕ → ℕ → Bool) (node : NodeRecord) (rows : List OperationRow) (moment : ℕ) (head : Head) → LawfulNode meaning node → AllLawful meaning rows
      → (status : Status) (body : Body) → LawfulBody meaning head body → IfSome (by_status status body wins node rows moment head) (LawfulPlan width meaning)
  by_status_keeps wins node rows moment head node_lawful all_lawful = go
    where
      go : (status : Status) (body : Body) → LawfulBody meaning head body → IfSome (by_status status body wins node rows moment head) (LawfulPlan width meaning)
      go Idle (Get operation) lawful = tt
      go Idle (GetAck operation) lawful = tt
      go Idle (Put operation copy) lawful = tt
      go Idle (PutAck operation) lawful = tt
      go Idle (Freeze operation) lawful = tt
      go Idle (Held operation copy) lawful = tt
      go Idle (Update members copy) lawful = update_keeps width meaning node node_lawful head members copy lawful.0 lawful.1 lawful.2
      go Active (Get operation) lawful = get_keeps width meaning wide bounded node node_lawful head operation lawful
      go Active (GetAck operation) lawful = get_ack_keeps width meaning wide bounded node node_lawful head operation wins rows moment all_lawful
      go Active (Put operation copy) lawful = put_keeps width meaning wide bounded node node_lawful head operation copy lawful.0 lawful.1
      go Active (PutAck operation) lawful = put_ack_keeps width meaning wide bounded node node_lawful head operation wins rows moment all_lawful
      go Active (Freeze operation) lawful = freeze_keeps width meaning wide bounded node node_lawful head operation lawful
      go Active (Held operation copy) lawful = held_keeps width meaning wide bounded node node_lawful head operation rows copy all_lawful lawful.1
      go Active (Update members copy) lawful = update_keeps width meaning node node_lawful head members copy lawful.0 lawful.1 lawful.2
      go Frozen (Get operation) lawful = tt
      go Frozen (GetAck operation) lawful = tt
      go Frozen (Put operation copy) lawful = tt
      go Frozen (PutAck operation) lawful = tt
      go Frozen (Freeze operation) lawful = freeze_keeps width meaning wide bounded node node_lawful head operation lawful
      go Frozen (Held operation copy) lawful = held_keeps width meaning wide bounded node node_lawful head operation rows copy all_lawful lawful.1
      go Frozen (Update members copy) lawful = update_keeps width meaning node node_lawful head members copy lawful.0 lawful.1 lawful.2

  -- Lawful stays lawful: the plan of a lawful record, lawful rows and a lawful message.
  pub lawful_stays : (wins : ℕ → ℕ → Bool) (node : NodeRecord) (rows : List OperationRow) (moment : ℕ) (message : Said) (answer : Option Plan) → answer ≡ planned wins node rows moment message
      → LawfulStays width meaning node rows message answer
  lawful_stays wins node rows moment message answer is_planned node_lawful all_lawful lawful =
      subst (λ x. IfSome x (LawfulPlan width meaning)) {x = planned wins node rows moment message} (sym is_planned)
      (by_status_keeps wins node rows moment (head_said message) node_lawful all_lawful node.status (body_said message) (body_lawful message lawful))
