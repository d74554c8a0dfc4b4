-- What a node holds is what it was given: by the opening, or by an update that it took.
use Rattle.std.proofs.Common.{◌≡◌, ℕ, suc, ◌≤◌, Bool, true, false, List, Option, Some, None, Ok, if◌then◌else◌, ap, ◌∙◌, subst, take}
use Rattle.desk.specs.Asking.{record_of}
use Rattle.desk.specs.Opening.{opening_tag}
use Rattle.floor.specs.State.{State}
use Rattle.frame.specs.declared.message.Head.{Head}
use Rattle.frame.specs.declared.message.Tag.{Tag}
use Rattle.frame.specs.Messages.{update, reading}
use Rattle.link.proofs.Entries.{new_record}
use Rattle.link.proofs.Opening.{found_at_opening}
use Rattle.node.specs.Applying.{with_record}
use Rattle.node.specs.Conditions.{may_join}
use Rattle.node.specs.declared.plan.Plan.{Plan}
use Rattle.node.specs.Plans.{plan_for}
use Rattle.node.specs.Received.{body_said}
use Rattle.node.specs.Rules.{joining, planned}
use Rattle.node.specs.Rules as rules
use Rattle.law.specs.Law.{Opened, Delivered}
use Rattle.law.specs.Runs.{Parts, Entry, Step}
use Rattle.law.proofs.DeliverSteps.{handled}
use Rattle.law.proofs.Holding.{in_state}
use Rattle.law.proofs.OpenedOnce.{opened_floor}
use Rattle.law.proofs.Opening.{FromClosed}
use Rattle.law.proofs.Places.{state_at, goes_at}
use Rattle.tables.specs.declared.members.Members.{Members}
use Rattle.tables.specs.declared.records.NodeRecord.{NodeRecord}
use Rattle.tables.specs.declared.records.OperationRow.{OperationRow}
use Rattle.tables.specs.declared.records.Status.{Status}
use Rattle.tables.specs.declared.records.Status.TheVariants.{Idle, Active, Frozen}
use Rattle.tables.specs.Copies.{copy_of}
use Rattle.tables.specs.Members.{list_of}
use Rattle.writer.specs.Table.{slot_of}

met_plan : (met : Bool) (said plan : Plan) → ◌≡◌ {A = Option Plan} (if met then Some said else None) (Some plan) → plan ≡ said
met_plan true said plan is = cc
met_plan false said plan is = absurd (cc)

-- A node that takes an update joins, whatever its status.
update_joins : (wins : ℕ → ℕ → Bool) (node : NodeRecord) (rows : List OperationRow) (moment : ℕ) (head : Head) (count : ℕ) (members : List ℕ) (tag : Tag) (content : List ℕ) (plan : Plan)
    → planned wins node rows moment (update head count members tag content) ≡ Some plan → plan ≡ plan_for head (joining node head (list_of (take count members)) (copy_of tag content))
update_joins wins node rows moment head count members tag content plan is = by_status node.status is
  where
    by_status : (status : Status) → rules.by_status status (body_said (update head count members tag content)) wins node rows moment head ≡ Some plan
        → plan ≡ plan_for head (joining node head (list_of (take count members)) (copy_of tag content))
    by_status Idle is = met_plan (may_join node head (list_of (take count members))) _ plan is
    by_status Active is = met_plan (may_join node head (list_of (take count members))) _ plan is
    by_status Frozen is = met_plan (may_join node head (list_of (take count members))) _ plan is

module _ {C Q S : Type 0} {parts : Parts C Q S} {calls : List (Entry C Q S)} {end : State Q S} (ran : FromClosed parts calls end) where
  pub opens_with : (i count : ℕ) (members : Members) (content : C) (node : ℕ) (found : NodeRecord) (opened : Opened parts calls end i count members content) → 1 ≤ node → node ≤ count
      → record_of opened.entry.after.t.nodes node ≡ Some found → found.configuration ≡ record { number = 0; members = members; opening = opening_tag }
  opens_with i count members content node found opened from to shown =
      let there = in_state ran i node opened.entry found opened.there shown in
      let opened_there = subst (λ nodes. record_of nodes node ≡ Some found) (opened_floor ran i count members content opened).nodes there in
      ap (λ (n : NodeRecord). n.configuration) (found_at_opening (state_at ran.start calls i).t.nodes count node members (parts.meaning content) found to opened_there)

  pub installs : (i : ℕ) (head : Head) (count : ℕ) (members : List ℕ) (tag : Tag) (content : List ℕ) (found : NodeRecord)
      (delivered : Delivered parts calls end i (update head count members tag content) 1)
      → record_of delivered.entry.after.t.nodes head.receiver ≡ Some found → found.configuration ≡ record { number = head.number; members = list_of (take count members); opening = tag }
  installs i head count members tag content found delivered shown =
      let before = state_at ran.start calls i in
      let after = state_at ran.start calls (suc i) in
      let goes = goes_at parts ran.start end calls ran.run i delivered.entry delivered.there in
      let step = subst (λ call. Step parts before call delivered.entry.answer after) delivered.delivers goes.step in
      let says : reading parts.width parts.from_bytes (slot_of before.t.frames delivered.slot) ≡ Ok (update head count members tag content) =
      subst (λ (s : State Q S). reading parts.width parts.from_bytes (slot_of s.t.frames delivered.slot) ≡ Ok (update head count members tag content)) goes.from delivered.says in
      let takes = handled parts before after delivered.entry.answer delivered.slot step delivered.answered in
      let says' = takes.passes.says in
      let same : takes.passes.message ≡ update head count members tag content = cc in
      let plans = subst (λ m. planned (parts.winning before.rule) takes.passes.found (take before.desk.operations_used before.t.operations) before.desk.moment m ≡ Some takes.plan) same takes.passes.plans in
      let joins = update_joins (parts.winning before.rule) takes.passes.found (take before.desk.operations_used before.t.operations) before.desk.moment head count members tag content takes.plan plans in
      let nodes = takes.nodes ∙ ap (λ (p : Plan). with_record before.t.nodes p.receiver p.node) joins in
      let there = in_state ran i head.receiver delivered.entry found delivered.there shown in
      ap (λ (n : NodeRecord). n.configuration) (new_record before.t.nodes head.receiver (joining takes.passes.found head (list_of (take count members)) (copy_of tag content)) found
      (subst (λ ns. record_of ns head.receiver ≡ Some found) nodes there))
