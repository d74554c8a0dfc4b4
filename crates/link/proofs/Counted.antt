-- Acknowledgements that are counted are moves: the operation has not enough yet, or it is answered.
use Rattle.std.proofs.Common.{◌≡◌, ℕ, suc, Bool, true, false, List, length, Some, if◌then◌else◌, refl, ap, ◌∙◌, inl}
use Rattle.frame.specs.declared.message.Head.{Head}
use Rattle.tables.specs.declared.records.NodeRecord.{NodeRecord}
use Rattle.tables.specs.declared.records.OperationKind.{OperationKind}
use Rattle.tables.specs.declared.records.OperationKind.TheVariants.{Read, Write}
use Rattle.tables.specs.declared.records.OperationRow.{OperationRow}
use Rattle.tables.specs.declared.records.Status.TheVariants as status
use Rattle.tables.specs.Copies.{newer}
use Rattle.tables.specs.Lawful.{LawfulNode}
use Rattle.node.proofs.LawfulParts.{joined_bounded}
use Rattle.node.specs.declared.plan.Plan.{Plan}
use Rattle.node.specs.Plans.{counted_as}
use Rattle.node.specs.Rules.{joined, with_set, answered, enough, read_counted, write_counted, on_get_ack, on_put_ack}
use Rattle.protocol.specs.State.{Content, GetAck, PutAck, System, UnderWay, joined_by}
use Rattle.protocol.specs.Changes.{serving, with_place, place_joins, read_answered, write_answered}
use Rattle.protocol.specs.Conditions.{CountsAck, Enough}
use Rattle.protocol.specs.Effects.{Becomes}
use Rattle.protocol.specs.Moves.{DeliverGetAck, DeliverPutAck, AnswerRead, AnswerWrite}
use Rattle.link.proofs.Counting.{RowsKnown, Counted, where_counted, row_alone, stands_joined, stands_with_copy, stands_answered}
use Rattle.link.proofs.Following.{Follows}
use Rattle.link.proofs.Receiving.{IsMove, Receives}
use Rattle.link.proofs.Sets.{bits_are, joined_alike}
use Rattle.link.proofs.Settings.{RuleLaws, setting_of}
use Rattle.link.proofs.Tags.{newer_said}
use Rattle.link.proofs.Terms.{status_said, kind_said, copy_said, node_said}

-- what holds of each of two values where a test takes it, holds of the one that it takes
by_test : {A : Type 0} (P : A → Type 0) (test : Bool) (one other : A) → (test ≡ true → P one) → (test ≡ false → P other) → P (if test then one else other)
by_test P true one other holds otherwise = holds refl
by_test P false one other holds otherwise = otherwise refl

module _ {C : Type 0} (width : ℕ) (meaning : C → List ℕ) (winning : ℕ → ℕ → Bool) (laws : RuleLaws winning) (members : List ℕ) (content : Content) (before : System) (head : Head) (node : NodeRecord)
    (receives : Receives before head node) (node_lawful : LawfulNode meaning node) (active : node.status ≡ status.Active) (rows : List OperationRow) (known : RowsKnown meaning before rows) (operation : ℕ) where
  abbrev Moves : Plan → Type 0
  Moves plan = IsMove width (setting_of winning laws members content) before plan

  -- the places that the protocol counts win where those of the row do
  enough_alike : (kind : OperationKind) (row : OperationRow) (place : ℕ) (is : Bool) → Counted meaning before kind head operation row place → enough winning node (joined row.set place) ≡ is
      → Enough (setting_of winning laws members content) before head.receiver operation place is
  enough_alike kind row place is counted wins =
      let places = (before.operations.row operation).set in
      let bounded = joined_bounded row.set place counted.row_lawful.set_bounded counted.below_seven in
      let bits = bits_are (joined row.set place) (joined_by places place) bounded (joined_alike row.set place places counted.stands.same_places) in
      ap (winning (length (before.nodes head.receiver).members)) bits ∙ ap (λ state. winning (length state.members) (joined row.set place)) receives.here ∙ wins

  counts_ack : (kind : OperationKind) (row : OperationRow) (place : ℕ) → Counted meaning before kind head operation row place
      → CountsAck before (kind_said kind) head.receiver head.sender head.number operation place
  counts_ack kind row place counted = record {
    running = ap (λ state. state.stopped) receives.here ∙ receives.running;
    active = ap (λ state. state.status) receives.here ∙ ap status_said active;
    counts = counted.counts;
  }

  -- the place joins, and that is all
  joins : (kind : OperationKind) (row : OperationRow) (place : ℕ) → Counted meaning before kind head operation row place
      → Follows width (counted_as head node operation (with_set row (joined row.set place))) before (place_joins before operation place)
  joins kind row place counted =
      row_alone width meaning before head node receives kind operation row place counted (with_set row (joined row.set place)) _ false
      (stands_joined row (before.operations.row operation) place counted.stands)

  -- the read is answered with what the node serves
  read_follows : (row : OperationRow) (place moment : ℕ) → Counted meaning before Read head operation row place
      → Follows width (counted_as head node operation (answered (record (with_set row (joined row.set place)) { copy = node.served }) moment)) before (read_answered before head.receiver operation place)
  read_follows row place moment counted =
      let now = before.operations.row operation in
      let served : (before.nodes head.receiver).served ≡ copy_said node.served = ap (λ state. state.served) receives.here in
      row_alone width meaning before head node receives Read operation row place counted (answered (record (with_set row (joined row.set place)) { copy = node.served }) moment) _ true
      (stands_answered _ _ moment (suc before.moment) (stands_with_copy _ (with_place now place) node.served _ served (stands_joined row now place counted.stands)))

  pub get_ack_moves : (moment : ℕ) (plan : Plan) → UnderWay (GetAck head.receiver head.sender head.number operation) before → on_get_ack winning node rows moment head operation ≡ Some plan → Moves plan
  get_ack_moves moment plan there is =
      where_counted meaning before head node receives node_lawful Read operation Moves rows known (read_counted winning node moment head operation) plan is (λ row place counted.
      let ack = counts_ack Read row place counted in
      by_test Moves (enough winning node (joined row.set place)) _ _
      (λ wins. (
        read_answered before head.receiver operation place,
        AnswerRead head.receiver head.sender head.number operation place there ack (enough_alike Read row place true counted wins),
        read_follows row place moment counted,
      ))
      (λ waits. (
        place_joins before operation place,
        DeliverGetAck head.receiver head.sender head.number operation place there ack (enough_alike Read row place false counted waits),
        joins Read row place counted,
      )))

  -- the write is answered, and served from now on unless what is served is higher
  write_follows : (row : OperationRow) (place moment : ℕ) → Counted meaning before Write head operation row place
      → Follows width (counted_as head (record node { served = newer node.served row.copy }) operation (answered (with_set row (joined row.set place)) moment)) before
      (write_answered before head.receiver operation place)
  write_follows row place moment counted =
      let now = before.operations.row operation in
      let served : serving (before.nodes head.receiver) now.copy ≡ node_said (record node { served = newer node.served row.copy }) =
      ap (λ state. serving state now.copy) receives.here ∙ ap (serving (node_said node)) counted.stands.same_copy
      ∙ ap (λ copy. record (node_said node) { served = copy }) (newer_said node.served row.copy node_lawful.served_lawful.tag_lawful counted.row_lawful.copy_lawful.tag_lawful) in
      record {
        node = inl (ap (Becomes head.receiver) served);
        operation = (_, stands_answered _ _ moment (suc before.moment) (stands_joined row now place counted.stands), counted.counts.waits.is_started, refl);
        proposal = refl;
        decision = refl;
        sends = refl;
      }

  pub put_ack_moves : (moment : ℕ) (plan : Plan) → UnderWay (PutAck head.receiver head.sender head.number operation) before → on_put_ack winning node rows moment head operation ≡ Some plan → Moves plan
  put_ack_moves moment plan there is =
      where_counted meaning before head node receives node_lawful Write operation Moves rows known (write_counted winning node moment head operation) plan is (λ row place counted.
      let ack = counts_ack Write row place counted in
      by_test Moves (enough winning node (joined row.set place)) _ _
      (λ wins. (
        write_answered before head.receiver operation place,
        AnswerWrite head.receiver head.sender head.number operation place there ack (enough_alike Write row place true counted wins),
        write_follows row place moment counted,
      ))
      (λ waits. (
        place_joins before operation place,
        DeliverPutAck head.receiver head.sender head.number operation place there ack (enough_alike Write row place false counted waits),
        joins Write row place counted,
      )))
