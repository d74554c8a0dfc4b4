-- What a node plans for a frame leaves its configuration as it is, but for an update.
use Rattle.std.proofs.Common.{◌≡◌, ℕ, Bool, ◌⊎◌, inl, inr, List, Some, None, refl, slice_get, take}
use Rattle.std.specs.Option.{IfSome}
use Rattle.frame.specs.declared.message.Head.{Head}
use Rattle.frame.specs.declared.message.Tag.{Tag}
use Rattle.frame.specs.Messages.{Said, get, get_ack, put, put_ack, freeze, held, update}
use Rattle.node.specs.declared.plan.Plan.{Plan}
use Rattle.node.proofs.Options.{either_way, if_met, when_some, map_holds, and_then_holds}
use Rattle.node.specs.Conditions.{obeys, may_join, same_number}
use Rattle.node.specs.Received.{head_said, body_said}
use Rattle.node.specs.Rules.{counted_set, counting, enough, read_counted, write_counted, held_counted, on_held, on_freeze, on_update, by_status, planned}
use Rattle.law.specs.Law.{updated_by}
use Rattle.law.proofs.RowsSaid.{if_some}
use Rattle.tables.specs.declared.records.NodeRecord.{NodeRecord}
use Rattle.tables.specs.declared.records.OperationKind.{OperationKind}
use Rattle.tables.specs.declared.records.OperationKind.TheVariants.{Read, Write, Regroup}
use Rattle.tables.specs.declared.records.OperationRow.{OperationRow}
use Rattle.tables.specs.declared.records.Status.{Status}
use Rattle.tables.specs.declared.records.Status.TheVariants.{Idle, Active, Frozen}
use Rattle.tables.specs.Copies.{copy_of}
use Rattle.tables.specs.Members.{list_of}

-- The plan is for the receiver's record, and keeps its configuration or is that of an update, which counts no row.
pub record Kept (node : NodeRecord) (message : Said) (plan : Plan) : Type 0 where
  pub of_receiver : plan.receiver ≡ (head_said message).receiver
  pub keeps : (plan.node.configuration ≡ node.configuration) ⊎ ((updated_by message ≡ Some (head_said message).receiver) × (plan.row ≡ None))

module _ (wins : ℕ → ℕ → Bool) (node : NodeRecord) (rows : List OperationRow) (moment : ℕ) where
  -- one that counts an operation, whatever its row and the set
  counting_kept : (kind : OperationKind) (message : Said) (operation : ℕ) (plan_of : OperationRow → ℕ → Plan) → ((row : OperationRow) (set : ℕ) → Kept node message (plan_of row set))
      → IfSome (counting kind node rows (head_said message) operation plan_of) (Kept node message)
  counting_kept kind message operation plan_of kept =
      and_then_holds (λ _. Unit {0}) (Kept node message) _ (slice_get rows operation) (when_some (λ _. Unit {0}) _ (λ _ _. tt))
      (λ row _. map_holds (λ _. Unit {0}) (Kept node message) (plan_of row) (counted_set kind node (head_said message) row) (when_some (λ _. Unit {0}) _ (λ _ _. tt)) (λ set _. kept row set))

  read_kept : (message : Said) (operation : ℕ) (row : OperationRow) (set : ℕ) → Kept node message (read_counted wins node moment (head_said message) operation row set)
  read_kept message operation row set = either_way (Kept node message) (enough wins node set) (record { of_receiver = refl; keeps = inl refl }) (record { of_receiver = refl; keeps = inl refl })

  write_kept : (message : Said) (operation : ℕ) (row : OperationRow) (set : ℕ) → Kept node message (write_counted wins node moment (head_said message) operation row set)
  write_kept message operation row set = either_way (Kept node message) (enough wins node set) (record { of_receiver = refl; keeps = inl refl }) (record { of_receiver = refl; keeps = inl refl })

  -- what is planned for a held frame, a freeze or an update, in each status that plans anything
  held_kept : (head : Head) (operation : ℕ) (tag : Tag) (content : List ℕ) → IfSome (on_held node rows head operation (copy_of tag content)) (Kept node (held head operation tag content))
  held_kept head operation tag content =
      counting_kept Regroup (held head operation tag content) operation (held_counted node head operation (copy_of tag content)) (λ row set. record { of_receiver = refl; keeps = inl refl })

  freeze_kept : (head : Head) (operation : ℕ) → IfSome (on_freeze node head operation) (Kept node (freeze head operation))
  freeze_kept head operation = if_met (Kept node (freeze head operation)) (same_number node head) (record { of_receiver = refl; keeps = inl refl })

  update_kept : (head : Head) (count : ℕ) (members : List ℕ) (tag : Tag) (content : List ℕ)
      → IfSome (on_update node head (list_of (take count members)) (copy_of tag content)) (Kept node (update head count members tag content))
  update_kept head count members tag content =
      if_met (Kept node (update head count members tag content)) (may_join node head (list_of (take count members))) (record { of_receiver = refl; keeps = inr (refl, refl) })

  by_kind : (status : Status) (message : Said) → IfSome (by_status status (body_said message) wins node rows moment (head_said message)) (Kept node message)
  by_kind Idle (get head operation) = tt
  by_kind Idle (get_ack head operation) = tt
  by_kind Idle (put head operation tag content) = tt
  by_kind Idle (put_ack head operation) = tt
  by_kind Idle (freeze head operation) = tt
  by_kind Idle (held head operation tag content) = tt
  by_kind Idle (update head count members tag content) = update_kept head count members tag content
  by_kind Active (get head operation) = if_met (Kept node (get head operation)) (obeys node head) (record { of_receiver = refl; keeps = inl refl })
  by_kind Active (get_ack head operation) = counting_kept Read (get_ack head operation) operation (read_counted wins node moment head operation) (read_kept (get_ack head operation) operation)
  by_kind Active (put head operation tag content) = if_met (Kept node (put head operation tag content)) (obeys node head) (record { of_receiver = refl; keeps = inl refl })
  by_kind Active (put_ack head operation) = counting_kept Write (put_ack head operation) operation (write_counted wins node moment head operation) (write_kept (put_ack head operation) operation)
  by_kind Active (freeze head operation) = freeze_kept head operation
  by_kind Active (held head operation tag content) = held_kept head operation tag content
  by_kind Active (update head count members tag content) = update_kept head count members tag content
  by_kind Frozen (get head operation) = tt
  by_kind Frozen (get_ack head operation) = tt
  by_kind Frozen (put head operation tag content) = tt
  by_kind Frozen (put_ack head operation) = tt
  by_kind Frozen (freeze head operation) = freeze_kept head operation
  by_kind Frozen (held head operation tag content) = held_kept head operation tag content
  by_kind Frozen (update head count members tag content) = update_kept head count members tag content

  pub plan_kept : (message : Said) (plan : Plan) → planned wins node rows moment message ≡ Some plan → Kept node message plan
  plan_kept message plan is = if_some (Kept node message) (planned wins node rows moment message) plan is (by_kind node.status message)
