-- What a node's plan for a frame does to the operation rows: none changes, or the open row of the operation that the frame speaks of.
use Rattle.std.proofs.Common.{◌≡◌, ℕ, Bool, true, false, ◌⊎◌, inl, inr, List, Option, Some, None, refl, ap, sym, ◌∙◌, subst, slice_get, take, if◌then◌else◌, arith}
use Rattle.std.specs.Prelude.{◌&&◌}
use Rattle.std.specs.Option.{IfSome, option_and_then, option_map}
use Rattle.frame.specs.declared.message.Head.{Head}
use Rattle.frame.specs.Messages.{Said, get, get_ack, put, put_ack, freeze, held, update}
use Rattle.node.specs.declared.plan.Plan.{Plan}
use Rattle.node.proofs.Options.{either_way}
use Rattle.node.specs.Conditions.{same_kind, is_open, waits_for, obeys, may_join, same_number}
use Rattle.node.specs.Received.{head_said, body_said}
use Rattle.node.specs.Rules.{joined, counted_set, counting, enough, read_counted, write_counted, held_counted, by_status, planned}
use Rattle.law.specs.Law.{operation_of}
use Rattle.law.proofs.FramesFit.{BodyFits}
use Rattle.tables.specs.declared.records.NodeRecord.{NodeRecord}
use Rattle.tables.specs.declared.records.OperationKind.{OperationKind}
use Rattle.tables.specs.declared.records.OperationKind.TheVariants.{Read, Write, Regroup}
use Rattle.tables.specs.declared.records.OperationRow.{OperationRow}
use Rattle.tables.specs.declared.records.Status.{Status}
use Rattle.tables.specs.declared.records.Status.TheVariants.{Idle, Active, Frozen}
use Rattle.tables.specs.Copies.{copy_of}
use Rattle.tables.specs.Members.{place_of, list_of}

-- a reply's frame fits its slot
abbrev pub ReplyFits : Plan → Type 0
ReplyFits plan = IfSome plan.reply (λ reply. BodyFits reply.letter.body)

-- the plan counts an open row, that of the frame's operation
pub record Counts (rows : List OperationRow) (of_it : Option ℕ) (plan : Plan) : Type 0 where
  pub operation : ℕ
  pub was : OperationRow
  pub row : OperationRow
  pub same : of_it ≡ Some operation
  pub there : slice_get rows operation ≡ Some was
  pub was_open : is_open was.state ≡ true
  pub planned : plan.row ≡ Some (record { operation = operation; row = row })

-- none of the rows changes, or an open one is counted; and a reply, if one is due, fills its slot
pub record PlanDoes (rows : List OperationRow) (of_it : Option ℕ) (plan : Plan) : Type 0 where
  pub counts : (plan.row ≡ None) ⊎ Counts rows of_it plan
  pub reply_fits : ReplyFits plan

replies_same : (said plan : Plan) → said ≡ plan → ReplyFits said → ReplyFits plan
replies_same said plan same fits = subst ReplyFits same fits

-- a rule that changes no row
if_met : (rows : List OperationRow) (of_it : Option ℕ) (met : Bool) (said plan : Plan) → said.row ≡ None → ReplyFits said
    → ◌≡◌ {A = Option Plan} (if met then Some said else None) (Some plan)
    → PlanDoes rows of_it plan
if_met rows of_it true said plan none fits is =
    let same : said ≡ plan = cc in
    record { counts = inl (ap (λ (p : Plan). p.row) (sym same) ∙ none); reply_fits = replies_same said plan same fits }
if_met rows of_it false said plan none fits is = absurd (cc)

-- the row that a plan of a rule that counts gives the operation
abbrev RowOf : ℕ → Plan → Type 0
RowOf operation plan = (row : OperationRow) × (plan.row ≡ Some (record { operation = operation; row = row })) × ReplyFits plan

-- a row that is waited for is open
waited_is_open : (one two three four five : Bool) → (one && two && three && four && five) ≡ true → two ≡ true
waited_is_open one two three four five all = grind arith

joined_from : {A B C : Type 0} (f : B → C) (g : A → B) (place : Option A) (value : C) → option_map f (option_map g place) ≡ Some value → (found : B) × (f found ≡ value)
joined_from f g (Some p) value is = (g p, cc)
joined_from f g None value is = absurd (cc)

-- of the place that joins, if it does
set_joins : (kind : OperationKind) (node : NodeRecord) (head : Head) (was : OperationRow) (plan_of : ℕ → Plan) (plan : Plan) → option_map plan_of (counted_set kind node head was) ≡ Some plan
    → (is_open was.state ≡ true) × (set : ℕ) × (plan_of set ≡ plan)
set_joins kind node head was plan_of plan is = go (waits_for kind node head was) refl is
  where
    place : Option ℕ
    place = place_of node.configuration.members head.sender

    go : (waits : Bool) → waits_for kind node head was ≡ waits → option_map plan_of (if waits then option_map (joined was.set) place else None) ≡ Some plan
        → (is_open was.state ≡ true) × (set : ℕ) × (plan_of set ≡ plan)
    go true waits joins = let (set, same) = joined_from plan_of (joined was.set) place plan joins in (waited_is_open (same_kind was.kind kind) (is_open was.state) _ _ _ waits, set, same)
    go false waits joins = absurd (cc)

module _ (wins : ℕ → ℕ → Bool) (node : NodeRecord) (rows : List OperationRow) (moment : ℕ) (head : Head) (operation : ℕ) (plan : Plan) where
  counted : (kind : OperationKind) (plan_of : OperationRow → ℕ → Plan) → ((row : OperationRow) (set : ℕ) → RowOf operation (plan_of row set))
      → counting kind node rows head operation plan_of ≡ Some plan
      → PlanDoes rows (Some operation) plan
  counted kind plan_of gives is = go (slice_get rows operation) refl is
    where
      go : (found : Option OperationRow) → slice_get rows operation ≡ found → option_and_then (λ row. option_map (plan_of row) (counted_set kind node head row)) found ≡ Some plan
          → PlanDoes rows (Some operation) plan
      go (Some was) there joins =
          let (was_open, set, same) = set_joins kind node head was (plan_of was) plan joins in
          let (row, planned, fits) = gives was set in
          record {
            counts = inr (record { operation = operation; was = was; row = row; same = refl; there = there; was_open = was_open; planned = ap (λ (p : Plan). p.row) (sym same) ∙ planned });
            reply_fits = replies_same (plan_of was set) plan same fits;
          }
      go None there joins = absurd (cc)

  read_row : (row : OperationRow) (set : ℕ) → RowOf operation (read_counted wins node moment head operation row set)
  read_row row set = either_way (RowOf operation) (enough wins node set) (_, refl, tt) (_, refl, tt)

  write_row : (row : OperationRow) (set : ℕ) → RowOf operation (write_counted wins node moment head operation row set)
  write_row row set = either_way (RowOf operation) (enough wins node set) (_, refl, tt) (_, refl, tt)

-- By status and kind.
module _ (wins : ℕ → ℕ → Bool) (node : NodeRecord) (rows : List OperationRow) (moment : ℕ) (plan : Plan) where
  abbrev Says : Status → Said → Type 0
  Says status message = by_status status (body_said message) wins node rows moment (head_said message) ≡ Some plan → PlanDoes rows (operation_of message) plan

  obeyed : (met : Bool) (message : Said) (said : Plan) → said.row ≡ None → ReplyFits said → ◌≡◌ {A = Option Plan} (if met then Some said else None) (Some plan)
      → PlanDoes rows (operation_of message) plan
  obeyed met message said none fits is = if_met rows (operation_of message) met said plan none fits is

  by_kind : (status : Status) (message : Said) → Says status message
  by_kind Idle (update head count members tag content) is = obeyed (may_join node head (list_of (take count members))) (update head count members tag content) _ refl tt is
  by_kind Idle (get head operation) is = absurd (cc)
  by_kind Idle (get_ack head operation) is = absurd (cc)
  by_kind Idle (put head operation tag content) is = absurd (cc)
  by_kind Idle (put_ack head operation) is = absurd (cc)
  by_kind Idle (freeze head operation) is = absurd (cc)
  by_kind Idle (held head operation tag content) is = absurd (cc)
  by_kind Active (update head count members tag content) is = obeyed (may_join node head (list_of (take count members))) (update head count members tag content) _ refl tt is
  by_kind Active (get head operation) is = obeyed (obeys node head) (get head operation) _ refl tt is
  by_kind Active (get_ack head operation) is =
      counted wins node rows moment head operation plan Read (read_counted wins node moment head operation) (read_row wins node rows moment head operation plan) is
  by_kind Active (put head operation tag content) is = obeyed (obeys node head) (put head operation tag content) _ refl tt is
  by_kind Active (put_ack head operation) is =
      counted wins node rows moment head operation plan Write (write_counted wins node moment head operation) (write_row wins node rows moment head operation plan) is
  by_kind Active (freeze head operation) is = obeyed (same_number node head) (freeze head operation) _ refl tt is
  by_kind Active (held head operation tag content) is =
      counted wins node rows moment head operation plan Regroup (held_counted node head operation (copy_of tag content)) (λ row set. (_, refl, tt)) is
  by_kind Frozen (update head count members tag content) is = obeyed (may_join node head (list_of (take count members))) (update head count members tag content) _ refl tt is
  by_kind Frozen (get head operation) is = absurd (cc)
  by_kind Frozen (get_ack head operation) is = absurd (cc)
  by_kind Frozen (put head operation tag content) is = absurd (cc)
  by_kind Frozen (put_ack head operation) is = absurd (cc)
  by_kind Frozen (freeze head operation) is = obeyed (same_number node head) (freeze head operation) _ refl tt is
  by_kind Frozen (held head operation tag content) is =
      counted wins node rows moment head operation plan Regroup (held_counted node head operation (copy_of tag content)) (λ row set. (_, refl, tt)) is

  pub planned_rows : (message : Said) → planned wins node rows moment message ≡ Some plan → PlanDoes rows (operation_of message) plan
  planned_rows message is = by_kind node.status message is
