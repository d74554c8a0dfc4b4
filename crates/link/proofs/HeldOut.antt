-- A held copy that is counted is a move: it becomes the regroup's copy if it is the first or higher, and else its place joins.
use Rattle.std.proofs.Common.{◌≡◌, ◌≢◌, ℕ, ◌==◌, Bool, true, false, nat_lt, List, Some, if◌then◌else◌, refl, ap, ◌∙◌, inl, inr, arith}
use Rattle.std.proofs.lemmas.Bool.{eqb-true}
use Rattle.std.proofs.lemmas.Bool.Decides.{nat_tests}
use Rattle.quorum.specs.Limits.{largest_group}
use Rattle.quorum.specs.Sets.{member}
use Rattle.frame.specs.declared.message.Head.{Head}
use Rattle.tables.specs.declared.copy.SheetCopy.{SheetCopy}
use Rattle.tables.specs.declared.records.NodeRecord.{NodeRecord}
use Rattle.tables.specs.declared.records.OperationKind.TheVariants.{Regroup}
use Rattle.tables.specs.declared.records.OperationRow.{OperationRow}
use Rattle.tables.specs.Copies.{is_higher, newer}
use Rattle.tables.specs.Lawful.{LawfulNode, LawfulSheetCopy}
use Rattle.node.specs.declared.plan.Plan.{Plan}
use Rattle.node.specs.Plans.{counted_as}
use Rattle.node.specs.Rules.{joined, with_set, held_counted, on_held}
use Rattle.protocol.specs.State.{Idle, Held, System, Setting, UnderWay}
use Rattle.protocol.specs.Changes.{with_place, place_joins, held_taken}
use Rattle.protocol.specs.Conditions.{FirstOrHigher, NotHigher}
use Rattle.protocol.specs.Moves.{DeliverHeld, DeliverLowerHeld}
use Rattle.link.proofs.Counting.{RowsKnown, Counted, where_counted, row_alone, stands_joined, stands_with_copy}
use Rattle.link.proofs.Receiving.{IsMove, Receives, receiver_takes_part}
use Rattle.link.proofs.Sets.{nobody_in_nothing, somebody_in}
use Rattle.link.proofs.Tags.{higher_is_above}
use Rattle.link.proofs.Terms.{status_said, copy_said}

module _ {C : Type 0} (width : ℕ) (meaning : C → List ℕ) (setting : Setting) (before : System) (head : Head) (node : NodeRecord)
    (receives : Receives before head node) (node_lawful : LawfulNode meaning node) (not_idle : status_said node.status ≢ Idle) (operation : ℕ)
    (copy : SheetCopy) (copy_lawful : LawfulSheetCopy meaning copy) (there : UnderWay (Held head.receiver head.sender head.number operation (copy_said copy)) before) where
  abbrev Moves : Plan → Type 0
  Moves plan = IsMove width setting before plan

  abbrev CountedHere : OperationRow → ℕ → Type 0
  CountedHere row place = Counted meaning before Regroup head operation row place

  -- the plan that leaves the row with this copy
  abbrev leaving : OperationRow → ℕ → SheetCopy → Plan
  leaving row place left = counted_as head node operation (record (with_set row (joined row.set place)) { copy = left })

  -- the copy is the regroup's from now on
  taken : (row : OperationRow) (place : ℕ) → CountedHere row place → FirstOrHigher (before.operations.row operation) (copy_said copy) → Moves (leaving row place copy)
  taken row place counted first_or_higher =
      let now = before.operations.row operation in (
        held_taken before operation place (copy_said copy),
        DeliverHeld head.receiver head.sender head.number operation place (copy_said copy) there (receiver_takes_part before head node receives not_idle) counted.counts first_or_higher,
        row_alone width meaning before head node receives Regroup operation row place counted _ _ false (stands_with_copy _ (with_place now place) copy _ refl (stands_joined row now place counted.stands)),
      )

  -- the copy is lower than what was held out before
  place_only : (row : OperationRow) (place : ℕ) → CountedHere row place → NotHigher (before.operations.row operation) (copy_said copy) → Moves (leaving row place row.copy)
  place_only row place counted not_higher =
      let now = before.operations.row operation in (
        place_joins before operation place,
        DeliverLowerHeld head.receiver head.sender head.number operation place (copy_said copy) there (receiver_takes_part before head node receives not_idle) counted.counts not_higher,
        row_alone width meaning before head node receives Regroup operation row place counted _ _ false (stands_joined row now place counted.stands),
      )

  -- the first copy: no place has joined yet
  is_first : (row : OperationRow) (place : ℕ) → CountedHere row place → row.set ≡ 0 → (other : ℕ) → (before.operations.row operation).set other ≡ false
  is_first row place counted empty other = counted.stands.same_places other ∙ ap (member other) empty ∙ nobody_in_nothing other

  -- a further copy: some place has joined
  is_further : (row : OperationRow) (place : ℕ) → CountedHere row place → row.set ≢ 0 → (other : ℕ) × ((before.operations.row operation).set other ≡ true)
  is_further row place counted some =
      let found = somebody_in largest_group row.set counted.row_lawful.set_bounded some in
      (found.0, counted.stands.same_places found.0 ∙ found.1)

  -- whether it is above the row's copy
  compared : (row : OperationRow) (place : ℕ) → CountedHere row place → nat_lt (before.operations.row operation).copy.tag (copy_said copy).tag ≡ is_higher copy.tag row.copy.tag
  compared row place counted =
      ap (λ now. nat_lt now.tag (copy_said copy).tag) counted.stands.same_copy ∙ higher_is_above copy.tag row.copy.tag copy_lawful.tag_lawful counted.row_lawful.copy_lawful.tag_lawful

  higher_or_not : (row : OperationRow) (place : ℕ) → CountedHere row place → row.set ≢ 0 → (higher : Bool) → nat_lt (before.operations.row operation).copy.tag (copy_said copy).tag ≡ higher
      → Moves (leaving row place (if higher then copy else row.copy))
  higher_or_not row place counted some true is = taken row place counted (inl (grind (arith, nat_tests)))
  higher_or_not row place counted some false is = let further = is_further row place counted some in place_only row place counted (grind (arith, nat_tests), further.0, further.1)

  first_or_further : (row : OperationRow) (place : ℕ) → CountedHere row place → (first : Bool) → (row.set == 0) ≡ first → Moves (leaving row place (if first then copy else newer row.copy copy))
  first_or_further row place counted true is = taken row place counted (inr (is_first row place counted (eqb-true row.set 0 is)))
  first_or_further row place counted false is = higher_or_not row place counted (grind (arith, nat_tests)) (is_higher copy.tag row.copy.tag) (compared row place counted)

  pub held_moves : (rows : List OperationRow) → RowsKnown meaning before rows → (plan : Plan) → on_held node rows head operation copy ≡ Some plan → Moves plan
  held_moves rows known plan is =
      where_counted meaning before head node receives node_lawful Regroup operation Moves rows known (held_counted node head operation copy) plan is
      (λ row place counted. first_or_further row place counted (row.set == 0) refl)
