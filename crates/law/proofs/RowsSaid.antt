-- What a system says of an operation, where it stands for a state in which the operation's row is in use.
use Rattle.std.proofs.Common.{◌≡◌, ℕ, ◌<◌, Option, Some, refl, ap, sym, ◌∙◌, subst, slice_get, arith}
use Rattle.floor.specs.State.{State}
use Rattle.frame.specs.Lawful.{LawfulTag}
use Rattle.link.proofs.Terms.{StandsFor, kind_said, stage_said, tag_said}
use Rattle.protocol.specs.Law as law
use Rattle.protocol.specs.State as said
use Rattle.law.specs.Runs.{Parts}
use Rattle.law.proofs.Linked.{Stands}
use Rattle.law.proofs.RowFacts.{RowIn}
use Rattle.std.specs.Option.{IfSome}
use Rattle.tables.specs.declared.records.OperationKind.{OperationKind}
use Rattle.tables.specs.declared.records.OperationKind.TheVariants.{Read, Write, Regroup}
use Rattle.tables.specs.declared.records.OperationRow.{OperationRow}
use Rattle.tables.specs.declared.records.OperationState.{OperationState}
use Rattle.tables.specs.declared.records.OperationState.TheVariants.{Open, Answered, GivenUp, Proposed}
use Rattle.tables.specs.Lawful.{LawfulOperation}

-- Kinds are told apart.
pub is_read : (kind : OperationKind) → kind_said kind ≡ said.Read → kind ≡ Read
is_read Read is = refl
is_read Write is = absurd (cc)
is_read Regroup is = absurd (cc)

pub is_write : (kind : OperationKind) → kind_said kind ≡ said.Write → kind ≡ Write
is_write Read is = absurd (cc)
is_write Write is = refl
is_write Regroup is = absurd (cc)

pub is_regroup : (kind : OperationKind) → kind_said kind ≡ said.Regroup → kind ≡ Regroup
is_regroup Read is = absurd (cc)
is_regroup Write is = absurd (cc)
is_regroup Regroup is = refl

-- kinds that are said alike are alike
pub same_kinds : (one other : OperationKind) → kind_said one ≡ kind_said other → one ≡ other
same_kinds one Read same = is_read one same
same_kinds one Write same = is_write one same
same_kinds one Regroup same = is_regroup one same

is_answered : (state : OperationState) → stage_said state ≡ said.Answered → state ≡ Answered
is_answered Open is = absurd (cc)
is_answered Answered is = refl
is_answered GivenUp is = absurd (cc)
is_answered Proposed is = absurd (cc)

pub if_some : {A : Type 0} (P : A → Type 0) (found : Option A) (value : A) → found ≡ Some value → IfSome found P → P value
if_some P found value is holds = subst (λ o. IfSome o P) is holds

module _ {C Q S : Type 0} (parts : Parts C Q S) (state : State Q S) (system : said.System) (stands : Stands parts state system) where
  abbrev operation_in : ℕ → said.Operation
  operation_in operation = system.operations.row operation

  -- the row of an operation that the system counts
  pub row_of : (operation : ℕ) → operation < system.operations.count → (row : OperationRow) × RowIn state operation row
  row_of operation counted =
      let same = stands.represents.operations_counted in
      let used : operation < state.desk.operations_used = omega (arith, counted, same) in
      let (row, there, _) = stands.represents.operations operation used in
      (row, record { used = used; there = there })

  module _ (operation : ℕ) (row : OperationRow) (found : RowIn state operation row) where
    stands_for : StandsFor row (operation_in operation)
    stands_for =
        let (other, there, stands_for_other) = stands.represents.operations operation found.used in
        let here = found.there in
        let same : other ≡ row = cc in
        subst (λ r. StandsFor r (operation_in operation)) same stands_for_other

    pub counted : operation < system.operations.count
    counted = let same = stands.represents.operations_counted in let used = found.used in omega (arith, used, same)

    pub same_kind : (operation_in operation).kind ≡ kind_said row.kind
    same_kind = stands_for.same_kind

    pub same_number : (operation_in operation).number ≡ row.number
    same_number = stands_for.same_number

    pub same_tag : law.tag_in system operation ≡ tag_said row.copy.tag
    same_tag = ap (λ c. c.tag) stands_for.same_copy

    pub same_content : (operation_in operation).copy.content ≡ row.copy.content
    same_content = ap (λ c. c.content) stands_for.same_copy

    pub lawful_tag : LawfulTag row.copy.tag
    lawful_tag =
        let lawful = if_some (LawfulOperation parts.meaning) (slice_get state.t.operations operation) row found.there (stands.lawful.operations_lawful operation found.used) in
        lawful.copy_lawful.tag_lawful

    pub said_answered : row.state ≡ Answered → law.IsAnswered system operation
    said_answered answered = record { is_started = counted; answered = stands_for.same_stage ∙ ap stage_said answered }

    pub row_answered : law.IsAnswered system operation → row.state ≡ Answered
    row_answered answered = is_answered row.state (sym stands_for.same_stage ∙ answered.answered)

    pub said_write : row.kind ≡ Write → law.IsWrite system operation
    said_write write = record { is_started = counted; write = same_kind ∙ ap kind_said write }
