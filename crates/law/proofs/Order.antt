-- The law's order of operations is that of the protocol's line at the end.
use Rattle.std.proofs.Common.{◌≡◌, ℕ, ◌≤◌, ◌≢◌, inl, inr, true, List, length, ap, sym, ◌∙◌, subst}
use Rattle.floor.specs.State.{State}
use Rattle.link.proofs.Terms.{kind_said, tag_said}
use Rattle.protocol.specs.Law as law
use Rattle.protocol.specs.Line as line
use Rattle.protocol.specs.State as said
use Rattle.law.specs.Law.{Started, Sooner, Ahead}
use Rattle.law.specs.Runs.{Parts, Entry}
use Rattle.law.proofs.AtEnd.{ends, open_at_end, EndPoints, begun_kind}
use Rattle.law.proofs.Begun.{BegunAt, was_begun, started_is_begun, begun_in_order, calls_in_order}
use Rattle.law.proofs.Effects.{tags_alike}
use Rattle.law.proofs.Linked.{Linked}
use Rattle.law.proofs.Opening.{FromClosed, OpensAt}
use Rattle.law.proofs.Places.{state_at}
use Rattle.law.proofs.RowFacts.{RowIn}
use Rattle.law.proofs.RowsSaid.{is_read, is_write, is_regroup, same_kind, same_tag, lawful_tag}
use Rattle.law.proofs.Tags.{node_bounded, higher_is_above, above_is_higher}
use Rattle.law.proofs.Told.{started_of}
use Rattle.tables.specs.declared.records.OperationKind.TheVariants.{Read, Regroup}
use Rattle.tables.specs.declared.records.OperationRow.{OperationRow}

module _ {C Q S : Type 0} {parts : Parts C Q S} {calls : List (Entry C Q S)} {end : State Q S} (link : Linked parts) (ran : FromClosed parts calls end) (opening : ℕ) (opens : OpensAt ran opening)
    (is_open : end.desk.is_open ≡ true) where
  -- A row at the end was started by a call,
  pub begun_row : (operation : ℕ) (row : OperationRow) → RowIn end operation row → (place : ℕ) × BegunAt ran operation place
  begun_row operation row found =
      let at_end : RowIn (state_at ran.start calls (length calls)) operation row = subst (λ (s : State Q S). RowIn s operation row) (sym (ends ran)) found in
      let (place, _, begun) = was_begun ran operation (length calls) (open_at_end ran is_open) at_end.used in
      (place, begun)

  -- and by one of the law's starts, if it is no regroup.
  pub started_row : (operation : ℕ) (row : OperationRow) → RowIn end operation row → row.kind ≢ Regroup → (place : ℕ) × Started parts calls end operation place
  started_row operation row found read_or_write =
      let (place, begun) = begun_row operation row found in (
        place,
        started_of ran operation place begun
            (λ regroup. read_or_write (is_regroup row.kind (begun_kind link ran opening opens operation place begun row found ∙ ap kind_said regroup))),
      )

  module _ (early : ℕ) (two : EndPoints link ran opening opens early) (one other : ℕ) (row row' : OperationRow) (found : RowIn end one row) (found' : RowIn end other row') where
    abbrev system : said.System
    system = two.second

    kind_of_one : (system.operations.row one).kind ≡ kind_said row.kind
    kind_of_one = same_kind parts end system two.second_stands one row found

    kind_of_other : (system.operations.row other).kind ≡ kind_said row'.kind
    kind_of_other = same_kind parts end system two.second_stands other row' found'

    tag_of_one : law.tag_in system one ≡ tag_said row.copy.tag
    tag_of_one = same_tag parts end system two.second_stands one row found

    tag_of_other : law.tag_in system other ≡ tag_said row'.copy.tag
    tag_of_other = same_tag parts end system two.second_stands other row' found'

    sooner_said : Sooner parts calls end one row other row' → line.Sooner system one other
    sooner_said (inl (write, read)) = inl (kind_of_one ∙ ap kind_said write, kind_of_other ∙ ap kind_said read)
    sooner_said (inr (read, read', before)) =
        inr (
          kind_of_one ∙ ap kind_said read,
          kind_of_other ∙ ap kind_said read',
          begun_in_order ran one other before.i before.j (started_is_begun ran one before.i before.first) (started_is_begun ran other before.j before.second) before.before,
        )

    sooner_of : line.Sooner system one other → Sooner parts calls end one row other row'
    sooner_of (inl (write, read)) = inl (is_write row.kind (sym kind_of_one ∙ write), is_read row'.kind (sym kind_of_other ∙ read))
    sooner_of (inr (read, read', less)) =
        let kind : row.kind ≡ Read = is_read row.kind (sym kind_of_one ∙ read) in
        let kind' : row'.kind ≡ Read = is_read row'.kind (sym kind_of_other ∙ read') in
        let (i, first) = started_row one row found (λ regroup. cc) in
        let (j, second) = started_row other row' found' (λ regroup. cc) in
        inr (
          kind,
          kind',
          record { i = i; j = j; first = first; second = second; before = calls_in_order ran one other i j (started_is_begun ran one i first) (started_is_begun ran other j second) less },
        )

    bounded : row.copy.tag.node ≤ 16
    bounded = node_bounded row.copy.tag (lawful_tag parts end system two.second_stands one row found)

    bounded' : row'.copy.tag.node ≤ 16
    bounded' = node_bounded row'.copy.tag (lawful_tag parts end system two.second_stands other row' found')

    pub ahead_said : Ahead parts calls end one row other row' → line.Ahead system one other
    ahead_said (inl higher) = let above = higher_is_above row'.copy.tag row.copy.tag bounded' bounded higher in inl (rw (tag_of_one, tag_of_other) above)
    ahead_said (inr (same, sooner)) = inr (tag_of_one ∙ ap tag_said same ∙ sym tag_of_other, sooner_said sooner)

    pub ahead_of : line.Ahead system one other → Ahead parts calls end one row other row'
    ahead_of (inl above) = inl (above_is_higher row'.copy.tag row.copy.tag bounded' bounded (rw (tag_of_one, tag_of_other) at above))
    ahead_of (inr (same, sooner)) = inr (tags_alike link ran opening opens early two one other row row' found found' same, sooner_of sooner)
