-- Nodes that ever hold a number hold the same configuration, and what was answered under a lower number is not above it.
use Rattle.std.proofs.Common.{◌≡◌, ℕ, suc, ◌<◌, ◌≤◌, inl, inr, false, List, ap, sym, ◌∙◌, subst, arith}
use Rattle.std.proofs.lemmas.Bool.{cases_lt, false_from_ne_true}
use Rattle.std.proofs.lemmas.Option.{slice_get_within}
use Rattle.desk.specs.Asking.{record_of}
use Rattle.floor.specs.State.{State}
use Rattle.frame.specs.Lawful.{LawfulTag}
use Rattle.link.proofs.Terms.{node_said, tag_said}
use Rattle.protocol.proofs.OrderHolds.{order_holds}
use Rattle.protocol.specs.State as said
use Rattle.law.specs.Law.{IsAnswered, Holds}
use Rattle.law.specs.Runs.{Parts, Entry}
use Rattle.law.proofs.AtEnd.{end_points, law_at}
use Rattle.law.proofs.Effects.{here, answer_said}
use Rattle.law.proofs.Holding.{Held, held_of}
use Rattle.law.proofs.Linked.{Linked, Stands}
use Rattle.law.proofs.Opening.{FromClosed, was_opened, behind_the_opening}
use Rattle.law.proofs.Places.{state_at}
use Rattle.law.proofs.RowsSaid.{if_some, same_number, same_tag, lawful_tag}
use Rattle.law.proofs.Systems.{setting, points}
use Rattle.law.proofs.Tags.{node_bounded, higher_is_above, same_said}
use Rattle.tables.specs.declared.records.Configuration.{Configuration}
use Rattle.tables.specs.declared.records.OperationRow.{OperationRow}
use Rattle.tables.specs.Copies.{is_higher}
use Rattle.tables.specs.Lawful.{LawfulNode}
use Rattle.tables.specs.Members.{listed}

module _ {C Q S : Type 0} {parts : Parts C Q S} {calls : List (Entry C Q S)} {end : State Q S} (link : Linked parts) (ran : FromClosed parts calls end) where
  -- what a system says of a node that holds a configuration
  record SaidOf (system : said.System) (node : ℕ) (configuration : Configuration) : Type 0 where
    number : (system.nodes node).number ≡ configuration.number
    members : (system.nodes node).members ≡ listed configuration.members
    opening : (system.nodes node).opening ≡ tag_said configuration.opening
    lawful : LawfulTag configuration.opening

  said_of : (place node : ℕ) (configuration : Configuration) (held : Held ran place node configuration) (system : said.System) → Stands parts (state_at ran.start calls (suc place)) system
      → SaidOf system node configuration
  said_of place node configuration held system stands =
      let same : system.nodes node ≡ node_said held.found = stands.represents.nodes node held.found held.counted held.record_there in
      let record_lawful =
      if_some (LawfulNode parts.meaning) (record_of (state_at ran.start calls (suc place)).t.nodes node) held.found held.record_there (stands.lawful.nodes_lawful node held.counted) in
      subst (SaidOf system node) held.holds
      (record {
        number = ap (λ n. n.number) same;
        members = ap (λ n. n.members) same;
        opening = ap (λ n. n.opening) same;
        lawful = record_lawful.configuration_lawful.opening_lawful;
      })

  -- of an earlier call and a later one
  alike : (i j one other : ℕ) (held held' : Configuration) → Held ran i one held → Held ran j other held' → held.number ≡ held'.number → i ≤ j
      → (listed held.members ≡ listed held'.members) × (held.opening ≡ held'.opening)
  alike i j one other held held' holds holds' same below =
      let (opening, opens) = was_opened ran (suc i) holds.is_open in
      let two = points link ran opening opens (suc i) (suc j) (behind_the_opening ran opening (suc i) opens holds.is_open) (omega (arith, below)) in
      let law = order_holds (setting link ran opening opens) two.first two.second two.reached two.later in
      let first = said_of i one held holds two.first two.first_stands in
      let second = said_of j other held' holds' two.second two.second_stands in
      let same_number = first.number ∙ same ∙ sym second.number in (
        sym first.members ∙ law.same_members one other same_number ∙ second.members,
        same_said held.opening held'.opening (node_bounded held.opening first.lawful) (node_bounded held'.opening second.lawful)
            (sym first.opening ∙ law.same_opening one other same_number ∙ second.opening),
      )

  -- All nodes that ever hold a configuration of one number hold the same members and opening tag,
  pub same_configuration : (i j one other : ℕ) (held held' : Configuration) → Holds parts calls end i one held → Holds parts calls end j other held' → held.number ≡ held'.number
      → (listed held.members ≡ listed held'.members) × (held.opening ≡ held'.opening)
  same_configuration i j one other held held' holds holds' same =
      let there = held_of ran i one held holds in
      let there' = held_of ran j other held' holds' in
      elim (cases_lt j i) [
        | inl before ↦ let (members, opening) = alike j i other one held' held there' there (sym same) (omega (arith, before)) in (sym members, sym opening)
        | inr below ↦ alike i j one other held held' there there' same below
      ]

  -- and no tag that was answered under a lower number exceeds that tag.
  pub carried_over : (operation : ℕ) (row : OperationRow) (i node : ℕ) (held : Configuration) → IsAnswered parts calls end operation row → Holds parts calls end i node held
      → row.number < held.number → is_higher row.copy.tag held.opening ≡ false
  carried_over operation row i node held answered holds lower =
      let there = held_of ran i node held holds in
      let (opening, opens) = was_opened ran (suc i) there.is_open in
      let two = end_points link ran opening opens (suc i) (behind_the_opening ran opening (suc i) opens there.is_open) (slice_get_within calls i there.entry there.there) in
      let holding = said_of i node held there two.first two.first_stands in
      let found = here link ran opening opens (suc i) two operation row answered.shown in
      let tag = same_tag parts end two.second two.second_stands operation row found in
      let number = same_number parts end two.second two.second_stands operation row found in
      let number' = holding.number in
      let opening_said = holding.opening in
      let below = (law_at link ran opening opens (suc i) two).carried_over operation node (answer_said link ran opening opens (suc i) two operation row answered) (omega (arith, number, number', lower)) in
      false_from_ne_true _
      (λ higher.
      let bounded = node_bounded row.copy.tag (lawful_tag parts end two.second two.second_stands operation row found) in
      let above = higher_is_above row.copy.tag held.opening bounded (node_bounded held.opening holding.lawful) higher in
      absurd (omega (arith, below, above, tag, opening_said)))
