-- Behind the opening a node holds what it was given then, or by an update since.
use Rattle.std.proofs.Common.{◌≡◌, ℕ, suc, ◌≤◌, inl, inr, List, Some, Ok, ap, sym, ◌∙◌, subst, slice_get, arith}
use Rattle.desk.specs.Asking.{record_of}
use Rattle.floor.specs.State.{State}
use Rattle.frame.specs.Messages.{reading}
use Rattle.law.specs.Law.{Opened, Holds, FromOpening, FromUpdate}
use Rattle.law.specs.Runs.{Parts, Entry}
use Rattle.law.proofs.HeldSteps.{HeldBefore, Updates, held_step}
use Rattle.law.proofs.Holding.{in_state}
use Rattle.law.proofs.OpenedOnce.{opened_floor}
use Rattle.law.proofs.Opening.{FromClosed, IsOpen, stays_open}
use Rattle.law.proofs.Places.{state_at, Goes, goes_at, GoesOrEnded, goes_or_ended, upwards}
use Rattle.tables.specs.declared.members.Members.{Members}
use Rattle.tables.specs.declared.records.NodeRecord.{NodeRecord}
use Rattle.writer.specs.Table.{slot_of}

module _ {C Q S : Type 0} {parts : Parts C Q S} {calls : List (Entry C Q S)} {end : State Q S} (ran : FromClosed parts calls end) (node : ℕ) where
  -- the node's record at a place
  abbrev Shows : ℕ → NodeRecord → Type 0
  Shows place found = record_of (state_at ran.start calls place).t.nodes node ≡ Some found

  -- a call up to this one gave the node what the record holds
  abbrev Given : ℕ → NodeRecord → Type 0
  Given place found = (j : ℕ) × Holds parts calls end j node found.configuration × (j ≤ place)

  abbrev GivenAt : ℕ → Type 0
  GivenAt place = (found : NodeRecord) → Shows (suc place) found → Given place found

  by_opening : (place count : ℕ) (members : Members) (content : C) → Opened parts calls end place count members content → 1 ≤ node → node ≤ count → GivenAt place
  by_opening place count members content opened from to found shown =
      let goes = goes_at parts ran.start end calls ran.run place opened.entry opened.there in
      (place, FromOpening place count members content node found opened from to (ap (λ (s : State Q S). record_of s.t.nodes node) goes.to ∙ shown), omega arith)

  by_update : (place : ℕ) (entry : Entry C Q S) (found : NodeRecord) → slice_get calls place ≡ Some entry → Goes parts ran.start calls place entry
      → Updates parts (state_at ran.start calls place) entry.call entry.answer node → Shows (suc place) found → Given place found
  by_update place entry found there goes updates shown = (
    place,
    FromUpdate place updates.message node found
        (record {
          entry = entry;
          there = there;
          slot = updates.slot;
          delivers = updates.delivers;
          says = subst (λ (s : State Q S). reading parts.width parts.from_bytes (slot_of s.t.frames updates.slot) ≡ Ok updates.message) (sym goes.from) updates.says;
          answered = updates.answered;
        }) updates.goes_to (ap (λ (s : State Q S). record_of s.t.nodes node) goes.to ∙ shown),
    omega arith,
  )

  before_that : (place : ℕ) (found : NodeRecord) → GivenAt place → HeldBefore (state_at ran.start calls (suc place)).t.nodes node found → Given (suc place) found
  before_that place found given held =
      let (j, holds, below) = given held.was held.there in
      (j, subst (λ configuration. Holds parts calls end j node configuration) held.same holds, omega (arith, below))

  given_next : (place : ℕ) → IsOpen ran (suc place) → GivenAt place → GoesOrEnded parts ran.start calls (suc place) → GivenAt (suc place)
  given_next place is_open given (inl (entry, there, goes)) found shown =
      let before = state_at ran.start calls (suc place) in
      let after = state_at ran.start calls (suc (suc place)) in
      elim (held_step parts before after entry.answer node found shown entry.call is_open goes.step) [
        | inl held ↦ before_that place found given held
        | inr updates ↦ by_update (suc place) entry found there goes updates shown
      ]
  given_next place is_open given (inr ended) found shown =
      let (j, holds, below) = given found (sym (ap (λ (s : State Q S). record_of s.t.nodes node) ended) ∙ shown) in
      (j, holds, omega (arith, below))

pub given_before : {C Q S : Type 0} {parts : Parts C Q S} {calls : List (Entry C Q S)} {end : State Q S} (ran : FromClosed parts calls end) (o i count : ℕ) (members : Members) (content : C)
    (entry : Entry C Q S) (node : ℕ) (found : NodeRecord) → Opened parts calls end o count members content → o ≤ i → slice_get calls i ≡ Some entry
    → 1 ≤ node → node ≤ count → record_of entry.after.t.nodes node ≡ Some found → (j : ℕ) × Holds parts calls end j node found.configuration × (j ≤ i)
given_before {parts} {calls} {end} ran o i count members content entry node found opened below there from to shown =
    let is_open = (opened_floor ran o count members content opened).is_open in
    upwards (GivenAt ran node) o (by_opening ran node o count members content opened from to)
    (λ place since given. given_next ran node place (stays_open ran (suc o) (suc place) (omega (arith, since)) is_open).is_open given (goes_or_ended parts ran.start end calls ran.run (suc place))) i below found
    (in_state ran i node entry found there shown)
