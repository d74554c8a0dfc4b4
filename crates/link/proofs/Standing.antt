-- The parts of a system that stand for the tables, each by itself: after an entry of theirs was replaced, and after frames were sent.
use Rattle.std.proofs.Common.{◌≡◌, ◌≢◌, ℕ, zero, suc, ◌<◌, ◌≤◌, List, [], ◌∷◌, ◌++◌, map, length, slice_get, slice_set, slice_index, Some, Ok, Option, refl, sym, ap, ◌∙◌, subst, inl, inr, arith}
use mathlib.Core.List.Memᴰ
use mathlib.Core.List.{Memᴰ}
use Rattle.std.proofs.lemmas.Bool.{cases_eq}
use Rattle.std.proofs.lemmas.Option.{slice_get_within, same_Some}
use Rattle.frame.specs.Lawful.{Lawful}
use Rattle.frame.specs.Messages.{Said, reading}
use Rattle.frame.proofs.Laws.{Laws}
use Rattle.writer.specs.Table.{slot_of}
use Rattle.slots.specs.declared.letter.Letter.{Letter}
use Rattle.slots.specs.Letters.{addressed}
use Rattle.slots.specs.Slots.{sent_to_each}
use Rattle.tables.specs.declared.records.NodeRecord.{NodeRecord}
use Rattle.tables.specs.declared.records.OperationRow.{OperationRow}
use Rattle.tables.specs.declared.records.OperationState.{OperationState}
use Rattle.tables.specs.declared.records.ProposalRow.{ProposalRow}
use Rattle.node.specs.Applying.{with_record}
use Rattle.desk.specs.Asking.{record_of}
use Rattle.protocol.specs.State.{Configuration, Node, Operation, Frame}
use Rattle.protocol.specs.Changes.{at_stage}
use Rattle.protocol.proofs.Shared.{replaced, replaced_here, replaced_elsewhere}
use Rattle.link.proofs.Terms.{StandsFor, configuration_said, stage_said, node_said, frame_said}
use Rattle.link.proofs.Represents.{LawfulFrames}
use Rattle.link.proofs.Entries.{found_here, found_elsewhere, new_record, other_record}
use Rattle.link.proofs.Sending.{sent_under_way}

-- Records

-- the records up to a count, each in the words of the protocol
abbrev pub NodesStand : ℕ → List NodeRecord → (ℕ → Node) → Type 0
NodesStand count nodes of = (node : ℕ) (found : NodeRecord) → node ≤ count → record_of nodes node ≡ Some found → of node ≡ node_said found

pub record_becomes : (count node : ℕ) (nodes : List NodeRecord) (of : ℕ → Node) (value : NodeRecord) (said : Node) → said ≡ node_said value → NodesStand count nodes of
    → NodesStand count (with_record nodes node value) (replaced of node said)
record_becomes count node nodes of value said is stand other found below here = elim (cases_eq other node) [
  | inl same ↦ rw same (replaced_here of node said) ∙ is ∙ ap node_said (sym (new_record nodes node value found (rw same at here)))
  | inr apart ↦ replaced_elsewhere of node said other apart ∙ stand other found below (sym (other_record nodes node other value apart) ∙ here)
]

-- Rows

-- the rows that are used, each by what it stands for
abbrev pub RowsStand : {Row Value : Type 0} → (Row → Value → Type 0) → ℕ → List Row → (ℕ → Value) → Type 0
RowsStand {Row} Stands used rows of = (index : ℕ) → index < used → (row : Row) × (slice_get rows index ≡ Some row) × Stands row (of index)

module _ {Row Value : Type 0} (Stands : Row → Value → Type 0) (used : ℕ) (rows : List Row) (of : ℕ → Value) (stand : RowsStand Stands used rows of) (row : Row) (value : Value) (stands : Stands row value) where
  -- One row is written; of the others those are used that were used.
  row_written : (index used_after : ℕ) → index < length rows → ((other : ℕ) → other < used_after → other ≢ index → other < used)
      → RowsStand Stands used_after (slice_set rows index row) (replaced of index value)
  row_written index used_after inside others other below = elim (cases_eq other index) [
    | inl same ↦ rw same (row, found_here rows index row inside, subst (Stands row) (sym (replaced_here of index value)) stands)
    | inr apart ↦
        let (found, here, stands_for) = stand other (others other below apart) in
        (found, found_elsewhere rows index other row apart ∙ here, subst (Stands found) (sym (replaced_elsewhere of index value other apart)) stands_for)
  ]

  pub row_added : (count : ℕ) → count ≡ used → used < length rows → RowsStand Stands (suc used) (slice_set rows used row) (replaced of count value)
  row_added count is_used room = rw is_used (row_written used (suc used) room (λ other below apart. omega arith))

  pub row_becomes : (index : ℕ) → index < used → RowsStand Stands used (slice_set rows index row) (replaced of index value)
  row_becomes index below =
      let (found, here, stands_for) = stand index below in
      row_written index used (slice_get_within rows index found here) (λ other below apart. below)

-- a row that is found stands for what is at its place
pub found_stands : {Row Value : Type 0} (Stands : Row → Value → Type 0) (used : ℕ) (rows : List Row) (of : ℕ → Value) (index : ℕ) (found : Row) → RowsStand Stands used rows of
    → index < used → slice_get rows index ≡ Some found → Stands found (of index)
found_stands Stands used rows of index found stand below here =
    let (row, there, stands) = stand index below in
    let same : row ≡ found = same_Some row found (sym there ∙ here) in
    rw same at stands

-- a proposal row stands for what it proposes
abbrev pub ProposalStands : ProposalRow → Configuration → Type 0
ProposalStands row configuration = configuration ≡ configuration_said row

-- An operation stands at another stage where its row is in another state.
pub at_stage_stands : (row : OperationRow) (operation : Operation) (state : OperationState) → StandsFor row operation → StandsFor (record row { state = state }) (at_stage operation (stage_said state))
at_stage_stands row operation state stands = record {
  same_kind = stands.same_kind;
  same_node = stands.same_node;
  same_number = stands.same_number;
  same_copy = stands.same_copy;
  same_members = stands.same_members;
  same_places = stands.same_places;
  same_stage = refl;
}

-- Frames

module _ {C : Type 0} (width : ℕ) (meaning : C → List ℕ) (reads : List ℕ → Option C) where
  -- what can be read of the frame table is among these frames
  abbrev pub FramesStand : List ℕ → List Frame → Type 0
  FramesStand table frames = (slot : ℕ) (message : Said) → reading width reads (slot_of table slot) ≡ Ok message → Memᴰ (frame_said message) frames

  -- a letter is lawful to each of the receivers
  abbrev pub LawfulToEach : List ℕ → Letter → Type 0
  LawfulToEach receivers letter = (place : ℕ) → place < length receivers → Lawful meaning (addressed width letter (slice_index receivers place))

-- the frame to a member is among those to all
to_each : (frame_to : ℕ → Frame) (members : List ℕ) (place : ℕ) → place < length members → Memᴰ (frame_to (slice_index members place)) (map frame_to members)
to_each frame_to [] place inside = absurd (omega arith)
to_each frame_to (member ∷ members) zero inside = Memᴰ.head refl
to_each frame_to (member ∷ members) (suc place) inside = Memᴰ.tail (to_each frame_to members place (omega arith))

module _ {C : Type 0} (width : ℕ) (meaning : C → List ℕ) (reads : List ℕ → Option C) (laws : Laws width meaning reads) (table : List ℕ) (letter : Letter) where
  -- Frames that stood stand, and so does the frame that a letter is to each of its receivers.
  pub frames_sent : (frames : List Frame) (receivers members : List ℕ) (frame_to : ℕ → Frame) → members ≡ receivers
      → FramesStand width meaning reads table frames → LawfulToEach width meaning reads receivers letter → ((receiver : ℕ) → frame_said (addressed width letter receiver) ≡ frame_to receiver)
      → FramesStand width meaning reads (sent_to_each width table receivers letter) (map frame_to members ++ frames)
  frames_sent frames receivers members frame_to same stand lawful says slot message is =
      elim (sent_under_way width meaning reads laws table receivers letter slot message lawful is) [
        | inl old ↦ Memᴰ.append_right (map frame_to members) (stand slot message old)
        | inr (place, inside, new) ↦
            rw same (Memᴰ.append_left frames (Memᴰ.cast (ap frame_said new ∙ says (slice_index receivers place)) (to_each frame_to receivers place inside)))
      ]

  -- and what can be read stays lawful
  pub sent_lawful : (receivers : List ℕ) → LawfulFrames width meaning reads table → LawfulToEach width meaning reads receivers letter
      → LawfulFrames width meaning reads (sent_to_each width table receivers letter)
  sent_lawful receivers stand lawful slot message is =
      elim (sent_under_way width meaning reads laws table receivers letter slot message lawful is) [
        | inl old ↦ stand slot message old
        | inr (place, inside, new) ↦ rw new (lawful place inside)
      ]
