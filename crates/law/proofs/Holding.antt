-- What a node holds stands in its record behind a call, on an open floor that has the node.
use Rattle.std.proofs.Common.{◌≡◌, ℕ, suc, ◌≤◌, List, Some, Ok, refl, ◌∙◌, subst, slice_get, arith}
use Rattle.desk.specs.Asking.{record_of}
use Rattle.floor.specs.State.{State}
use Rattle.frame.specs.Messages.{Said, get, get_ack, put, put_ack, freeze, held, update, reading}
use Rattle.node.specs.Received.{head_said}
use Rattle.law.specs.Law.{Delivered, Holds, FromOpening, FromUpdate, updated_by}
use Rattle.law.specs.Runs.{Parts, Entry, Step}
use Rattle.law.proofs.DeliverSteps.{receiver_counted}
use Rattle.law.proofs.OpenedOnce.{opened_floor}
use Rattle.law.proofs.Opening.{FromClosed, IsOpen, made_when_open}
use Rattle.law.proofs.Places.{state_at, goes_at}
use Rattle.law.proofs.RowFacts.{keeps_of}
use Rattle.tables.specs.declared.records.Configuration.{Configuration}
use Rattle.tables.specs.declared.records.NodeRecord.{NodeRecord}
use Rattle.writer.specs.Table.{slot_of}

-- an update goes to its receiver
receiver_of : (message : Said) (node : ℕ) → updated_by message ≡ Some node → (head_said message).receiver ≡ node
receiver_of (update head count members tag content) node is = cc
receiver_of (get head operation) node is = absurd (cc)
receiver_of (get_ack head operation) node is = absurd (cc)
receiver_of (put head operation tag content) node is = absurd (cc)
receiver_of (put_ack head operation) node is = absurd (cc)
receiver_of (freeze head operation) node is = absurd (cc)
receiver_of (held head operation tag content) node is = absurd (cc)

module _ {C Q S : Type 0} {parts : Parts C Q S} {calls : List (Entry C Q S)} {end : State Q S} (ran : FromClosed parts calls end) where
  -- The node's record behind the call at a place.
  pub record Held (place node : ℕ) (configuration : Configuration) : Type 0 where
    pub entry : Entry C Q S
    pub there : slice_get calls place ≡ Some entry
    pub is_open : IsOpen ran (suc place)
    pub counted : node ≤ (state_at ran.start calls (suc place)).desk.node_count
    pub found : NodeRecord
    pub record_there : record_of (state_at ran.start calls (suc place)).t.nodes node ≡ Some found
    pub holds : found.configuration ≡ configuration

  -- the record in the state that a call left
  pub in_state : (place node : ℕ) (entry : Entry C Q S) (found : NodeRecord) → slice_get calls place ≡ Some entry → record_of entry.after.t.nodes node ≡ Some found
      → record_of (state_at ran.start calls (suc place)).t.nodes node ≡ Some found
  in_state place node entry found there shown =
      subst (λ (s : State Q S). record_of s.t.nodes node ≡ Some found) (goes_at parts ran.start end calls ran.run place entry there).to shown

  -- an update that is answered goes to a node of an open floor
  updated_floor : (place node : ℕ) (message : Said) (delivered : Delivered parts calls end place message 1) → updated_by message ≡ Some node
      → IsOpen ran (suc place) × (node ≤ (state_at ran.start calls (suc place)).desk.node_count)
  updated_floor place node message delivered goes_to =
      let one = delivered.answered in
      let delivers = delivered.delivers in
      let (is_open, rows) = made_when_open ran place delivered.entry delivered.there (λ fault refused. cc) (λ count members content opens. cc) in
      let before = state_at ran.start calls place in
      let after = state_at ran.start calls (suc place) in
      let goes = goes_at parts ran.start end calls ran.run place delivered.entry delivered.there in
      let keeps = keeps_of parts before delivered.entry.call delivered.entry.answer after rows in
      let step = subst (λ call. Step parts before call delivered.entry.answer after) delivers goes.step in
      let says = subst (λ (s : State Q S). reading parts.width parts.from_bytes (slot_of s.t.frames delivered.slot) ≡ Ok message) goes.from delivered.says in
      let counted = receiver_counted parts before after delivered.entry.answer delivered.slot message 1 step one says in
      let receiver = receiver_of message node goes_to in
      let same_nodes = keeps.same_nodes in
      (keeps.same_openness ∙ is_open, omega (arith, counted, receiver, same_nodes))

  pub held_of : (place node : ℕ) (configuration : Configuration) → Holds parts calls end place node configuration → Held place node configuration
  held_of place node configuration (FromOpening _ count members content _ found opened from to shown) =
      let floor = opened_floor ran place count members content opened in
      let same = floor.counted in
      record {
        entry = opened.entry;
        there = opened.there;
        is_open = floor.is_open;
        counted = omega (arith, to, same);
        found = found;
        record_there = in_state place node opened.entry found opened.there shown;
        holds = refl;
      }
  held_of place node configuration (FromUpdate _ message _ found delivered goes_to shown) =
      let (is_open, counted) = updated_floor place node message delivered goes_to in
      record {
        entry = delivered.entry;
        there = delivered.there;
        is_open = is_open;
        counted = counted;
        found = found;
        record_there = in_state place node delivered.entry found delivered.there shown;
        holds = refl;
      }
