-- What an effect is: what it names changes, and all else stays (`After`).
use Rattle.std.specs.Prelude.{◌≡◌, ℕ, suc, ◌<◌, Bool, false, ◌≢◌, ◌⊎◌, List, length, Option, if◌then◌else◌}
use Rattle.protocol.specs.State.{Node, Operation, Configuration, Frame, Table, System, UnderWay, node_at}

-- values by number: none changes, or one becomes another
pub data Change (A : Type 0) : Type 0 where
  Same : Change A
  Becomes : ℕ → A → Change A

-- the rows of a table: none changes, one becomes another, or one is added
pub data RowChange (A : Type 0) : Type 0 where
  Kept : RowChange A
  RowBecomes : ℕ → A → RowChange A
  Added : A → RowChange A

-- frames that are sent: none, one, or one to each member of a list
pub data Sending : Type 0 where
  Nothing : Sending
  Reply : Frame → Sending
  ToEach : List ℕ → (ℕ → Frame) → Sending

pub record Effect : Type 0 where
  pub node : Change Node
  pub operation : RowChange Operation
  pub proposal : RowChange Configuration
  pub decision : Change (Option ℕ)
  pub ticks : Bool  -- the moment is raised by one
  pub sends : Sending

-- nothing changes, and nothing is sent
abbrev pub quiet : Effect
quiet = record { node = Same; operation = Kept; proposal = Kept; decision = Same; ticks = false; sends = Nothing }

pub record OneBecomes {A : Type 0} (before after : ℕ → A) (index : ℕ) (value : A) : Type 0 where
  pub here : after index ≡ value
  pub elsewhere : (other : ℕ) → other ≢ index → after other ≡ before other

pub record OneAdded {A : Type 0} (before after : Table A) (row : A) : Type 0 where
  pub count : after.count ≡ suc before.count
  pub here : after.row before.count ≡ row
  pub elsewhere : (other : ℕ) → other < before.count → after.row other ≡ before.row other

abbrev pub Changed : {A : Type 0} → Change A → (ℕ → A) → (ℕ → A) → Type 0
Changed Same before after = (index : ℕ) → after index ≡ before index
Changed (Becomes index value) before after = OneBecomes before after index value

abbrev pub RowsChanged : {A : Type 0} → RowChange A → Table A → Table A → Type 0
RowsChanged Kept before after = (after.count ≡ before.count) × ((index : ℕ) → after.row index ≡ before.row index)
RowsChanged (RowBecomes index row) before after = (after.count ≡ before.count) × OneBecomes before.row after.row index row
RowsChanged (Added row) before after = OneAdded before after row

abbrev pub Sent : Sending → Frame → Type 0
Sent Nothing frame = ⊥
Sent (Reply reply) frame = frame ≡ reply
Sent (ToEach members frame_to) frame = (place : ℕ) × (place < length members) × (frame ≡ frame_to (node_at members place))

-- The system after a move. A frame that is under way now was so before, or is sent by the move; so every move may lose frames, any of them, and each frame may be delivered again.
pub record After (effect : Effect) (before after : System) : Type 0 where
  pub nodes : Changed effect.node before.nodes after.nodes
  pub operations : RowsChanged effect.operation before.operations after.operations
  pub proposals : RowsChanged effect.proposal before.proposals after.proposals
  pub decisions : Changed effect.decision before.decisions after.decisions
  pub moment : after.moment ≡ (if effect.ticks then suc before.moment else before.moment)
  pub frames : (frame : Frame) → UnderWay frame after → UnderWay frame before ⊎ Sent effect.sends frame
