-- Effects performed: the system that an effect makes of another one, with no frame lost.
use Rattle.std.proofs.Common.{◌≡◌, ℕ, suc, ◌⊎◌, List, [], ◌∷◌, ◌++◌, map, if◌then◌else◌, refl, inl, inr, arith}
use mathlib.Core.List.Memᴰ
use mathlib.Core.List.{Memᴰ}
use Rattle.protocol.proofs.Shared.{replaced, replaced_here, replaced_elsewhere}
use Rattle.protocol.specs.State.{Frame, Table, System}
use Rattle.protocol.specs.Effects.{Change, Same, Becomes, RowChange, Kept, RowBecomes, Added, Sending, Nothing, Reply, ToEach, Effect, OneBecomes, Changed, RowsChanged, Sent, After}

-- What an effect makes of each part, as its kinds say

abbrev pub changed : {A : Type 0} → Change A → (ℕ → A) → ℕ → A
changed Same before = before
changed (Becomes index value) before = replaced before index value

abbrev pub rows_changed : {A : Type 0} → RowChange A → Table A → Table A
rows_changed Kept before = before
rows_changed (RowBecomes index row) before = record { count = before.count; row = replaced before.row index row }
rows_changed (Added row) before = record { count = suc before.count; row = replaced before.row before.count row }

abbrev pub frames_of : Sending → List Frame
frames_of Nothing = []
frames_of (Reply reply) = reply ∷ []
frames_of (ToEach members frame_to) = map frame_to members

abbrev pub perform : Effect → System → System
perform effect before = record {
  nodes = changed effect.node before.nodes;
  operations = rows_changed effect.operation before.operations;
  proposals = rows_changed effect.proposal before.proposals;
  decisions = changed effect.decision before.decisions;
  frames = frames_of effect.sends ++ before.frames;
  moment = if effect.ticks then suc before.moment else before.moment;
}

-- The test on the index takes the new value there and the old one elsewhere, and a row past the last one is elsewhere for all others.
module _ {A : Type 0} where
  is_replaced : (before : ℕ → A) (index : ℕ) (value : A) → OneBecomes before (replaced before index value) index value
  is_replaced before index value = record {
    here = replaced_here before index value;
    elsewhere = replaced_elsewhere before index value;
  }

  is_changed : (change : Change A) (before : ℕ → A) → Changed change before (changed change before)
  is_changed Same before = λ index. refl
  is_changed (Becomes index value) before = is_replaced before index value

  rows_are_changed : (change : RowChange A) (before : Table A) → RowsChanged change before (rows_changed change before)
  rows_are_changed Kept before = (refl, λ index. refl)
  rows_are_changed (RowBecomes index row) before = (refl, is_replaced before.row index row)
  rows_are_changed (Added row) before = let added = is_replaced before.row before.count row in
      record { count = refl; here = added.here; elsewhere = λ other below. added.elsewhere other (omega arith) }

-- Of the frames to each member, one goes to the member at some place: the first, or one further on.
is_to_a_member : (members : List ℕ) (frame_to : ℕ → Frame) (frame : Frame) → Memᴰ frame (map frame_to members) → Sent (ToEach members frame_to) frame
is_to_a_member [] frame_to frame sent = absurd (Memᴰ.not-nil sent)
is_to_a_member (member ∷ members) frame_to frame sent = first_or_further (Memᴰ.cases_cons sent) (is_to_a_member members frame_to frame)
  where
    Further : Type 0
    Further = Memᴰ frame (map frame_to members)

    first_or_further : (frame ≡ frame_to member) ⊎ Further → (Further → Sent (ToEach members frame_to) frame) → Sent (ToEach (member ∷ members) frame_to) frame
    first_or_further (inl first) further = (0, omega arith, first)
    first_or_further (inr rest) further = let (place, is_place, same) = further rest in (suc place, omega arith, same)

-- A frame that is under way afterwards stands in what was sent or in what was under way.
is_sent : (sends : Sending) (frame : Frame) → Memᴰ frame (frames_of sends) → Sent sends frame
is_sent Nothing frame sent = Memᴰ.not-nil sent
is_sent (Reply reply) frame sent = Memᴰ.eq_of_singleton sent
is_sent (ToEach members frame_to) frame sent = is_to_a_member members frame_to frame sent

old_or_sent : (sends : Sending) (frames : List Frame) (frame : Frame) → Memᴰ frame (frames_of sends ++ frames) → Memᴰ frame frames ⊎ Sent sends frame
old_or_sent sends frames frame under_way = either (Memᴰ.append_cases (frames_of sends) under_way)
  where
    either : Memᴰ frame (frames_of sends) ⊎ Memᴰ frame frames → Memᴰ frame frames ⊎ Sent sends frame
    either (inl sent) = inr (is_sent sends frame sent)
    either (inr old) = inl old

-- The effect happens, and nothing else does.
pub performed : (effect : Effect) (before : System) → After effect before (perform effect before)
performed effect before = record {
  nodes = is_changed effect.node before.nodes;
  operations = rows_are_changed effect.operation before.operations;
  proposals = rows_are_changed effect.proposal before.proposals;
  decisions = is_changed effect.decision before.decisions;
  moment = refl;
  frames = old_or_sent effect.sends before.frames;
}
