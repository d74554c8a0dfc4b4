-- Whether a frame is under way, checked by its numbers and its content.
use Rattle.std.proofs.Common.{◌≡◌, ℕ, Bool, true, false, ◌&&◌, ◌||◌, bytes_eq, List, [], ◌∷◌, refl}
use Rattle.std.specs.List.{list_any}
use Rattle.std.proofs.lemmas.Bool.{and_parts}
use Rattle.std.proofs.lemmas.Slice.Eq.{bytes_eq-Decides}
use mathlib.Core.List.{Memᴰ}
use Rattle.protocol.specs.State.{Content, Copy, Configuration, Frame, Get, GetAck, PutAck, Freeze, Put, Held, Update, System, UnderWay}
use Rattle.witness.proofs.Checking.{Check, checked_by}

-- all numbers that a frame carries, and first one for its kind
abbrev pub numbers_of : Frame → List ℕ
numbers_of (Get receiver sender number operation) = 0 ∷ receiver ∷ sender ∷ number ∷ operation ∷ []
numbers_of (GetAck receiver sender number operation) = 1 ∷ receiver ∷ sender ∷ number ∷ operation ∷ []
numbers_of (PutAck receiver sender number operation) = 2 ∷ receiver ∷ sender ∷ number ∷ operation ∷ []
numbers_of (Freeze receiver sender number operation) = 3 ∷ receiver ∷ sender ∷ number ∷ operation ∷ []
numbers_of (Put receiver sender number operation copy) = 4 ∷ receiver ∷ sender ∷ number ∷ operation ∷ copy.tag ∷ []
numbers_of (Held receiver sender number operation copy) = 5 ∷ receiver ∷ sender ∷ number ∷ operation ∷ copy.tag ∷ []
numbers_of (Update receiver sender next) = 6 ∷ receiver ∷ sender ∷ next.number ∷ next.copy.tag ∷ next.members

abbrev pub content_of : Frame → Content
content_of (Put receiver sender number operation copy) = copy.content
content_of (Held receiver sender number operation copy) = copy.content
content_of (Update receiver sender next) = next.copy.content
content_of other = []

same_copy : (one other : Copy) → one.tag ≡ other.tag → one.content ≡ other.content → one ≡ other
same_copy one other tags contents along = record { tag = tags along; content = contents along }

same_configuration : (one other : Configuration) → one.number ≡ other.number → one.members ≡ other.members → one.copy ≡ other.copy → one ≡ other
same_configuration one other numbers members copies along = record { number = numbers along; members = members along; copy = copies along }

-- Numbers and content tell frames apart, for all that a frame carries can be read off them.
same_frame : (one other : Frame) → numbers_of one ≡ numbers_of other → content_of one ≡ content_of other → one ≡ other
same_frame (Get _ _ _ _) (Get _ _ _ _) numbers contents = cc
same_frame (GetAck _ _ _ _) (GetAck _ _ _ _) numbers contents = cc
same_frame (PutAck _ _ _ _) (PutAck _ _ _ _) numbers contents = cc
same_frame (Freeze _ _ _ _) (Freeze _ _ _ _) numbers contents = cc
same_frame (Put _ _ _ _ one) (Put _ _ _ _ other) numbers contents = cc (same_copy one other (cc) contents)
same_frame (Held _ _ _ _ one) (Held _ _ _ _ other) numbers contents = cc (same_copy one other (cc) contents)
same_frame (Update _ _ one) (Update _ _ other) numbers contents = cc (same_configuration one other (cc) (cc) (same_copy one.copy other.copy (cc) contents))
same_frame one other numbers contents = absurd cc

abbrev pub is_like : Frame → Frame → Bool
is_like one other = bytes_eq (numbers_of one) (numbers_of other) && bytes_eq (content_of one) (content_of other)

same_if_like : (one other : Frame) → is_like one other ≡ true → one ≡ other
same_if_like one other like =
    let (numbers, contents) = and_parts (bytes_eq (numbers_of one) (numbers_of other)) (bytes_eq (content_of one) (content_of other)) like in
    same_frame one other ((bytes_eq-Decides (numbers_of one) (numbers_of other)).0 numbers) ((bytes_eq-Decides (content_of one) (content_of other)).0 contents)

-- The first frame of the list that is like it is the frame itself.
pub is_among : (frame : Frame) (frames : List Frame) → list_any (is_like frame) frames ≡ true → Memᴰ frame frames
is_among frame [] found = cc
is_among frame (first ∷ rest) found = here_or_further (is_like frame first) refl found (is_among frame rest)
  where
    Further : Type 0
    Further = list_any (is_like frame) rest ≡ true → Memᴰ frame rest

    here_or_further : (here : Bool) → is_like frame first ≡ here → here || list_any (is_like frame) rest ≡ true → Further → Memᴰ frame (first ∷ rest)
    here_or_further true like found further = Memᴰ.head (same_if_like frame first like)
    here_or_further false differs found further = Memᴰ.tail (further found)

abbrev pub under_way : (frame : Frame) (system : System) → Check (UnderWay frame system)
under_way frame system = checked_by (list_any (is_like frame) system.frames) (is_among frame system.frames)
