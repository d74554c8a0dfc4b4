-- Runs by scripts: lists of steps, each of which is checked to be allowed where it is taken.
use Rattle.std.proofs.Common.{ℕ, Bool, true, false, if◌then◌else◌, nat_lt, List, [], ◌∷◌, length, None, refl, inl, inr}
use Rattle.protocol.specs.State.{Content, Copy, joined_by, nowhere, Kind, Read, Write, Regroup, Open, Frame, Get, GetAck, PutAck, Freeze, Put, Held, Update, System, UnderWay, Setting, first_of}
use Rattle.protocol.specs.Effects.{Effect}
use Rattle.protocol.specs.Conditions.{CountsAck, Enough}
use Rattle.protocol.specs.Changes.{place_joins}
use Rattle.protocol.specs.Moves.{opened, Allowed, StartRead, StartWrite, StartRegroup, DeliverGet, DeliverPut, DeliverFreeze, DeliverGetAck, DeliverPutAck, AnswerRead, AnswerWrite, DeliverHeld, DeliverLowerHeld, DeliverUpdate, Propose, Settle, Decide, Move, Reached, AtOpening, Later, Now, AfterMove}
use Rattle.protocol.proofs.Moments.{reached_later}
use Rattle.witness.proofs.Performing.{perform, performed}
use Rattle.witness.proofs.Checking.{Check, says, ◌given◌, is_true, is_false, has_no_place, equal, below, at_most, is_none}
use Rattle.witness.proofs.Finding.{under_way}
use Rattle.witness.proofs.Allowing.{leads, takes_part, obeys, may_join, counts, counts_ack, proposes, is_decided, place_of, place_in}

pub data ScriptStep : Type 0 where
  ReadStarts : ℕ → ScriptStep  -- at a node
  WriteStarts : ℕ → Content → ScriptStep  -- at a node
  RegroupStarts : ℕ → List ℕ → ScriptStep  -- at a node, to new members
  Arrives : Frame → ScriptStep
  IsProposed : ℕ → ScriptStep  -- by a regroup
  ChooserDecides : ℕ → ℕ → ScriptStep  -- under a number, a proposal
  Settles : ℕ → ℕ → ScriptStep  -- at a node, a proposal

-- the system after a step, and the check that the step is a move
pub record Outcome (setting : Setting) (before : System) : Type 0 where
  pub after : System
  pub allowed : Check (Move setting before after)

-- An effect that is checked to be allowed is performed.
abbrev pub outcome : {setting : Setting} {before : System} {effect : Effect} → Check (Allowed setting before effect) → Outcome setting before
outcome {before} {effect} check = record { after = perform effect before; allowed = says (λ allowed. (effect, allowed, performed effect before)) given check }

module _ (setting : Setting) (before : System) where
  -- whether the places that acknowledged an operation are enough once this one has joined them
  abbrev enough_with : (receiver operation place : ℕ) → Bool
  enough_with receiver operation place = setting.answers (length (before.nodes receiver).members) (joined_by (before.operations.row operation).set place)

  -- an acknowledgement of an operation of a kind: it only joins those that are there, or it is enough, and answers
  abbrev ack_arrives : {answered : Effect} (frame : Frame) (kind : Kind) (receiver sender number operation place : ℕ)
      → (UnderWay frame before → CountsAck before kind receiver sender number operation place → Enough setting before receiver operation place false → Allowed setting before (place_joins before operation place))
      → (UnderWay frame before → CountsAck before kind receiver sender number operation place → Enough setting before receiver operation place true → Allowed setting before answered)
      → Outcome setting before
  ack_arrives frame kind receiver sender number operation place joins answers =
      let enough = enough_with receiver operation place in
      let counted = counts_ack before kind receiver sender number operation place in
      if enough
      then outcome (says answers given under_way frame before given counted given is_true enough)
      else outcome (says joins given under_way frame before given counted given is_false enough)

  -- a copy that is held out: higher than the regroup's; or else not the first; or else the first
  abbrev held_arrives : (receiver sender number operation : ℕ) (copy : Copy) (place : ℕ) → Outcome setting before
  held_arrives receiver sender number operation copy place =
      let row = before.operations.row operation in
      let earlier = place_in row.set (length (before.nodes receiver).members) in
      let held = under_way (Held receiver sender number operation copy) before in
      let counted = counts before Regroup receiver sender number operation place in
      let taken = says (DeliverHeld receiver sender number operation place copy) given held given takes_part (before.nodes receiver) given counted in
      if nat_lt row.copy.tag copy.tag
      then outcome (taken given (says inl given below row.copy.tag copy.tag))
      else if row.set earlier
      then outcome (says (DeliverLowerHeld receiver sender number operation place copy) given held given takes_part (before.nodes receiver) given counted
      given (says (λ no_higher joined. (no_higher, earlier, joined)) given at_most copy.tag row.copy.tag given is_true (row.set earlier)))
      else outcome (taken given (says inr given has_no_place row.set))

  abbrev arrives : Frame → Outcome setting before
  arrives (Get receiver sender number operation) =
      outcome (says (DeliverGet receiver sender number operation) given under_way (Get receiver sender number operation) before given obeys (before.nodes receiver) sender number)
  arrives (Put receiver sender number operation copy) =
      outcome (says (DeliverPut receiver sender number operation copy) given under_way (Put receiver sender number operation copy) before given obeys (before.nodes receiver) sender number)
  arrives (Freeze receiver sender number operation) =
      outcome (says (DeliverFreeze receiver sender number operation) given under_way (Freeze receiver sender number operation) before given takes_part (before.nodes receiver)
      given equal (before.nodes receiver).number number)
  arrives (GetAck receiver sender number operation) =
      let place = place_of sender (before.nodes receiver).members in
      ack_arrives (GetAck receiver sender number operation) Read receiver sender number operation place
      (DeliverGetAck receiver sender number operation place) (AnswerRead receiver sender number operation place)
  arrives (PutAck receiver sender number operation) =
      let place = place_of sender (before.nodes receiver).members in
      ack_arrives (PutAck receiver sender number operation) Write receiver sender number operation place
      (DeliverPutAck receiver sender number operation place) (AnswerWrite receiver sender number operation place)
  arrives (Held receiver sender number operation copy) = held_arrives receiver sender number operation copy (place_of sender (before.nodes receiver).members)
  arrives (Update receiver sender next) =
      outcome (says (DeliverUpdate receiver sender next) given under_way (Update receiver sender next) before given may_join receiver (before.nodes receiver) next)

  abbrev pub next : ScriptStep → Outcome setting before
  next (ReadStarts node) = outcome (says (StartRead node) given leads node (before.nodes node))
  next (WriteStarts node content) = outcome (says (StartWrite node content) given leads node (before.nodes node))
  next (RegroupStarts node new_members) = outcome (says (StartRegroup node new_members) given takes_part (before.nodes node))
  next (Arrives frame) = arrives frame
  next (IsProposed operation) = outcome (says (Propose operation) given proposes setting before operation)
  next (ChooserDecides number proposal) = outcome (says (Decide number proposal) given is_none (before.decisions number))
  next (Settles node proposal) = outcome (says (Settle node proposal) given takes_part (before.nodes node) given is_decided before (before.nodes node).number proposal)

abbrev pub play : Setting → System → List ScriptStep → System
play setting before [] = before
play setting before (step ∷ steps) = play setting (next setting before step).after steps

-- The moves of a script, one after the other, if each is allowed where it is taken.
abbrev pub goes_on : (setting : Setting) (early before : System) → Check (Later setting early before) → (steps : List ScriptStep) → Check (Later setting early (play setting before steps))
goes_on setting early before so_far [] = so_far
goes_on setting early before so_far (step ∷ steps) = let came = next setting before step in
    goes_on setting early came.after (says AfterMove given so_far given came.allowed) steps

abbrev pub later_by : (setting : Setting) (early : System) (steps : List ScriptStep) → Check (Later setting early (play setting early steps))
later_by setting early steps = goes_on setting early early (says Now) steps

-- the opening before which nothing was decided
abbrev pub opening : Setting → System
opening setting = record {
  nodes = opened setting;
  operations = record {
    count = 0;
    row = λ operation. record { kind = Read; node = 0; number = 0; copy = (first_of setting).copy; members = []; set = nowhere; stage = Open; start = 0; answer = 0 };
  };
  proposals = record { count = 0; row = λ proposal. first_of setting };
  decisions = λ number. None;
  frames = [];
  moment = 0;
}

pub opening_is_reached : (setting : Setting) → Reached setting (opening setting)
opening_is_reached setting = AtOpening (record { nodes = λ node. refl; no_operations = refl; no_proposals = refl; no_frames = refl; moment = refl })

abbrev pub reached_by : (setting : Setting) (steps : List ScriptStep) → Check (Reached setting (play setting (opening setting) steps))
reached_by setting steps = says (reached_later setting (opening setting) (play setting (opening setting) steps) (opening_is_reached setting)) given later_by setting (opening setting) steps
