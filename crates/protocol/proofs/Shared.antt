-- What the moves share: what a frame that is under way says, why a reply stands, and that proposals stand as they stood.
use Rattle.std.proofs.Common.{◌≡◌, ℕ, ◌<◌, ◌≤◌, Bool, true, false, if◌then◌else◌, ◌==◌, ◌≢◌, eq-eqb, ne_eqb, ◌⊎◌, Some, sym, refl, ap, ◌∙◌, subst, inl, inr, arith}
use native.Mathlib.Decide.{dec_lt}
use Rattle.protocol.specs.State.{Configuration, Frame, System, UnderWay, Setting, first_of}
use Rattle.protocol.specs.Conditions.{IsDecided}
use Rattle.protocol.specs.Effects.{Same, Kept, Effect, Changed, RowsChanged, Sent, After}
use Rattle.protocol.proofs.History.{Request, Fact, WasStarted, WasAcknowledged, WasAnswered, WasHeld, WasProposed, WasDecided, NoFact, History, Justified}
use Rattle.protocol.proofs.SoundAfter.{NodesOwed, RowsOwed, ShownMove}
use Rattle.protocol.proofs.Standing.{history_of, with_fact, history, history_after, Says, named, FoundIn, FrameStands, DecidedIn, ProposalsStand, Sound}

-- a function with one value replaced
abbrev pub replaced : {A : Type 0} → (ℕ → A) → ℕ → A → ℕ → A
replaced values index value other = if other == index then value else values other

pub replaced_here : {A : Type 0} (values : ℕ → A) (index : ℕ) (value : A) → replaced values index value index ≡ value
replaced_here values index value = ap (λ same. if same then value else values index) (eq-eqb index index refl)

pub replaced_elsewhere : {A : Type 0} (values : ℕ → A) (index : ℕ) (value : A) (other : ℕ) → other ≢ index → replaced values index value other ≡ values other
replaced_elsewhere values index value other is_other = ap (λ same. if same then value else values other) (ne_eqb other index is_other)

-- two kinds of facts of which most moves establish none
abbrev pub is_start : Fact → Bool
is_start (WasStarted request) = true
is_start (WasAcknowledged request node) = false
is_start (WasAnswered request copy moment) = false
is_start (WasHeld configuration node copy) = false
is_start (WasProposed configuration) = false
is_start (WasDecided configuration) = false
is_start NoFact = false

abbrev pub is_decision : Fact → Bool
is_decision (WasStarted request) = false
is_decision (WasAcknowledged request node) = false
is_decision (WasAnswered request copy moment) = false
is_decision (WasHeld configuration node copy) = false
is_decision (WasProposed configuration) = false
is_decision (WasDecided configuration) = true
is_decision NoFact = false

pub not_both : (value : Bool) → value ≡ true → value ≡ false → ⊥
not_both value is_true is_false = let z : ◌≡◌ {A = ℕ} 0 1 = cc in omega arith

-- A move that starts no request has no new one to find.
pub not_started : {system : System} {request_of : ℕ → Request} (fact : Fact) → is_start fact ≡ false → (request : Request) → WasStarted request ≡ fact → FoundIn system request_of request
not_started fact no_start request same = absurd (not_both (is_start fact) (sym (ap is_start same)) no_start)

-- A frame that is under way names a row, and what it says is said of that row's request.
pub frame_says : {setting : Setting} {Earlier : Fact → Type 0} {before : System} (sound : Sound setting Earlier before) (frame : Frame) (operation : ℕ) → named frame ≡ Some operation → UnderWay frame before
    → (operation < before.operations.count) × Says (history_of before sound.joined sound.known) frame (sound.request operation)
frame_says {before = before} sound frame operation names there =
    let stands = sound.frames frame there in
    let (is_started, here) = stands.at operation names in
    (is_started, subst (λ request. Says (history_of before sound.joined sound.known) frame request) (sym here) stands.says)

-- A frame stands if what it says is said of the request of the row that it names.
pub frame_stands : (h : History) (request_of : ℕ → Request) (count : ℕ) (frame : Frame) (operation : ℕ) (request : Request) → named frame ≡ Some operation → operation < count
    → request_of operation ≡ request → Says h frame request → FrameStands h request_of count frame
frame_stands h request_of count frame operation request names is_started here says = record { request = request; at = at; says = says }
  where
    at : (other : ℕ) → named frame ≡ Some other → (other < count) × (request_of other ≡ request)
    at other names_other = let same : other ≡ operation = cc in (omega (arith, same), ap request_of same ∙ here)

-- A reply stands, too: it names a row that was there already.
pub reply_stands : (h : History) (request_of : ℕ → Request) (count : ℕ) (reply : Frame) (operation : ℕ) → named reply ≡ Some operation → operation < count → Says h reply (request_of operation)
    → (frame : Frame) → frame ≡ reply → FrameStands h request_of count frame
reply_stands h request_of count reply operation names is_started says frame is_reply =
    subst (λ f. FrameStands h request_of count f) (sym is_reply) (frame_stands h request_of count reply operation (request_of operation) names is_started refl says)

-- Two decided configurations of one number are one: so a decided one of a node's number is the one that it has joined.
pub joined_is : {setting : Setting} {Earlier : Fact → Type 0} {before : System} (sound : Sound setting Earlier before) (node : ℕ) (configuration : Configuration) → sound.known (WasDecided configuration)
    → configuration.number ≡ (before.nodes node).number → configuration ≡ sound.joined node
joined_is sound node configuration decided same_number =
    let joined = sound.invariant.nodes node in
    sound.invariant.one_for_each_number configuration (sound.joined node) decided joined.decided (same_number ∙ sym joined.matches.number)

-- Proposals that are there stay as they are, and so do decisions.
pub record ProposalsLast (before after : System) : Type 0 where
  pub count : before.proposals.count ≤ after.proposals.count
  pub rows : (proposal : ℕ) → proposal < before.proposals.count → after.proposals.row proposal ≡ before.proposals.row proposal
  pub decisions : (number proposal : ℕ) → before.decisions number ≡ Some proposal → after.decisions number ≡ Some proposal

module _ {setting : Setting} {Earlier : Fact → Type 0} {before : System} (sound : Sound setting Earlier before) (after : System) (joined : ℕ → Configuration) (new : Fact) where
  -- What was decided in the system is decided in it still.
  still_decided_in : ProposalsLast before after → (configuration : Configuration) → (configuration ≡ first_of setting) ⊎ DecidedIn before configuration
      → (configuration ≡ first_of setting) ⊎ DecidedIn after configuration
  still_decided_in last configuration (inl first) = inl first
  still_decided_in last configuration (inr old) =
      inr
      (record {
        number = old.number;
        proposal = old.proposal;
        follows = old.follows;
        decision = last.decisions old.number old.proposal old.decision;
        is_there = omega (arith, old.is_there, last.count);
        here = last.rows old.proposal old.is_there ∙ old.here;
      })

  -- Proposals stand after a move if they last, a new one is known to be proposed, and a new decision to be decided.
  pub proposals_stand : ProposalsLast before after
      → ((proposal : ℕ) → proposal < after.proposals.count → before.proposals.count ≤ proposal → with_fact sound.known new (WasProposed (after.proposals.row proposal)))
      → ((number proposal : ℕ) → IsDecided after number proposal → IsDecided before number proposal ⊎ with_fact sound.known new (WasDecided (after.proposals.row proposal)))
      → ((configuration : Configuration) → WasDecided configuration ≡ new → DecidedIn after configuration)
      → ProposalsStand setting after (history_of after joined (with_fact sound.known new))
  proposals_stand last new_rows new_decisions new_found = record {
    proposed = λ proposal there. proposed proposal there (dec_lt proposal before.proposals.count);
    decided = λ number proposal decides. decided number proposal (new_decisions number proposal decides);
    back = back;
  }
    where
      proposed : (proposal : ℕ) → proposal < after.proposals.count → Dec (proposal < before.proposals.count) → with_fact sound.known new (WasProposed (after.proposals.row proposal))
      proposed proposal there (yes old) = inl (subst (λ c. sound.known (WasProposed c)) (sym (last.rows proposal old)) (sound.proposals.proposed proposal old))
      proposed proposal there (no is_new) = new_rows proposal there (omega arith)

      decided : (number proposal : ℕ) → IsDecided before number proposal ⊎ with_fact sound.known new (WasDecided (after.proposals.row proposal)) → with_fact sound.known new (WasDecided (after.proposals.row proposal))
      decided number proposal (inr known) = known
      decided number proposal (inl old) = inl (subst (λ c. sound.known (WasDecided c)) (sym (last.rows proposal old.is_there)) (sound.proposals.decided number proposal old))

      back : (configuration : Configuration) → with_fact sound.known new (WasDecided configuration) → (configuration ≡ first_of setting) ⊎ DecidedIn after configuration
      back configuration (inl known) = still_decided_in last configuration (sound.proposals.back configuration known)
      back configuration (inr is_new) = inr (new_found configuration is_new)

  -- So they do where none is new, and nothing is decided.
  pub proposals_stay : is_decision new ≡ false → RowsChanged Kept before.proposals after.proposals → Changed Same before.decisions after.decisions
      → ProposalsStand setting after (history_of after joined (with_fact sound.known new))
  proposals_stay no_decision kept same =
      proposals_stand (record { count = omega (arith, kept.0); rows = λ proposal old. kept.1 proposal; decisions = λ number proposal decision. same number ∙ decision })
      (λ proposal there is_new. absurd (omega (arith, kept.0)))
      (λ number proposal decides.
      inl
      (record {
        decision = sym (same number) ∙ decides.decision;
        is_there = omega (arith, decides.is_there, kept.0);
        follows = ap (λ c. c.number) (sym (kept.1 proposal)) ∙ decides.follows;
      }))
      (λ configuration is_new. absurd (not_both (is_decision new) (sym (ap is_decision is_new)) no_decision))

-- What a move has to show that starts nothing, decides nothing, and by which nobody joins.
pub record PlainlyShown {setting : Setting} {Earlier : Fact → Type 0} {before : System} (sound : Sound setting Earlier before) (after : System) (effect : Effect) (fact : Fact) : Type 0 where
  pub justified : Justified setting (history sound) (history_after sound after fact) fact
  pub nodes : NodesOwed setting (history sound) (history_after sound after fact) effect.node
  pub rows : RowsOwed setting before (history_after sound after fact) sound.request effect.operation
  pub frames : (frame : Frame) → Sent effect.sends frame → FrameStands (history_after sound after fact) sound.request after.operations.count frame

pub plain_move : {setting : Setting} {Earlier : Fact → Type 0} {before : System} (sound : Sound setting Earlier before) (after : System) (effect : Effect) (fact : Fact) → is_start fact ≡ false → is_decision fact ≡ false
    → After effect before after → RowsChanged Kept before.proposals after.proposals → Changed Same before.decisions after.decisions
    → PlainlyShown sound after effect fact → ShownMove setting Earlier before after sound
plain_move sound after effect fact no_start no_decision change kept same shown = record {
  effect = effect;
  change = change;
  fact = fact;
  joined = sound.joined;
  request = sound.request;
  justified = shown.justified;
  nodes = shown.nodes;
  requests_kept = λ index old. refl;
  rows = shown.rows;
  started = not_started fact no_start;
  frames = shown.frames;
  proposals = proposals_stay sound after sound.joined fact no_decision kept same;
}
