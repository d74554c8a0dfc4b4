-- One lemma for all moves: what a move has to show of what is new, and that the system after it is then sound.
use Rattle.std.proofs.Common.{◌≡◌, ℕ, suc, ◌<◌, ◌≤◌, Bool, true, false, if◌then◌else◌, ◌≢◌, ◌⊎◌, sym, refl, ap, ◌∙◌, subst, subst₂, inl, inr, arith}
use native.Mathlib.Decide.{ℕ_discrete}
use Rattle.protocol.specs.State.{Configuration, Node, Operation, Frame, System, UnderWay, Setting}
use Rattle.protocol.specs.Effects.{Change, Same, Becomes, RowChange, Kept, RowBecomes, Added, Effect, Changed, RowsChanged, Sent, After}
use Rattle.protocol.proofs.History.{Request, Fact, WasStarted, History, position, Justified, Matches, NodeStep, Step}
use Rattle.protocol.proofs.Invariant.{Invariant}
use Rattle.protocol.proofs.InvariantKept.{invariant_kept}
use Rattle.protocol.proofs.Standing.{history_of, history, with_fact, RowStands, FoundIn, FrameStands, ProposalsStand, Sound, row_lasts, says_lasts}

-- What a move shows of the nodes: none changes, or one does, and it takes a step.
abbrev pub NodesOwed : Setting → History → History → Change Node → Type 0
NodesOwed setting h h' Same = (node : ℕ) → h'.joined node ≡ h.joined node
NodesOwed setting h h' (Becomes node new) = ((other : ℕ) → other ≢ node → h'.joined other ≡ h.joined other) × NodeStep setting h h' node

-- What a move shows of the rows: one that changes keeps its kind, and it stands for its request; so does one that is added.
abbrev pub RowsOwed : Setting → System → History → (ℕ → Request) → RowChange Operation → Type 0
RowsOwed setting before h' request_of Kept = Unit {0}
RowsOwed setting before h' request_of (RowBecomes index row) = (row.kind ≡ (before.operations.row index).kind) × RowStands setting h' index row (request_of index)
RowsOwed setting before h' request_of (Added row) = RowStands setting h' before.operations.count row (request_of before.operations.count)

-- A move, with what it shows: the one fact that it establishes, why that may be, and what the changed node, row, frames and proposals stand for.
pub record ShownMove (setting : Setting) (Earlier : Fact → Type 0) (before after : System) (sound : Sound setting Earlier before) : Type 1 where
  pub effect : Effect
  pub change : After effect before after
  pub fact : Fact
  pub joined : ℕ → Configuration
  pub request : ℕ → Request
  pub justified : Justified setting (history sound) (history_of after joined (with_fact sound.known fact)) fact
  pub nodes : NodesOwed setting (history sound) (history_of after joined (with_fact sound.known fact)) effect.node
  pub requests_kept : (index : ℕ) → index < before.operations.count → request index ≡ sound.request index
  pub rows : RowsOwed setting before (history_of after joined (with_fact sound.known fact)) request effect.operation
  pub started : (new : Request) → WasStarted new ≡ fact → FoundIn after request new
  pub frames : (frame : Frame) → Sent effect.sends frame → FrameStands (history_of after joined (with_fact sound.known fact)) request after.operations.count frame
  pub proposals : ProposalsStand setting after (history_of after joined (with_fact sound.known fact))

-- A node that does not change takes a step, for all that it keeps.
pub unchanged_node_steps : (setting : Setting) (h h' : History) → Invariant setting h → (node : ℕ) → h'.nodes node ≡ h.nodes node → h'.joined node ≡ h.joined node → NodeStep setting h h' node
unchanged_node_steps setting h h' invariant node same same_joined = record {
  matches = subst₂ (λ n c. Matches n c) (sym same) (sym same_joined) (invariant.nodes node).matches;
  position_grows = omega (arith, ap position same);
  stored_grows = omega (arith, ap (λ n. n.stored.tag) same);
  newest_grows = omega (arith, ap (λ n. n.newest) same);
  stored = inl (ap (λ n. n.stored) same);
  move = inl (record { joined = same_joined; served_grows = omega (arith, ap (λ n. n.served.tag) same); served = inl (ap (λ n. n.served) same) });
}

tick_grows : (ticks : Bool) (moment : ℕ) → moment ≤ (if ticks then suc moment else moment)
tick_grows true moment = omega arith
tick_grows false moment = omega arith

module _ {setting : Setting} {Earlier : Fact → Type 0} {before after : System} {sound : Sound setting Earlier before} (shown : ShownMove setting Earlier before after sound) where
  abbrev h : History
  h = history_of before sound.joined sound.known

  abbrev h' : History
  h' = history_of after shown.joined (with_fact sound.known shown.fact)

  -- the moment stays or is raised by one
  moment_grows : before.moment ≤ after.moment
  moment_grows = omega (arith, shown.change.moment, tick_grows shown.effect.ticks before.moment)

  -- the node that changes takes the step that was shown, the others stay
  node_steps : (node : ℕ) → NodeStep setting h h' node
  node_steps node = go shown.effect.node shown.change.nodes shown.nodes
    where
      go : (change : Change Node) → Changed change before.nodes after.nodes → NodesOwed setting h h' change → NodeStep setting h h' node
      go Same same owed = unchanged_node_steps setting h h' sound.invariant node (same node) (owed node)
      go (Becomes changed new) one owed = at (ℕ_discrete node changed)
        where
          at : Dec (node ≡ changed) → NodeStep setting h h' node
          at (yes it) = subst (λ n. NodeStep setting h h' n) (sym it) owed.1
          at (no other) = unchanged_node_steps setting h h' sound.invariant node (one.elsewhere node other) (owed.0 node other)

  -- The one new fact is justified, and each node takes a step.
  step : Step setting h h'
  step = record {
    fact = shown.fact;
    grows = λ fact known. inl known;
    only = λ fact known. known;
    justified = shown.justified;
    moment_grows = moment_grows;
    node = node_steps;
  }

  -- no row is shown away
  count_grows : before.operations.count ≤ after.operations.count
  count_grows = go shown.effect.operation shown.change.operations
    where
      go : (change : RowChange Operation) → RowsChanged change before.operations after.operations → before.operations.count ≤ after.operations.count
      go Kept kept = omega (arith, kept.0)
      go (RowBecomes index row) turned = omega (arith, turned.0)
      go (Added row) added = omega (arith, added.count)

  -- an old row that is as it was stands for its old request
  row_stays : (index : ℕ) → index < before.operations.count → after.operations.row index ≡ before.operations.row index
      → RowStands setting h' index (after.operations.row index) (shown.request index)
  row_stays index old same =
      subst₂ (λ row request. RowStands setting h' index row request) (sym same) (sym (shown.requests_kept index old))
      (row_lasts h h' (λ fact known. inl known) setting index (before.operations.row index) (sound.request index) (sound.rows index old))

  -- The row that changes was shown; the others stand as they stood.
  rows : (index : ℕ) → index < after.operations.count → RowStands setting h' index (after.operations.row index) (shown.request index)
  rows index there = go shown.effect.operation shown.change.operations shown.rows
    where
      go : (change : RowChange Operation) → RowsChanged change before.operations after.operations → RowsOwed setting before h' shown.request change
          → RowStands setting h' index (after.operations.row index) (shown.request index)
      go Kept kept owed = row_stays index (omega (arith, kept.0)) (kept.1 index)
      go (RowBecomes turned row) change owed = at (ℕ_discrete index turned)
        where
          at : Dec (index ≡ turned) → RowStands setting h' index (after.operations.row index) (shown.request index)
          at (yes it) =
              subst (λ i. RowStands setting h' i (after.operations.row i) (shown.request i)) (sym it)
              (subst (λ r. RowStands setting h' turned r (shown.request turned)) (sym change.1.here) owed.1)
          at (no other) = row_stays index (omega (arith, change.0)) (change.1.elsewhere index other)
      go (Added row) change owed = at (ℕ_discrete index before.operations.count)
        where
          at : Dec (index ≡ before.operations.count) → RowStands setting h' index (after.operations.row index) (shown.request index)
          at (yes it) =
              subst (λ i. RowStands setting h' i (after.operations.row i) (shown.request i)) (sym it)
              (subst (λ r. RowStands setting h' before.operations.count r (shown.request before.operations.count)) (sym change.here) owed)
          at (no other) = let old : index < before.operations.count = omega (arith, change.count) in row_stays index old (change.elsewhere index old)

  -- no row changes its kind
  kind_stays : (index : ℕ) → index < before.operations.count → (after.operations.row index).kind ≡ (before.operations.row index).kind
  kind_stays index old = go shown.effect.operation shown.change.operations shown.rows
    where
      go : (change : RowChange Operation) → RowsChanged change before.operations after.operations → RowsOwed setting before h' shown.request change
          → (after.operations.row index).kind ≡ (before.operations.row index).kind
      go Kept kept owed = ap (λ r. r.kind) (kept.1 index)
      go (RowBecomes turned row) change owed = at (ℕ_discrete index turned)
        where
          at : Dec (index ≡ turned) → (after.operations.row index).kind ≡ (before.operations.row index).kind
          at (yes it) = subst (λ i. (after.operations.row i).kind ≡ (before.operations.row i).kind) (sym it) (ap (λ r. r.kind) change.1.here ∙ owed.0)
          at (no other) = ap (λ r. r.kind) (change.1.elsewhere index other)
      go (Added row) change owed = ap (λ r. r.kind) (change.elsewhere index old)

  -- an old request is found where it was, a new one where the move says
  back : (started : Request) → h'.known (WasStarted started) → FoundIn after shown.request started
  back started (inr new) = shown.started started new
  back started (inl old) =
      let found = sound.back started old in
      record {
        operation = found.operation;
        is_started = omega (arith, found.is_started, count_grows);
        here = shown.requests_kept found.operation found.is_started ∙ found.here;
        kind = kind_stays found.operation found.is_started ∙ found.kind;
      }

  -- A frame was sent now, or stood before, and its row is still there.
  frames : (frame : Frame) → UnderWay frame after → FrameStands h' shown.request after.operations.count frame
  frames frame there = go (shown.change.frames frame there)
    where
      go : UnderWay frame before ⊎ Sent shown.effect.sends frame → FrameStands h' shown.request after.operations.count frame
      go (inr sent) = shown.frames frame sent
      go (inl old) =
          let stands = sound.frames frame old in
          record {
            request = stands.request;
            at = λ operation names. let (is_started, here) = stands.at operation names in (omega (arith, is_started, count_grows), shown.requests_kept operation is_started ∙ here);
            says = says_lasts h h' (λ fact known. inl known) frame stands.request stands.says;
          }

  -- The system after a move is sound.
  pub sound_after : Sound setting Earlier after
  sound_after = record {
    joined = shown.joined;
    request = shown.request;
    known = with_fact sound.known shown.fact;
    earlier = λ fact was. inl (sound.earlier fact was);
    invariant = invariant_kept setting h h' sound.invariant step;
    rows = rows;
    back = back;
    frames = frames;
    proposals = shown.proposals;
  }

  -- And what the move establishes is known.
  pub fact_is_known : sound_after.known shown.fact
  unfolding sound_after
  fact_is_known = inr refl
