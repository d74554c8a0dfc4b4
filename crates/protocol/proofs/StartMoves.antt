-- The moves by which an operation starts.
use Rattle.std.proofs.Common.{◌≡◌, ℕ, suc, ◌<◌, Bool, true, false, if◌then◌else◌, List, Some, sym, refl, ap, ◌∙◌, subst, inl, inr, arith}
use Rattle.protocol.specs.State.{Content, Copy, Kind, Read, Write, Regroup, Open, Answered, Operation, Frame, Get, Freeze, Put, System, Setting, first_of, node_at, primary, tag_of}
use Rattle.protocol.specs.Effects.{ToEach, OneAdded, Sent, After}
use Rattle.protocol.specs.Conditions.{Leads}
use Rattle.protocol.specs.Changes.{with_next_version, starting, written, read_starts, write_starts, regroup_starts}
use Rattle.protocol.proofs.History.{Request, Fact, WasStarted, NoFact, NewStart}
use Rattle.protocol.proofs.Lasting.{genuine_lasts}
use Rattle.protocol.proofs.Standing.{history, history_after, StandsAs, RowStands, Says, named, FrameStands, FoundIn, Sound}
use Rattle.protocol.proofs.NodeSteps.{keeps_status, keeps_place, freezes_in_place}
use Rattle.protocol.proofs.SoundAfter.{ShownMove}
use Rattle.protocol.proofs.Shared.{replaced, replaced_here, replaced_elsewhere, not_both, not_started, frame_stands, proposals_stay}

not_answered : Open ≡ Answered → ⊥
not_answered same = cc

module _ {setting : Setting} {Earlier : Fact → Type 0} {before : System} (sound : Sound setting Earlier before) where
  -- the request of an operation that starts at a node
  abbrev starting_request : Bool → ℕ → Copy → Request
  starting_request writes node copy =
      record { operation = before.operations.count; writes = writes; node = node; configuration = sound.joined node; copy = copy; start = suc before.moment }

  abbrev requests_with : Request → ℕ → Request
  requests_with request = replaced sound.request before.operations.count request

  old_requests_stay : (request : Request) (index : ℕ) → index < before.operations.count → requests_with request index ≡ sound.request index
  old_requests_stay request index old = replaced_elsewhere sound.request before.operations.count request index (omega arith)

module _ {setting : Setting} {Earlier : Fact → Type 0} {before : System} (sound : Sound setting Earlier before) (after : System) where
  -- The frame to each member is about the request that starts.
  first_frames : {row : Operation} (fact : Fact) (request : Request) (members : List ℕ) (frame_to : ℕ → Frame) → OneAdded before.operations after.operations row
      → ((member : ℕ) → named (frame_to member) ≡ Some before.operations.count) → ((member : ℕ) → Says (history_after sound after fact) (frame_to member) request)
      → (frame : Frame) → Sent (ToEach members frame_to) frame → FrameStands (history_after sound after fact) (requests_with sound request) after.operations.count frame
  first_frames fact request members frame_to added names says frame sent =
      let member = node_at members sent.0 in
      subst (λ f. FrameStands (history_after sound after fact) (requests_with sound request) after.operations.count f) (sym sent.2)
      (frame_stands (history_after sound after fact) (requests_with sound request) after.operations.count (frame_to member) before.operations.count request (names member) (omega (arith, added.count))
      (replaced_here sound.request before.operations.count request) (says member))

  -- A read or a write that starts is found in its new row.
  found_in_new_row : {row : Operation} (request : Request) → OneAdded before.operations after.operations row → row.kind ≡ (if request.writes then Write else Read)
      → (new : Request) → WasStarted new ≡ WasStarted request → FoundIn after (requests_with sound request) new
  found_in_new_row request added kind new same =
      let is_new : request ≡ new = cc in
      record {
        operation = before.operations.count;
        is_started = omega (arith, added.count);
        here = replaced_here sound.request before.operations.count request ∙ is_new;
        kind = ap (λ r. r.kind) added.here ∙ kind ∙ ap (λ r. if r.writes then Write else Read) is_new;
      }

  -- A row that starts stands for its request, if it does so by its kind: it begins under the number of the configuration that its node has joined.
  new_row_stands : (fact : Fact) (kind : Kind) (writes : Bool) (node : ℕ) (copy : Copy) (members : List ℕ) (wrote : Copy)
      → StandsAs setting (history_after sound after fact) (starting before kind node copy members) (starting_request sound writes node wrote) kind
      → RowStands setting (history_after sound after fact) before.operations.count (starting before kind node copy members) (requests_with sound (starting_request sound writes node wrote) before.operations.count)
  new_row_stands fact kind writes node copy members wrote by_kind =
      let request = starting_request sound writes node wrote in
      subst (λ r. RowStands setting (history_after sound after fact) before.operations.count (starting before kind node copy members) r)
      (sym (replaced_here sound.request before.operations.count request))
      (record { same_operation = refl; same_node = refl; same_number = (sound.invariant.nodes node).matches.number; same_start = refl; by_kind = by_kind })

  -- Who leads is the primary of the configuration that it has joined, and may start a request under that.
  may_start : (node : ℕ) (writes : Bool) (copy : Copy) → Leads node (before.nodes node) → after.moment ≡ suc before.moment
      → (writes ≡ true → copy.tag ≡ tag_of (suc (before.nodes node).newest) node) → (writes ≡ true → (after.nodes node).newest ≡ suc (before.nodes node).newest)
      → NewStart (history sound) (history_after sound after (WasStarted (starting_request sound writes node copy))) (starting_request sound writes node copy)
  may_start node writes copy leads ticks tag newest = record {
    now = refl;
    ticks = ticks;
    under = refl;
    is_primary = leads.is_primary ∙ ap primary (sym (sound.invariant.nodes node).matches.members);
    below_32 = leads.below_32;
    tag = tag;
    newest = newest;
  }

  -- A read starts at the primary of the configuration that its node has joined.
  pub start_read : {node : ℕ} → Leads node (before.nodes node)
      → After (read_starts before node) before after
      → ShownMove setting Earlier before after sound
  start_read {node} leads change =
      let request = starting_request sound false node (first_of setting).copy in
      let matches = (sound.invariant.nodes node).matches in
      record {
        effect = read_starts before node;
        change = change;
        fact = WasStarted request;
        joined = sound.joined;
        request = requests_with sound request;
        justified = may_start node false (first_of setting).copy leads change.moment (λ writes. absurd (not_both false writes refl)) (λ writes. absurd (not_both false writes refl));
        nodes = λ other. refl;
        requests_kept = old_requests_stay sound request;
        rows =
            new_row_stands (WasStarted request) Read false node (before.nodes node).served (before.nodes node).members (first_of setting).copy
            (record { started = inr refl; reads = refl; acknowledged = λ place in_set. absurd (not_both false in_set refl); answered = λ answered. absurd (not_answered answered) });
        started = found_in_new_row request change.operations refl;
        frames =
            first_frames (WasStarted request) request (before.nodes node).members (λ member. Get member node (before.nodes node).number before.operations.count) change.operations
            (λ member. refl) (λ member. (inr refl, refl, matches.number));
        proposals = proposals_stay sound after sound.joined (WasStarted request) refl change.proposals change.decisions;
      }

  -- A write starts there, under the next version of its node.
  pub start_write : {node : ℕ} {content : Content} → Leads node (before.nodes node)
      → After (write_starts before node content) before after
      → ShownMove setting Earlier before after sound
  start_write {node} {content} leads change =
      let copy = written before node content in
      let request = starting_request sound true node copy in
      let matches = (sound.invariant.nodes node).matches in
      record {
        effect = write_starts before node content;
        change = change;
        fact = WasStarted request;
        joined = sound.joined;
        request = requests_with sound request;
        justified = may_start node true copy leads change.moment (λ writes. omega arith) (λ writes. omega (arith, ap (λ n. n.newest) change.nodes.here));
        nodes = (
          λ other is_other. refl,
          keeps_place setting (history sound) (history_after sound after (WasStarted request)) node (with_next_version (before.nodes node)) change.nodes.here matches refl
              (keeps_status (omega arith))
              (omega arith) (inl refl) (omega arith) (inl refl),
        );
        requests_kept = old_requests_stay sound request;
        rows =
            new_row_stands (WasStarted request) Write true node copy (before.nodes node).members copy
            (record {
              started = inr refl;
              writes = refl;
              copy = refl;
              acknowledged = λ place in_set. absurd (not_both false in_set refl);
              answered = λ answered. absurd (not_answered answered);
            });
        started = found_in_new_row request change.operations refl;
        frames =
            first_frames (WasStarted request) request (before.nodes node).members (λ member. Put member node (before.nodes node).number before.operations.count copy) change.operations
            (λ member. refl) (λ member. (inr refl, refl, matches.number, refl));
        proposals = proposals_stay sound after sound.joined (WasStarted request) refl change.proposals change.decisions;
      }

  -- A regroup starts: its node has frozen. No fact is new: what counts is what will be held out to it.
  pub start_regroup : (node : ℕ) (new_members : List ℕ)
      → After (regroup_starts before node new_members) before after
      → ShownMove setting Earlier before after sound
  start_regroup node new_members change =
      let request = starting_request sound false node (first_of setting).copy in
      let stands = sound.invariant.nodes node in
      record {
        effect = regroup_starts before node new_members;
        change = change;
        fact = NoFact;
        joined = sound.joined;
        request = requests_with sound request;
        justified = tt;
        nodes = (λ other is_other. refl, freezes_in_place setting (history sound) (history_after sound after NoFact) node change.nodes.here stands.matches refl);
        requests_kept = old_requests_stay sound request;
        rows =
            new_row_stands NoFact Regroup false node (before.nodes node).served new_members (first_of setting).copy
            (record {
              decided = inl stands.decided;
              each = λ place in_set. absurd (not_both false in_set refl);
              genuine = genuine_lasts (λ fact known. inl known) setting stands.served_genuine;
              above_opening = stands.served_above_opening;
              not_answered = not_answered;
            });
        started = not_started NoFact refl;
        frames =
            first_frames NoFact request (before.nodes node).members (λ member. Freeze member node (before.nodes node).number before.operations.count) change.operations
            (λ member. refl) (λ member. (inl stands.decided, stands.matches.number));
        proposals = proposals_stay sound after sound.joined NoFact refl change.proposals change.decisions;
      }
