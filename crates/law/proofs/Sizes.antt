-- No call on an open floor changes the length of a table, so tables that are served once are served from then on.
use Rattle.std.proofs.Common.{◌≡◌, ℕ, zero, suc, ◌<◌, ◌≤◌, Bool, true, false, List, [], ◌∷◌, length, Option, Some, None, Result, Ok, Err, refl, ap, sym, subst, slice_get, slice_set, length-set, take, if◌then◌else◌}
use Rattle.std.specs.Prelude.{nat_lt, ◌==◌, not, ◌&&◌, replicate}
use Rattle.std.specs.Option.{IfSome}
use Rattle.std.proofs.lemmas.Bool.{ltb-true, and_parts}
use Rattle.calls.specs.declared.call.Answer.{Answer}
use Rattle.calls.specs.declared.call.Call.{Call}
use Rattle.calls.specs.declared.call.Call.TheVariants.{Open, Read, Write, Regroup, Propose, Settle, Work, Deliver, Lose, GiveUp, Stop, Look}
use Rattle.chooser.specs.Meaning.{Decisions, decision_at}
use Rattle.chooser.specs.Meaning as chooser
use Rattle.content.specs.Bytes.{widest}
use Rattle.delivery.specs.Delivery.{number, may_deliver, delivering}
use Rattle.desk.specs.Asking.{served}
use Rattle.desk.specs.declared.desk.Desk.{Desk}
use Rattle.desk.specs.Ending.{may_give_up, giving_up, frame_lost, losing, may_stop, stopping}
use Rattle.desk.specs.LawfulTables.{LawfulTables}
use Rattle.desk.specs.Tables.{Tables}
use Rattle.fault.specs.declared.Fault.{Fault}
use Rattle.fault.specs.declared.Fault.TheVariants.{NotProposed}
use Rattle.floor.specs.State.{State}
use Rattle.floor.specs.Steps.{leaving, leaving_tables}
use Rattle.handover.specs.Proposing.{may_propose, offered, Proposing}
use Rattle.handover.specs.Settling.{of_number, named, slots_left, update_letter, may_settle, settling}
use Rattle.node.specs.declared.plan.Plan.{Plan}
use Rattle.node.specs.declared.plan.Reply.{Reply}
use Rattle.node.specs.declared.plan.RowPlan.{RowPlan}
use Rattle.node.specs.Applying.{with_record, with_row, with_reply}
use Rattle.refusal.specs.declared.Refusal.TheVariants.{NoSlot}
use Rattle.frame.specs.Limits.{slot_size}
use Rattle.writer.specs.Table.{slots, replaced}
use Rattle.tables.specs.Members.{listed}
use Rattle.law.specs.Runs.{Parts, Step, telling, told, number_told, zero_told}
use Rattle.law.proofs.DeliverSteps.{deliver_passes}
use Rattle.law.proofs.FramesFit.{BodyFits, letter_fills}
use Rattle.law.proofs.OpenSteps.{opening_refused}
use Rattle.law.proofs.Outcomes.{Outcome, state_of}
use Rattle.law.proofs.Passing.{and_then_passes, result_and_passes, test_passes}
use Rattle.law.proofs.Planned.{ReplyFits, planned_rows}
use Rattle.law.proofs.RowsSaid.{if_some}
use Rattle.quorum.specs.Limits.{largest_group}
use Rattle.law.proofs.StartSteps.{read_passes, write_passes, regroup_passes}
use Rattle.slots.proofs.Replaced.{replaced_length}
use Rattle.slots.proofs.Sending.{sent_length}
use Rattle.slots.specs.declared.letter.Letter.{Letter}
use Rattle.slots.specs.Slots.{is_empty, sent_to_each}
use Rattle.starts.specs.declared.start.Start.{Start}
use Rattle.starts.specs.Grounds.{taking_part, may_read, may_write, may_regroup}
use Rattle.starts.specs.Starts.{reading, starting}
use Rattle.tables.specs.declared.records.NodeRecord.{NodeRecord}
use Rattle.tables.specs.declared.records.OperationRow.{OperationRow}
use Rattle.tables.specs.declared.records.ProposalRow.{ProposalRow}
use Rattle.tables.specs.Lawful.{LawfulProposal}

-- the same lengths, and a desk that remembers the same
pub record SameSizes (desk : Desk) (t : Tables) (desk' : Desk) (t' : Tables) : Type 0 where
  pub openness : desk'.is_open ≡ desk.is_open
  pub lengths : desk'.lengths ≡ desk.lengths
  pub nodes : length t'.nodes ≡ length t.nodes
  pub operations : length t'.operations ≡ length t.operations
  pub frames : length t'.frames ≡ length t.frames
  pub proposals : length t'.proposals ≡ length t.proposals

-- what serves one serves the other
pub served_alike : (desk : Desk) (t : Tables) (desk' : Desk) (t' : Tables) → SameSizes desk t desk' t' → served desk t ≡ Ok tt → served desk' t' ≡ Ok tt
served_alike desk t desk' t' same serves = rw (same.openness, same.lengths, same.nodes, same.operations, same.frames, same.proposals) serves

with_record_length : (nodes : List NodeRecord) (node : ℕ) (found : NodeRecord) → length (with_record nodes node found) ≡ length nodes
with_record_length nodes zero found = refl
with_record_length nodes (suc place) found = length-set nodes place found

with_row_length : (rows : List OperationRow) (change : Option RowPlan) → length (with_row rows change) ≡ length rows
with_row_length rows (Some change) = length-set rows change.operation change.row
with_row_length rows None = refl

-- What each call leaves of a desk and tables, by what it asked first.
module _ (width : ℕ) (narrow : width ≤ widest) (desk : Desk) (t : Tables) where
  abbrev Same : Desk → Tables → Type 0
  Same desk' t' = SameSizes desk t desk' t'

  -- another frame table, of the same length
  with_frames : (frames : List ℕ) → length frames ≡ length t.frames → Same desk (record t { frames = frames })
  with_frames frames same = record { openness = refl; lengths = refl; nodes = refl; operations = refl; frames = same; proposals = refl }

  with_operation : (operation : ℕ) (row : OperationRow) → Same desk (record t { operations = slice_set t.operations operation row })
  with_operation operation row = record { openness = refl; lengths = refl; nodes = refl; operations = length-set t.operations operation row; frames = refl; proposals = refl }

  unchanged : Same desk t
  unchanged = record { openness = refl; lengths = refl; nodes = refl; operations = refl; frames = refl; proposals = refl }

  sent_sized : (receivers : List ℕ) (letter : Letter) → BodyFits letter.body → length (sent_to_each width t.frames receivers letter) ≡ length t.frames
  sent_sized receivers letter fits = sent_length width letter (letter_fills width narrow letter fits) receivers t.frames

  reading_sized : (may : Result Start Fault) → ((start : Start) → may ≡ Ok start → BodyFits start.letter.body) → Same (reading width desk t may).1 (reading width desk t may).2
  reading_sized (Ok start) fits = record {
    openness = refl;
    lengths = refl;
    nodes = refl;
    operations = length-set t.operations desk.operations_used start.row;
    frames = sent_sized (listed start.node.configuration.members) start.letter (fits start refl);
    proposals = refl;
  }
  reading_sized (Err fault) fits = unchanged

  starting_sized : (node : ℕ) (may : Result Start Fault) → ((start : Start) → may ≡ Ok start → BodyFits start.letter.body)
      → Same (starting width desk t node may).1 (starting width desk t node may).2
  starting_sized node (Ok start) fits = record {
    openness = refl;
    lengths = refl;
    nodes = with_record_length t.nodes node start.node;
    operations = length-set t.operations desk.operations_used start.row;
    frames = sent_sized (listed start.node.configuration.members) start.letter (fits start refl);
    proposals = refl;
  }
  starting_sized node (Err fault) fits = unchanged

  settling_sized : (node : ℕ) (may : Result ProposalRow Fault) → ((row : ProposalRow) → may ≡ Ok row → BodyFits (update_letter node row).body) → Same desk (settling width t node may).1
  settling_sized node (Ok row) fits = with_frames (sent_to_each width t.frames (listed row.members) (update_letter node row)) (sent_sized (listed row.members) (update_letter node row) (fits row refl))
  settling_sized node (Err fault) fits = unchanged

  lost_sized : (slot : ℕ) (test : Bool) → nat_lt slot (slots t.frames) && not (is_empty t.frames slot) ≡ test
      → Same desk (frame_lost t (if test then (Ok tt, replaced t.frames slot (replicate slot_size 0)) else (Err NoSlot, t.frames))).1
  lost_sized slot true met = with_frames _ (replaced_length t.frames (replicate slot_size 0) slot (ltb-true _ _ (and_parts _ _ met).0) refl)
  lost_sized slot false met = unchanged

  losing_sized : (slot : ℕ) (may : Result (Unit {0}) Fault) → Same desk (losing t slot may).1
  losing_sized slot (Ok _) = lost_sized slot (nat_lt slot (slots t.frames) && not (is_empty t.frames slot)) refl
  losing_sized slot (Err fault) = unchanged

  giving_up_sized : (operation : ℕ) (may : Result OperationRow Fault) → Same desk (giving_up t operation may).1
  giving_up_sized operation (Ok row) = with_operation operation _
  giving_up_sized operation (Err fault) = unchanged

  stopping_sized : (node : ℕ) (may : Result NodeRecord Fault) → Same desk (stopping t node may).1
  stopping_sized node (Ok found) = record { openness = refl; lengths = refl; nodes = with_record_length t.nodes node _; operations = refl; frames = refl; proposals = refl }
  stopping_sized node (Err fault) = unchanged

  offered_sized : (operation : ℕ) (row : OperationRow) (taken : chooser.Answer) → Same (offered desk t operation row taken).1 (offered desk t operation row taken).2
  offered_sized operation row (Ok _) = record {
    openness = refl;
    lengths = refl;
    nodes = refl;
    operations = length-set t.operations operation _;
    frames = refl;
    proposals = length-set t.proposals desk.proposals_used _;
  }
  offered_sized operation row (Err why) = unchanged

  reply_sized : (reply : Option Reply) → IfSome reply (λ r. BodyFits r.letter.body) → length (with_reply width t.frames reply) ≡ length t.frames
  reply_sized (Some reply) fits = sent_sized (reply.receiver ∷ []) reply.letter fits
  reply_sized None fits = refl

  delivering_sized : (may : Result (Option Plan) Fault) → ((plan : Plan) → may ≡ Ok (Some plan) → ReplyFits plan) → Same (delivering width desk t may).1 (delivering width desk t may).2
  delivering_sized (Ok (Some plan)) fits = record {
    openness = refl;
    lengths = refl;
    nodes = with_record_length t.nodes plan.receiver plan.node;
    operations = with_row_length t.operations plan.row;
    frames = reply_sized plan.reply (fits plan refl);
    proposals = refl;
  }
  delivering_sized (Ok None) fits = unchanged
  delivering_sized (Err fault) fits = unchanged

-- the row that is settled on is a used proposal
named_used : (desk : Desk) (proposals : List ProposalRow) (number : ℕ) (decision : Option ℕ) (row : ProposalRow) → named desk proposals number decision ≡ Ok row
    → (proposal : ℕ) × (proposal < desk.proposals_used) × (slice_get proposals proposal ≡ Some row)
named_used desk proposals number None row is = absurd (cc)
named_used desk proposals number (Some proposal) row is =
    let (below, found) = test_passes (nat_lt proposal desk.proposals_used) (of_number number (slice_get proposals proposal)) NotProposed row is in
    (proposal, ltb-true _ _ below, number_is (slice_get proposals proposal) found)
  where
    number_is : (found : Option ProposalRow) → of_number number found ≡ Ok row → found ≡ Some row
    number_is None is = absurd (cc)
    number_is (Some other) is = let (_, same) = test_passes (other.number == number) (Ok other) NotProposed row is in cc

settle_fits : {C : Type 0} (meaning : C → List ℕ) (decided : Decisions) (desk : Desk) (t : Tables) (node : ℕ) (row : ProposalRow) → LawfulTables meaning desk t
    → may_settle decided desk t node ≡ Ok row
    → BodyFits (update_letter node row).body
settle_fits meaning decided desk t node row lawful passes =
    let (_, _, takes) = result_and_passes (served desk t) _ row passes in
    let (found, _, rest) = and_then_passes (taking_part desk t.nodes node) _ row takes in
    let (named_row, is_named, last) = and_then_passes (named desk t.proposals found.configuration.number (decision_at decided found.configuration.number)) _ row rest in
    let (_, _, same) = result_and_passes (slots_left t.frames named_row) (Ok named_row) row last in
    let (proposal, used, there) = named_used desk t.proposals found.configuration.number (decision_at decided found.configuration.number) named_row is_named in
    let row_lawful = if_some (LawfulProposal meaning) (slice_get t.proposals proposal) named_row there (lawful.proposals_lawful proposal used) in
    let is : named_row ≡ row = cc in
    subst (λ (r : ProposalRow). length r.members.nodes ≡ largest_group) is row_lawful.members_lawful.seven

module _ {C Q S : Type 0} (parts : Parts C Q S) (narrow : parts.width ≤ widest) (before after : State Q S) (answer : Result Answer Fault) where
  abbrev Sized : Type 0
  Sized = SameSizes before.desk before.t after.desk after.t

  sized_by : (desk : Desk) (t : Tables) → after.desk ≡ desk → after.t ≡ t → SameSizes before.desk before.t desk t → Sized
  sized_by desk t same_desk same_tables same = subst (λ d. SameSizes before.desk before.t d after.t) (sym same_desk) (subst (λ u. SameSizes before.desk before.t desk u) (sym same_tables) same)

  -- from what is left of both, of the tables alone, or of neither
  by_both : {A : Type 0} (tells : Result A Fault → Result Answer Fault) (left : Result A Fault × Desk × Tables) → ◌≡◌ {A = Outcome Q S} (answer, after) (telling tells (leaving before left))
      → SameSizes before.desk before.t left.1 left.2 → Sized
  by_both tells left is same = sized_by left.1 left.2 (ap (λ s. s.desk) (state_of is)) (ap (λ s. s.t) (state_of is)) same

  by_tables : {A : Type 0} (tells : Result A Fault → Result Answer Fault) (left : Result A Fault × Tables)
      → ◌≡◌ {A = Outcome Q S} (answer, after) (telling tells (leaving_tables before left))
      → SameSizes before.desk before.t before.desk left.1 → Sized
  by_tables tells left is same = sized_by before.desk left.1 (ap (λ s. s.desk) (state_of is)) (ap (λ s. s.t) (state_of is)) same

  by_nothing : after.desk ≡ before.desk → after.t ≡ before.t → Sized
  by_nothing desk t = sized_by before.desk before.t desk t (unchanged parts.width narrow before.desk before.t)

  propose_sized : (operation : ℕ) (outcome : Result ℕ Fault) (may : Result OperationRow Fault)
      → Proposing parts.offering before.desk before.t before.chooser operation may (outcome, after.desk, after.t) after.chooser → Sized
  propose_sized operation outcome (Ok row) (taken, offers, is) =
      let left = offered before.desk before.t operation row taken in
      sized_by left.1 left.2 (ap (λ (o : Result ℕ Fault × Desk × Tables). o.1) is) (ap (λ (o : Result ℕ Fault × Desk × Tables). o.2) is)
      (offered_sized parts.width narrow before.desk before.t operation row taken)
  propose_sized operation outcome (Err fault) (is, asked) = by_nothing (ap (λ (o : Result ℕ Fault × Desk × Tables). o.1) is) (ap (λ (o : Result ℕ Fault × Desk × Tables). o.2) is)

  reply_fits : (slot : ℕ) (plan : Plan) → may_deliver parts.width parts.from_bytes (parts.winning before.rule) before.desk before.t slot ≡ Ok (Some plan) → ReplyFits plan
  reply_fits slot plan may =
      let passes = deliver_passes parts.width parts.from_bytes (parts.winning before.rule) before.desk before.t slot (Some plan) may in
      (planned_rows (parts.winning before.rule) passes.found (take before.desk.operations_used before.t.operations) before.desk.moment plan passes.message passes.plans).reply_fits

  pub sized : (call : Call C) → before.desk.is_open ≡ true → LawfulTables parts.meaning before.desk before.t → Step parts before call answer after → Sized
  sized (Open count members content) is_open lawful step =
      let refused = opening_refused parts before after answer is_open count members content step in
      by_nothing (ap (λ s. s.desk) refused.nothing) (ap (λ s. s.t) refused.nothing)
  sized (Read node) is_open lawful step =
      by_both number_told _ step
      (reading_sized parts.width narrow before.desk before.t (may_read before.desk before.t node) (λ start may. (read_passes parts.meaning before.desk before.t node start may).fits))
  sized (Write node content) is_open lawful step =
      by_both number_told _ step
      (starting_sized parts.width narrow before.desk before.t node (may_write before.desk before.t node (parts.meaning content))
      (λ start may. (write_passes parts.meaning before.desk before.t node content start may).fits))
  sized (Regroup node members) is_open lawful step =
      by_both number_told _ step
      (starting_sized parts.width narrow before.desk before.t node (may_regroup before.desk before.t node members)
      (λ start may. (regroup_passes parts.meaning before.desk before.t node members start may).fits))
  sized (Propose operation) is_open lawful (outcome, (proposes, rule), says) = propose_sized operation outcome (may_propose (parts.winning before.rule) before.desk before.t operation) proposes
  sized (Settle node) is_open lawful step =
      by_tables number_told _ step
      (settling_sized parts.width narrow before.desk before.t node (may_settle (parts.decided before.chooser) before.desk before.t node)
      (λ row may. settle_fits parts.meaning (parts.decided before.chooser) before.desk before.t node row lawful may))
  sized (Work number phase ballot set) is_open lawful (taken, (works, left), says) = by_nothing (ap (λ s. s.desk) left) (ap (λ s. s.t) left)
  sized (Deliver slot) is_open lawful step =
      by_both (told number) _ step
      (delivering_sized parts.width narrow before.desk before.t (may_deliver parts.width parts.from_bytes (parts.winning before.rule) before.desk before.t slot) (λ plan may. reply_fits slot plan may))
  sized (Lose slot) is_open lawful step = by_tables zero_told _ step (losing_sized parts.width narrow before.desk before.t slot (served before.desk before.t))
  sized (GiveUp operation) is_open lawful step = by_tables zero_told _ step (giving_up_sized parts.width narrow before.desk before.t operation (may_give_up before.desk before.t operation))
  sized (Stop node) is_open lawful step = by_tables zero_told _ step (stopping_sized parts.width narrow before.desk before.t node (may_stop before.desk before.t node))
  sized (Look operation) is_open lawful (says, left) = by_nothing (ap (λ s. s.desk) left) (ap (λ s. s.t) left)
