-- An effect follows a plan if it does to a system what the plan does to the tables. If it is allowed, too, then the protocol goes where the plan goes.
use Rattle.std.proofs.Common.{◌≡◌, ℕ, zero, suc, ◌<◌, ◌⊎◌, List, [], ◌∷◌, ◌++◌, Option, Some, None, refl, sym, ap, subst, ◌∙◌, inl, inr, arith}
use Rattle.std.specs.Option.{IfSome}
use Rattle.std.proofs.lemmas.Bool.{cases_eq}
use Rattle.chooser.specs.Meaning.{Decisions}
use Rattle.frame.proofs.Laws.{Laws}
use Rattle.frame.specs.Lawful.{Lawful}
use Rattle.slots.specs.Letters.{addressed}
use Rattle.tables.specs.declared.records.NodeRecord.{NodeRecord}
use Rattle.tables.specs.declared.records.OperationRow.{OperationRow}
use Rattle.tables.specs.declared.records.ProposalRow.{ProposalRow}
use Rattle.node.specs.declared.plan.Plan.{Plan}
use Rattle.node.specs.declared.plan.Reply.{Reply}
use Rattle.node.specs.declared.plan.RowPlan.{RowPlan}
use Rattle.node.specs.Applying.{with_record, with_row, with_reply}
use Rattle.desk.specs.declared.desk.Desk.{Desk}
use Rattle.desk.specs.Tables.{Tables}
use Rattle.delivery.specs.Delivery.{timed, applied}
use Rattle.protocol.proofs.Shared.{replaced, replaced_here, replaced_elsewhere}
use Rattle.protocol.specs.State.{Configuration, Node, Operation, Frame, Table, System, Setting}
use Rattle.protocol.specs.Effects as effects
use Rattle.protocol.specs.Effects.{Change, Same, Becomes, RowChange, Kept, RowBecomes, Sending, Nothing, Effect}
use Rattle.protocol.specs.Moves.{Allowed}
use Rattle.witness.proofs.Performing.{changed, rows_changed, frames_of, perform}
use Rattle.link.proofs.Moving.{by_one_move}
use Rattle.link.proofs.Represents.{LawfulFrames, Represents, GoesTo}
use Rattle.link.proofs.Standing.{NodesStand, RowsStand, FramesStand, LawfulToEach, record_becomes, row_becomes, frames_sent, sent_lawful}
use Rattle.link.proofs.Terms.{StandsFor, node_said, configuration_said, frame_said}

-- the receiver becomes what its record says, or it is that already
abbrev pub NodeFollows : ℕ → NodeRecord → (ℕ → Node) → Change Node → Type 0
NodeFollows receiver node before change = (change ≡ Becomes receiver (node_said node)) ⊎ ((change ≡ Same) × (before receiver ≡ node_said node))

-- the operation becomes what its row stands for, where a row is planned
abbrev pub RowFollows : Option RowPlan → Table Operation → RowChange Operation → Type 0
RowFollows (Some plan) before change = (operation : Operation) × StandsFor plan.row operation × (plan.operation < before.count) × (change ≡ RowBecomes plan.operation operation)
RowFollows None before change = change ≡ Kept

-- the reply is sent, where one is planned
abbrev pub ReplyFollows : ℕ → Option Reply → Sending → Type 0
ReplyFollows width (Some reply) sends = sends ≡ effects.Reply (frame_said (addressed width reply.letter reply.receiver))
ReplyFollows width None sends = sends ≡ Nothing

pub record Follows (width : ℕ) (plan : Plan) (before : System) (effect : Effect) : Type 0 where
  pub node : NodeFollows plan.receiver plan.node before.nodes effect.node
  pub operation : RowFollows plan.row before.operations effect.operation
  pub proposal : effect.proposal ≡ Kept
  pub decision : effect.decision ≡ Same
  pub sends : ReplyFollows width plan.reply effect.sends

-- to replace a value by itself changes nothing
replaced_by_itself : {A : Type 0} (values : ℕ → A) (index other : ℕ) → replaced values index (values index) other ≡ values other
replaced_by_itself values index other = elim (cases_eq other index) [
  | inl same ↦ ap (replaced values index (values index)) same ∙ replaced_here values index (values index) ∙ ap values (sym same)
  | inr apart ↦ replaced_elsewhere values index (values index) other apart
]

nodes_follow : (count receiver : ℕ) (nodes : List NodeRecord) (node : NodeRecord) (before : ℕ → Node) (change : Change Node) → NodeFollows receiver node before change → NodesStand count nodes before
    → NodesStand count (with_record nodes receiver node) (changed change before)
nodes_follow count receiver nodes node before change (inl becomes) stand =
    subst (λ c. NodesStand count (with_record nodes receiver node) (changed c before)) (sym becomes) (record_becomes count receiver nodes before node (node_said node) refl stand)
nodes_follow count receiver nodes node before change (inr (same, is)) stand =
    let stands_itself = record_becomes count receiver nodes before node (before receiver) is stand in
    subst (λ c. NodesStand count (with_record nodes receiver node) (changed c before)) (sym same)
    (λ other found counted here. sym (replaced_by_itself before receiver other) ∙ stands_itself other found counted here)

-- as many rows are used as before, and each stands
record OperationsStand (used : ℕ) (rows : List OperationRow) (operations : Table Operation) : Type 0 where
  counted : operations.count ≡ used
  stand : RowsStand StandsFor used rows operations.row

rows_follow : (used : ℕ) (rows : List OperationRow) (plan : Option RowPlan) (before : Table Operation) (change : RowChange Operation) → RowFollows plan before change → OperationsStand used rows before
    → OperationsStand used (with_row rows plan) (rows_changed change before)
rows_follow used rows (Some plan) before change (operation, stands, started, is) stood =
    subst (λ c. OperationsStand used (with_row rows (Some plan)) (rows_changed c before)) (sym is)
    (record { counted = stood.counted; stand = row_becomes StandsFor used rows before.row stood.stand plan.row operation stands plan.operation (omega (arith, started, stood.counted)) })
rows_follow used rows None before change is stood = subst (λ c. OperationsStand used rows (rows_changed c before)) (sym is) stood

-- what can be read after a reply, if there is one that is lawful
module _ {C : Type 0} (width : ℕ) (meaning : C → List ℕ) (reads : List ℕ → Option C) (laws : Laws width meaning reads) (table : List ℕ) where
  abbrev LawfulReply : Option Reply → Type 0
  LawfulReply planned = IfSome planned (λ reply. Lawful meaning (addressed width reply.letter reply.receiver))

  to_one : (reply : Reply) → LawfulReply (Some reply) → LawfulToEach width meaning reads (reply.receiver ∷ []) reply.letter
  to_one reply lawful zero inside = lawful
  to_one reply lawful (suc place) inside = absurd (omega arith)

  frames_follow : (planned : Option Reply) (sends : Sending) (frames : List Frame) → ReplyFollows width planned sends → LawfulReply planned → FramesStand width meaning reads table frames
      → FramesStand width meaning reads (with_reply width table planned) (frames_of sends ++ frames)
  frames_follow (Some reply) sends frames is lawful stand =
      let receivers = reply.receiver ∷ [] in
      subst (λ s. FramesStand width meaning reads (with_reply width table (Some reply)) (frames_of s ++ frames)) (sym is)
      (frames_sent width meaning reads laws table reply.letter frames receivers receivers (λ receiver. frame_said (addressed width reply.letter receiver)) refl stand (to_one reply lawful) (λ receiver. refl))
  frames_follow None sends frames is lawful stand = subst (λ s. FramesStand width meaning reads table (frames_of s ++ frames)) (sym is) stand

  frames_stay_lawful : (planned : Option Reply) → LawfulReply planned → LawfulFrames width meaning reads table → LawfulFrames width meaning reads (with_reply width table planned)
  frames_stay_lawful (Some reply) lawful stand = sent_lawful width meaning reads laws table reply.letter (reply.receiver ∷ []) stand (to_one reply lawful)
  frames_stay_lawful None lawful stand = stand

-- A plan on tables that stand for a system; its reply, if it has one, is lawful.
module _ {C : Type 0} (width : ℕ) (meaning : C → List ℕ) (reads : List ℕ → Option C) (laws : Laws width meaning reads) (decided : Decisions) (desk : Desk) (t : Tables) (before : System)
    (represents : Represents width meaning reads decided desk t before) (plan : Plan) (reply_lawful : LawfulReply width meaning reads laws t.frames plan.reply) where
  abbrev ProposalsStand : Table Configuration → Type 0
  ProposalsStand proposals =
      (proposals.count ≡ desk.proposals_used) × RowsStand (λ (row : ProposalRow) configuration. configuration ≡ configuration_said row) desk.proposals_used t.proposals proposals.row

  follows_represents : (effect : Effect) → Follows width plan before effect → Represents width meaning reads decided (timed desk plan) (applied width t plan) (perform effect before)
  follows_represents effect follows =
      let operations = rows_follow desk.operations_used t.operations plan.row before.operations effect.operation follows.operation
      (record { counted = represents.operations_counted; stand = represents.operations }) in
      let proposals = subst (λ change. ProposalsStand (rows_changed change before.proposals)) (sym follows.proposal) (represents.proposals_counted, represents.proposals) in
      record {
        nodes = nodes_follow desk.node_count plan.receiver t.nodes plan.node before.nodes effect.node follows.node represents.nodes;
        operations_counted = operations.counted;
        operations = operations.stand;
        proposals_counted = proposals.0;
        proposals = proposals.1;
        decisions = λ number. ap (λ change. changed change before.decisions number) follows.decision ∙ represents.decisions number;
        frames = frames_follow width meaning reads laws t.frames plan.reply effect.sends before.frames follows.sends reply_lawful represents.frames;
        frames_lawful = frames_stay_lawful width meaning reads laws t.frames plan.reply reply_lawful represents.frames_lawful;
      }

  pub follows_goes : (setting : Setting) (effect : Effect) → Allowed setting before effect → Follows width plan before effect → GoesTo width meaning reads setting before decided (timed desk plan) (applied width t plan)
  follows_goes setting effect allowed follows = by_one_move setting effect allowed (follows_represents effect follows)
