-- The calls give up, stop and lose: the first two are moves, and losing a frame is none, for the protocol loses frames at any time.
use Rattle.std.proofs.Common.{◌≡◌, ℕ, ◌<◌, ◌&&◌, Bool, true, false, not, List, ◌∙◌, slice_get, slice_set, Option, Some, Result, Ok, Err, nat_lt, if◌then◌else◌, replicate, refl, ap, arith}
use Rattle.std.proofs.lemmas.Bool.Decides.{nat_tests}
use Rattle.chooser.specs.Meaning.{Decisions}
use Rattle.fault.specs.declared.Fault.{Fault}
use Rattle.fault.specs.declared.Fault.TheVariants as fault
use Rattle.frame.specs.Limits.{slot_size}
use Rattle.refusal.specs.declared.Refusal.TheVariants.{NoSlot}
use Rattle.writer.specs.Table.{slots, replaced}
use Rattle.slots.specs.Slots.{is_empty}
use Rattle.tables.specs.declared.records.NodeRecord.{NodeRecord}
use Rattle.tables.specs.declared.records.OperationRow.{OperationRow}
use Rattle.tables.specs.declared.records.OperationState.{OperationState}
use Rattle.tables.specs.declared.records.OperationState.TheVariants as state
use Rattle.node.specs.Applying.{with_record}
use Rattle.node.specs.Conditions.{is_open}
use Rattle.desk.specs.declared.desk.Desk.{Desk}
use Rattle.desk.specs.Tables.{Tables}
use Rattle.desk.specs.Asking.{served, started}
use Rattle.desk.specs.Ending as calls
use Rattle.desk.specs.Ending.{frame_lost, losing, lose_step, still_open, may_give_up, giving_up, give_up_step, may_stop, stop_step}
use Rattle.protocol.specs.State.{Open, System, Setting}
use Rattle.protocol.specs.Conditions.{IsOpen}
use Rattle.protocol.specs.Changes.{stopping, operation_given_up, node_stopped}
use Rattle.protocol.specs.Moves.{GiveUp, Stop, Now}
use Rattle.link.proofs.Terms.{StandsFor, stage_said}
use Rattle.link.proofs.Represents.{Represents, GoesTo}
use Rattle.link.proofs.Moving.{by_one_move}
use Rattle.link.proofs.NotRefused.{and_both, then_both, so, was_started, Runs, runs}
use Rattle.link.proofs.Sending.{read_before_loss}
use Rattle.link.proofs.Standing.{record_becomes, row_becomes, found_stands, at_stage_stands}

open_said : (state : OperationState) → is_open state ≡ true → stage_said state ≡ Open
open_said state.Open is = refl
open_said state.Answered is = absurd (cc)
open_said state.GivenUp is = absurd (cc)
open_said state.Proposed is = absurd (cc)

-- the row of a started operation that is open still
pub record OpenRow (desk : Desk) (t : Tables) (operation : ℕ) (row : OperationRow) : Type 0 where
  pub below : operation < desk.operations_used
  pub here : slice_get t.operations operation ≡ Some row
  pub is_open : is_open row.state ≡ true

pub open_row : (desk : Desk) (t : Tables) (operation : ℕ) (row found : OperationRow) → started desk t.operations operation ≡ Ok row → still_open row ≡ Ok found → OpenRow desk t operation found
open_row desk t operation row found asked asks =
    let (below, here) = was_started desk t.operations operation row asked in
    let (open_still, kept) = so (is_open row.state) (Ok row) fault.NotOpen found asks in
    let same : row ≡ found = cc in
    record { below = below; here = rw same at here; is_open = rw same at open_still }

module _ {C : Type 0} (width : ℕ) (meaning : C → List ℕ) (reads : List ℕ → Option C) (setting : Setting) (before : System) (decided : Decisions)
    (desk : Desk) (t : Tables) (stands : Represents width meaning reads decided desk t before) where
  -- what the calls come to
  abbrev Goes : Tables → Type 0
  Goes = GoesTo width meaning reads setting before decided desk

  module _ {operation : ℕ} {row : OperationRow} (found : OpenRow desk t operation row) where
    pub row_stands : StandsFor row (before.operations.row operation)
    row_stands = found_stands StandsFor desk.operations_used t.operations before.operations.row operation row stands.operations found.below found.here

    pub is_open_said : IsOpen before operation
    is_open_said = record { is_started = rw stands.operations_counted found.below; still_open = row_stands.same_stage ∙ open_said row.state found.is_open }

    given_up : Goes (record t { operations = slice_set t.operations operation (record row { state = state.GivenUp }) })
    given_up = by_one_move setting (operation_given_up before operation) (GiveUp operation is_open_said) (record {
      nodes = stands.nodes;
      operations_counted = stands.operations_counted;
      operations = row_becomes StandsFor desk.operations_used t.operations before.operations.row stands.operations _ _
          (at_stage_stands row (before.operations.row operation) state.GivenUp row_stands) operation found.below;
      proposals_counted = stands.proposals_counted;
      proposals = stands.proposals;
      decisions = stands.decisions;
      frames = stands.frames;
      frames_lawful = stands.frames_lawful;
    })

  pub give_up_goes : (operation : ℕ) → Goes (give_up_step desk t operation).1
  give_up_goes operation = go (may_give_up desk t operation) refl
    where
      go : (answer : Result OperationRow Fault) → may_give_up desk t operation ≡ answer → Goes (giving_up t operation answer).1
      go (Err fault) is = (before, Now, stands)
      go (Ok row) is =
          let (_, _, asking) = and_both (served desk t) _ row is in
          let (found, asked, asks) = then_both (started desk t.operations operation) still_open row asking in
          given_up (open_row desk t operation found row asked asks)

  stopped : {node : ℕ} {found : NodeRecord} → Runs desk t.nodes node found → Goes (record t { nodes = with_record t.nodes node (record found { stopped = true }) })
  stopped {node} {found} runs = by_one_move setting (node_stopped before node) (Stop node) (record {
    nodes = record_becomes desk.node_count node t.nodes before.nodes _ _ (ap stopping (stands.nodes node found runs.inside runs.here)) stands.nodes;
    operations_counted = stands.operations_counted;
    operations = stands.operations;
    proposals_counted = stands.proposals_counted;
    proposals = stands.proposals;
    decisions = stands.decisions;
    frames = stands.frames;
    frames_lawful = stands.frames_lawful;
  })

  pub stop_goes : (node : ℕ) → Goes (stop_step desk t node).1
  stop_goes node = go (may_stop desk t node) refl
    where
      go : (answer : Result NodeRecord Fault) → may_stop desk t node ≡ answer → Goes (calls.stopping t node answer).1
      go (Err fault) is = (before, Now, stands)
      go (Ok found) is =
          let (_, _, asks) = and_both (served desk t) _ found is in
          stopped (runs desk t.nodes node found asks)

  -- What can be read after a frame was lost could be read before.
  frame_gone : (slot : ℕ) → slot < slots t.frames → Goes (record t { frames = replaced t.frames slot (replicate slot_size 0) })
  frame_gone slot below = (
    before,
    Now,
    record {
      nodes = stands.nodes;
      operations_counted = stands.operations_counted;
      operations = stands.operations;
      proposals_counted = stands.proposals_counted;
      proposals = stands.proposals;
      decisions = stands.decisions;
      frames = λ other message is. stands.frames other message (read_before_loss width reads t.frames slot other message below is);
      frames_lawful = λ other message is. stands.frames_lawful other message (read_before_loss width reads t.frames slot other message below is);
    },
  )

  pub lose_goes : (slot : ℕ) → Goes (lose_step desk t slot).1
  lose_goes slot = go (served desk t)
    where
      by_slot : (full : Bool) → (nat_lt slot (slots t.frames) && not (is_empty t.frames slot)) ≡ full
          → Goes (frame_lost t (if full then (Ok tt, replaced t.frames slot (replicate slot_size 0)) else (Err NoSlot, t.frames))).1
      by_slot true is = frame_gone slot (grind (arith, nat_tests))
      by_slot false is = (before, Now, stands)

      go : (answer : Result (Unit {0}) Fault) → Goes (losing t slot answer).1
      go (Err fault) = (before, Now, stands)
      go (Ok _) = by_slot (nat_lt slot (slots t.frames) && not (is_empty t.frames slot)) refl
