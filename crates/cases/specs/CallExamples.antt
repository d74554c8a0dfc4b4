-- The worked examples of docs/call-examples.md, as equations of the definitions that the contracts of the calls cite.
use Rattle.std.specs.Prelude.{◌≡◌, ℕ, true, false, List, [], ◌∷◌, ◌++◌, replicate, Some, None, Ok, Err}
use Rattle.quote.specs.Quote.{quote_read}
use Rattle.quorum.specs.Rules.{more_than_half}
use Rattle.chooser.specs.declared.refusal.ChooserRefusal.TheVariants.{Full}
use Rattle.fault.specs.declared.Fault.{Fault}
use Rattle.fault.specs.declared.Fault.TheVariants as fault
use Rattle.tables.specs.declared.records.NodeRecord.{NodeRecord}
use Rattle.tables.specs.declared.records.OperationKind.TheVariants.{Read, Write, Regroup}
use Rattle.tables.specs.declared.records.OperationRow.{OperationRow}
use Rattle.tables.specs.declared.records.OperationState.TheVariants.{Open, Answered, GivenUp, Proposed}
use Rattle.tables.specs.declared.records.ProposalRow.{ProposalRow}
use Rattle.tables.specs.declared.records.Status.TheVariants.{Active}
use Rattle.desk.specs.declared.desk.Desk.{Desk}
use Rattle.desk.specs.Tables.{Tables, lengths_of, closed}
use Rattle.desk.specs.Opening.{open_step}
use Rattle.desk.specs.Ending.{lose_step, give_up_step, stop_step, look_step}
use Rattle.starts.specs.Starts.{read_step, write_step, regroup_step}
use Rattle.handover.specs.Proposing.{may_propose, offered}
use Rattle.handover.specs.Settling.{settle_step}
use Rattle.delivery.specs.declared.delivery.Delivery.TheVariants as delivery
use Rattle.delivery.specs.Delivery.{deliver_step}
use Rattle.cases.specs.NodeExamples.{eight_bytes, copy_with, version_2, version_4, version_5, group, node_1, node_2, node_3, node_4, frozen, read_1, read_2, write_5, regroup_9}

-- The setting: the nodes of the examples of nodes, a read that node 3 has acknowledged, and a regroup that nodes 1 and 2 froze for.

abbrev pub regroup_1 : OperationRow
regroup_1 = record regroup_9 { set = 0b011; copy = version_5 }

-- sixteen records, of which the floor has four
abbrev pub records : NodeRecord → NodeRecord → List NodeRecord
records first second = first ∷ second ∷ node_3 ∷ node_4 ∷ replicate 12 node_1

-- a frame of nine bytes or fewer
abbrev pub plain : ℕ → ℕ → ℕ → ℕ → List ℕ
plain kind receiver sender operation = kind ∷ receiver ∷ sender ∷ 1 ∷ 0 ∷ operation ∷ replicate 26 0

-- the put of version 7 to a node, and the update of configuration 2
abbrev pub put_7 : ℕ → List ℕ
put_7 receiver = 3 ∷ receiver ∷ 1 ∷ 1 ∷ 0 ∷ 2 ∷ 0 ∷ 7 ∷ 1 ∷ (eight_bytes 507 517 ++ replicate 15 0)

abbrev pub update_2 : ℕ → List ℕ
update_2 receiver = 7 ∷ receiver ∷ 2 ∷ 2 ∷ 3 ∷ 3 ∷ 4 ∷ 1 ∷ 0 ∷ 0 ∷ 0 ∷ 0 ∷ 0 ∷ 4 ∷ 1 ∷ (eight_bytes 504 514 ++ replicate 9 0)

-- slots that are empty
abbrev pub empty : ℕ → List ℕ
empty bytes = replicate bytes 0

-- slot 0 holds node 2's acknowledgement of the read, slot 1 a get to node 2
abbrev pub two_frames : List ℕ
two_frames = plain 2 1 2 0 ++ plain 1 2 1 0

-- a proposal of version 4 under a number
abbrev pub proposal : ℕ → ProposalRow
proposal number = record { number = number; members = group 3 4 1; copy = version_4 }

-- the tables: two of four operation rows and one of two proposal rows are used, and two of five slots
abbrev pub t : Tables
t = record {
  nodes = records node_1 node_2;
  operations = read_2 ∷ regroup_1 ∷ write_5 ∷ write_5 ∷ [];
  frames = two_frames ++ empty 96;
  proposals = proposal 1 ∷ proposal 0 ∷ [];
}

-- the same with other records of nodes 1 and 2, or another frame table
abbrev pub with_nodes : NodeRecord → NodeRecord → Tables
with_nodes first second = record t { nodes = records first second }

abbrev pub with_frames : List ℕ → Tables
with_frames frames = record t { frames = frames }

-- only one slot is empty
abbrev pub one_left : Tables
one_left = with_frames (two_frames ++ (two_frames ++ empty 32))

-- none is
abbrev pub none_left : Tables
none_left = with_frames (two_frames ++ (two_frames ++ plain 1 2 1 0))

-- the desk of this floor, at moment 12
abbrev pub desk : Desk
desk = record { is_open = true; node_count = 4; lengths = lengths_of t.operations t.frames t.proposals; operations_used = 2; proposals_used = 1; moment = 12 }

-- the rows that start as operation 2
abbrev pub read_started : OperationRow
read_started = record { kind = Read; node = 1; number = 1; copy = version_4; members = group 1 2 3; set = 0; state = Open; start = 13; answer = 0 }

abbrev pub write_started : OperationRow
write_started = record read_started { kind = Write; copy = copy_with 7 1 507 517 }

abbrev pub regroup_started : OperationRow
regroup_started = record read_started { kind = Regroup; node = 2; copy = version_2; members = group 3 4 1 }

abbrev pub with_operation_2 : OperationRow → List OperationRow
with_operation_2 row = read_2 ∷ regroup_1 ∷ row ∷ write_5 ∷ []

-- the desk after a start
abbrev pub after_start : Desk
after_start = record desk { operations_used = 3; moment = 13 }

-- what a read at a node answers where it stops; it changes nothing
abbrev pub read_stops : Desk → Tables → ℕ → Fault → Type 0
read_stops desk t node fault = read_step 8 desk t node ≡ (Err fault, desk, t)

pub record CallExamples : Type 0 where
  -- Opening: members are active, node 4 is idle, the records above the count stay.
  pub opened :
      open_step closed t 4 (group 1 2 3) (eight_bytes 500 510)
      ≡ (
        Ok tt,
        record { is_open = true; node_count = 4; lengths = desk.lengths; operations_used = 0; proposals_used = 0; moment = 0 },
        record t {
          nodes = record node_4 { status = Active } ∷ record node_4 { status = Active } ∷ record node_4 { status = Active } ∷ node_4 ∷ replicate 12 node_1;
          frames = empty 160;
        },
      )
  pub opened_already : open_step desk t 4 (group 1 2 3) (eight_bytes 500 510) ≡ (Err fault.AlreadyOpen, desk, t)
  pub opened_with_seventeen : open_step closed t 17 (group 1 2 3) (eight_bytes 500 510) ≡ (Err fault.NodeCount, closed, t)
  pub opened_above_the_count : open_step closed t 2 (group 1 2 3) (eight_bytes 500 510) ≡ (Err fault.Unlawful, closed, t)
  -- Starts: the row keeps the next moment, and a frame goes to each present member, into the lowest empty slots.
  pub read_starts :
      read_step 8 desk t 1
      ≡ (Ok 2, after_start, record t { operations = with_operation_2 read_started; frames = two_frames ++ (plain 1 1 1 2 ++ (plain 1 2 1 2 ++ plain 1 3 1 2)) })
  pub write_starts :
      write_step 8 desk t 1 (eight_bytes 507 517)
      ≡ (
        Ok 2,
        after_start,
        record t {
          nodes = records (record node_1 { newest = 7 }) node_2;
          operations = with_operation_2 write_started;
          frames = two_frames ++ (put_7 1 ++ (put_7 2 ++ put_7 3));
        },
      )
  -- A regroup may start at any node of the group, which freezes.
  pub regroup_starts :
      regroup_step 8 desk t 2 (group 3 4 1)
      ≡ (
        Ok 2,
        after_start,
        record t {
          nodes = records node_1 (frozen node_2);
          operations = with_operation_2 regroup_started;
          frames = two_frames ++ (plain 5 1 2 2 ++ (plain 5 2 2 2 ++ plain 5 3 2 2));
        },
      )
  -- Where a start stops, the first ground that holds is answered, and nothing changes.
  pub stops_on_closed : read_stops (record desk { is_open = false }) t 1 fault.Closed
  pub stops_on_length : read_stops desk (record t { proposals = proposal 1 ∷ [] }) 1 fault.TableLength
  pub stops_above_the_count : read_stops desk t 5 fault.NoNode
  pub stops_at_node_zero : read_stops desk t 0 fault.NoNode
  pub stops_at_a_stopped_node : read_stops desk (with_nodes (record node_1 { stopped = true }) node_2) 1 fault.Stopped
  pub stops_at_an_idle_node : read_stops desk t 4 fault.Idle
  pub stops_at_a_frozen_node : read_stops desk (with_nodes node_1 (frozen node_2)) 2 fault.Frozen
  pub stops_at_no_primary : read_stops (record desk { operations_used = 4 }) t 2 fault.NotPrimary
  pub stops_without_a_row : read_stops (record desk { operations_used = 4 }) one_left 1 fault.OperationsUsed
  pub stops_without_slots : read_stops desk one_left 1 fault.TooFewSlots
  pub write_without_a_version :
      write_step 8 desk (record one_left { nodes = records (record node_1 { newest = 9999 }) node_2 }) 1 (eight_bytes 507 517)
      ≡ (Err fault.LastVersion, desk, record one_left { nodes = records (record node_1 { newest = 9999 }) node_2 })
  pub write_without_slots : write_step 8 desk one_left 1 (eight_bytes 507 517) ≡ (Err fault.TooFewSlots, desk, one_left)
  pub regroup_unlawful : regroup_step 8 desk t 2 (group 3 5 1) ≡ (Err fault.Unlawful, desk, t)
  pub regroup_without_slots : regroup_step 8 desk one_left 2 (group 3 4 1) ≡ (Err fault.TooFewSlots, desk, one_left)
  -- Proposing: what the regroup gathered, and not what its node serves or stores, is offered as proposal 1.
  pub may_be_proposed : may_propose more_than_half desk t 1 ≡ Ok regroup_1
  pub proposed :
      offered desk t 1 regroup_1 (Ok tt)
      ≡ (
        Ok 1,
        record desk { proposals_used = 2 },
        record t {
          operations = read_2 ∷ record regroup_1 { state = Proposed } ∷ write_5 ∷ write_5 ∷ [];
          proposals = proposal 1 ∷ record { number = 1; members = group 3 4 1; copy = version_5 } ∷ [];
        },
      )
  pub offer_refused : offered desk t 1 regroup_1 (Err Full) ≡ (Err (fault.Chooser Full), desk, t)
  pub read_not_proposed : may_propose more_than_half desk t 0 ≡ Err fault.NoRegroup
  pub not_started : may_propose more_than_half desk t 2 ≡ Err fault.NotStarted
  pub too_few_froze : may_propose more_than_half desk (record t { operations = read_2 ∷ regroup_9 ∷ write_5 ∷ write_5 ∷ [] }) 1 ≡ Err fault.TooFewFrozen
  pub no_proposal_row : may_propose more_than_half (record desk { proposals_used = 2 }) t 1 ≡ Err fault.ProposalsUsed
  -- Settling: the proposal that is decided goes to each of its members, under the next number; the call answers how many they are.
  pub settled : settle_step 8 (None ∷ Some 0 ∷ []) desk t 2 ≡ (Ok 3, record t { frames = two_frames ++ (update_2 3 ++ (update_2 4 ++ update_2 1)) })
  pub nothing_decided : settle_step 8 (Some 0 ∷ []) desk t 2 ≡ (Err fault.NoDecision, t)
  pub decided_row_not_used : settle_step 8 (None ∷ Some 1 ∷ []) desk t 2 ≡ (Err fault.NotProposed, t)
  pub decided_row_of_another_number : settle_step 8 (None ∷ Some 1 ∷ []) (record desk { proposals_used = 2 }) t 2 ≡ (Err fault.NotProposed, t)
  pub settled_without_slots : settle_step 8 (None ∷ Some 0 ∷ []) desk one_left 2 ≡ (Err fault.TooFewSlots, one_left)
  -- Delivering: the read is answered, and the moment rises; the frame stays in its slot. Delivered again it is ignored.
  pub delivered_answers :
      deliver_step 8 quote_read more_than_half desk t 0
      ≡ (
        Ok delivery.Answered,
        record desk { moment = 13 },
        record t { operations = record read_2 { set = 0b110; copy = version_4; state = Answered; answer = 13 } ∷ regroup_1 ∷ write_5 ∷ write_5 ∷ [] },
      )
  pub delivered_again :
      deliver_step 8 quote_read more_than_half desk (record t { operations = record read_2 { state = Answered } ∷ regroup_1 ∷ write_5 ∷ write_5 ∷ [] }) 0
      ≡ (Ok delivery.Ignored, desk, record t { operations = record read_2 { state = Answered } ∷ regroup_1 ∷ write_5 ∷ write_5 ∷ [] })
  -- A get is acknowledged, which raises no moment, if there is a slot left for the reply.
  pub delivered_get : deliver_step 8 quote_read more_than_half desk t 1 ≡ (Ok delivery.Handled, desk, with_frames (two_frames ++ (plain 2 1 2 0 ++ empty 64)))
  pub delivered_without_slots : deliver_step 8 quote_read more_than_half desk none_left 1 ≡ (Err fault.TooFewSlots, desk, none_left)
  pub delivered_at_a_stopped_node :
      deliver_step 8 quote_read more_than_half desk (with_nodes node_1 (record node_2 { stopped = true })) 1
      ≡ (Err fault.Stopped, desk, with_nodes node_1 (record node_2 { stopped = true }))
  pub delivered_from_an_empty_slot : deliver_step 8 quote_read more_than_half desk t 2 ≡ (Err fault.NoSlot, desk, t)
  -- A row that is not used is no operation, whatever it holds.
  pub delivered_for_nothing_started : deliver_step 8 quote_read more_than_half (record desk { operations_used = 0 }) t 0 ≡ (Ok delivery.Ignored, record desk { operations_used = 0 }, t)
  -- Losing, giving up, stopping, looking.
  pub frame_lost : lose_step desk t 0 ≡ (Ok tt, with_frames (empty 32 ++ (plain 1 2 1 0 ++ empty 96)))
  pub no_frame_lost : lose_step desk t 2 ≡ (Err fault.NoSlot, t)
  pub given_up : give_up_step desk t 0 ≡ (Ok tt, record t { operations = record read_2 { state = GivenUp } ∷ regroup_1 ∷ write_5 ∷ write_5 ∷ [] })
  pub answered_not_given_up : give_up_step (record desk { operations_used = 3 }) t 2 ≡ (Err fault.NotOpen, t)
  pub stopped : stop_step desk t 2 ≡ (Ok tt, with_nodes node_1 (record node_2 { stopped = true }))
  pub stopped_again : stop_step desk (with_nodes node_1 (record node_2 { stopped = true })) 2 ≡ (Err fault.Stopped, with_nodes node_1 (record node_2 { stopped = true }))
  pub looked_at : look_step desk t 1 read_1 ≡ (Ok tt, regroup_1)
  pub not_looked_at : look_step desk t 2 read_1 ≡ (Err fault.NotStarted, read_1)
