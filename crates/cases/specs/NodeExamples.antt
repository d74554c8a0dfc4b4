-- The worked examples of docs/node-examples.md, as equations of `planned`, which says what a node makes of a frame, and of what applying does; the contracts of `node::judge` and `Plan::apply` cite them.
use Rattle.std.specs.Prelude.{◌≡◌, ℕ, false, List, [], ◌∷◌, ◌++◌, replicate, take, Ok, Err, true, Option, Some, None}
use Rattle.content.specs.Bytes.{four_bytes}
use Rattle.quorum.specs.Rules.{more_than_half}
use Rattle.refusal.specs.declared.Refusal.TheVariants.{TooFewSlots}
use Rattle.frame.specs.declared.message.Head.{Head}
use Rattle.frame.specs.Messages.{Said, get, get_ack, put, put_ack, freeze, held, update}
use Rattle.slots.specs.declared.letter.Body.{Body}
use Rattle.slots.specs.declared.letter.Body.TheVariants.{GetAck, PutAck, Held}
use Rattle.tables.specs.declared.copy.SheetCopy.{SheetCopy}
use Rattle.tables.specs.declared.members.Members.{Members}
use Rattle.tables.specs.declared.records.NodeRecord.{NodeRecord}
use Rattle.tables.specs.declared.records.OperationKind.TheVariants.{Read, Write, Regroup}
use Rattle.tables.specs.declared.records.OperationRow.{OperationRow}
use Rattle.tables.specs.declared.records.OperationState.TheVariants.{Open, Answered, GivenUp, Proposed}
use Rattle.tables.specs.declared.records.Status.TheVariants.{Idle, Active, Frozen}
use Rattle.node.specs.declared.plan.Plan.{Plan}
use Rattle.node.specs.declared.plan.Reply.{Reply}
use Rattle.node.specs.Applying.{with_record, with_row, with_reply, may_apply}
use Rattle.node.specs.Plans.{answers}
use Rattle.node.specs.Rules.{planned}
use Rattle.cases.specs.FrameExamples.{a_get}

-- The copies. Each has a quote that tells its version: that of version 3 is 503, 513.

-- a quote in eight bytes, bid and ask
abbrev pub eight_bytes : ℕ → ℕ → List ℕ
eight_bytes bid ask = four_bytes bid ++ four_bytes ask

-- the copy of a version and a node, with a quote, as it lies in a record: in sixteen bytes
abbrev pub copy_with : ℕ → ℕ → ℕ → ℕ → SheetCopy
copy_with version node bid ask = record { tag = record { version = version; node = node }; content = eight_bytes bid ask ++ replicate 8 0 }

-- the copy that the sheet began with
abbrev pub version_0 : SheetCopy
version_0 = copy_with 0 0 500 510

-- the copy that configuration 1 opened with
abbrev pub version_2 : SheetCopy
version_2 = copy_with 2 1 502 512

-- what node 1 has written since: version 4 is answered; 3, 5 and 6 are not yet
abbrev pub version_3 : SheetCopy
version_3 = copy_with 3 1 503 513

abbrev pub version_4 : SheetCopy
version_4 = copy_with 4 1 504 514

abbrev pub version_5 : SheetCopy
version_5 = copy_with 5 1 505 515

abbrev pub version_6 : SheetCopy
version_6 = copy_with 6 1 506 516

-- another version 4, to compare tags with
abbrev pub version_4_of_2 : SheetCopy
version_4_of_2 = copy_with 4 2 604 614

-- The nodes

-- three members, the first of them the primary
abbrev pub group : ℕ → ℕ → ℕ → Members
group first second third = record { nodes = first ∷ second ∷ third ∷ 0 ∷ 0 ∷ 0 ∷ 0 ∷ []; count = 3 }

-- Nodes 1, 2 and 3 are active under number 1. Node 1 is the primary. It serves version 4 and stores version 3: its later puts have not come to itself.
abbrev pub node_1 : NodeRecord
node_1 = record {
  status = Active;
  stopped = false;
  configuration = record { number = 1; members = group 1 2 3; opening = version_2.tag };
  stored = version_3;
  served = version_4;
  newest = 6;
}

-- Node 2 stores version 4, node 3 version 5. Both serve the opening copy.
abbrev pub node_2 : NodeRecord
node_2 = record node_1 { stored = version_4; served = version_2; newest = 2 }

abbrev pub node_3 : NodeRecord
node_3 = record node_2 { stored = version_5 }

-- Node 4 is in no group yet.
abbrev pub node_4 : NodeRecord
node_4 = record {
  status = Idle;
  stopped = false;
  configuration = record { number = 0; members = group 1 2 3; opening = version_0.tag };
  stored = version_0;
  served = version_0;
  newest = 0;
}

-- the same record, but frozen, as that of a node which has started a regroup
abbrev pub frozen : NodeRecord → NodeRecord
frozen node = record node { status = Frozen }

-- the same record, but idle
abbrev pub idle : NodeRecord → NodeRecord
idle node = record node { status = Idle }

-- The operations, each named by its kind and its number. All were started at node 1. In a set node 1 has the lowest bit and node 3 the highest; two of the three are enough.

-- a read that nobody has acknowledged
abbrev pub read_1 : OperationRow
read_1 = record { kind = Read; node = 1; number = 1; copy = version_2; members = group 1 2 3; set = 0b000; state = Open; start = 2; answer = 0 }

-- a read from configuration 0, still open
abbrev pub read_0 : OperationRow
read_0 = record read_1 { number = 0; copy = version_0; start = 1 }

-- a read that node 3 has acknowledged
abbrev pub read_2 : OperationRow
read_2 = record read_1 { set = 0b100; start = 3 }

-- a read that was given up
abbrev pub read_3 : OperationRow
read_3 = record read_2 { state = GivenUp; start = 4 }

-- the write of version 3, which node 1 has acknowledged
abbrev pub write_4 : OperationRow
write_4 = record { kind = Write; node = 1; number = 1; copy = version_3; members = group 1 2 3; set = 0b001; state = Open; start = 5; answer = 0 }

-- the write of version 4, which is answered
abbrev pub write_5 : OperationRow
write_5 = record write_4 { copy = version_4; set = 0b110; state = Answered; start = 6; answer = 7 }

-- the write of version 5, which node 3 has acknowledged
abbrev pub write_6 : OperationRow
write_6 = record write_4 { copy = version_5; set = 0b100; start = 8 }

-- the write of version 6, which nobody has acknowledged
abbrev pub write_7 : OperationRow
write_7 = record write_4 { copy = version_6; set = 0b000; start = 9 }

-- a regroup to the members 3, 4 and 1, to which nothing was held out yet; it has the copy that node 1 serves
abbrev pub regroup_8 : OperationRow
regroup_8 = record { kind = Regroup; node = 1; number = 1; copy = version_4; members = group 3 4 1; set = 0b000; state = Open; start = 10; answer = 0 }

-- one to which node 2 has held out version 4
abbrev pub regroup_9 : OperationRow
regroup_9 = record regroup_8 { set = 0b010; start = 11 }

-- one that is proposed already
abbrev pub regroup_10 : OperationRow
regroup_10 = record regroup_8 { set = 0b011; state = Proposed; start = 12 }

abbrev pub started : List OperationRow
started = read_0 ∷ read_1 ∷ read_2 ∷ read_3 ∷ write_4 ∷ write_5 ∷ write_6 ∷ write_7 ∷ regroup_8 ∷ regroup_9 ∷ regroup_10 ∷ []

-- The frames

-- sender and receiver, under number 1
abbrev pub from_to : ℕ → ℕ → Head
from_to sender receiver = record { receiver = receiver; sender = sender; number = 1 }

-- a put and a held with a copy: its tag, and its quote in eight bytes
abbrev pub put_with : Head → ℕ → SheetCopy → Said
put_with head operation copy = put head operation copy.tag (take 8 copy.content)

abbrev pub held_with : Head → ℕ → SheetCopy → Said
held_with head operation copy = held head operation copy.tag (take 8 copy.content)

-- the update of configuration 2 to a node, from node 2: its members are 3, 4 and 1, and it opens with version 4
abbrev pub update_to : ℕ → Said
update_to receiver = update (record (from_to 2 receiver) { number = 2 }) 3 (3 ∷ 4 ∷ 1 ∷ 0 ∷ 0 ∷ 0 ∷ 0 ∷ []) version_4.tag (take 8 version_4.content)

-- what a node with this record makes of a frame, by the majority, with these operations, at moment 12
abbrev pub at_node : NodeRecord → Said → Option Plan
at_node node message = planned more_than_half node started 12 message

-- What is planned

-- this node has this record from now on, and that is all
abbrev pub keeps : ℕ → NodeRecord → Option Plan
keeps receiver node = Some (record { receiver = receiver; node = node; row = None; reply = None })

-- it has this record, and this goes to a node, under number 1
abbrev pub replies : ℕ → NodeRecord → ℕ → Body → Option Plan
replies receiver node to body =
    Some (record {
      receiver = receiver;
      node = node;
      row = None;
      reply = Some (record { receiver = to; letter = record { sender = receiver; number = 1; body = body } });
    })

-- node 1 has this record, and the operation this row
abbrev pub counts : NodeRecord → ℕ → OperationRow → Option Plan
counts node operation row = Some (record { receiver = 1; node = node; row = Some (record { operation = operation; row = row }); reply = None })

-- the record of a node that has joined configuration 2, with its stored copy and its newest version
abbrev pub joined_with : SheetCopy → ℕ → NodeRecord
joined_with stored newest = record {
  status = Active;
  stopped = false;
  configuration = record { number = 2; members = group 3 4 1; opening = version_4.tag };
  stored = stored;
  served = version_4;
  newest = newest;
}

-- the records of nodes 1, 2 and 3
abbrev pub three_records : List NodeRecord
three_records = node_1 ∷ node_2 ∷ node_3 ∷ []

-- a get-ack of node 2 to node 1, under number 1 and for operation 2, and its frame
abbrev pub a_reply : Reply
a_reply = record { receiver = 1; letter = record { sender = 2; number = 1; body = GetAck 2 } }

abbrev pub a_reply_frame : List ℕ
a_reply_frame = 0x02 ∷ 0x01 ∷ 0x02 ∷ 0x01 ∷ 0x00 ∷ 0x02 ∷ replicate 26 0

pub record NodeExamples : Type 0 where
  -- Get: an active node acknowledges one of its primary under its own number, and keeps its record.
  pub get_obeyed : at_node node_2 (get (from_to 1 2) 1) ≡ replies 2 node_2 1 (GetAck 1)
  pub get_under_another_number : at_node node_2 (get (record (from_to 1 2) { number = 0 }) 1) ≡ None
  pub get_from_another_member : at_node node_2 (get (from_to 3 2) 1) ≡ None
  pub get_at_frozen_node : at_node (frozen node_2) (get (from_to 1 2) 1) ≡ None
  pub get_at_idle_node : at_node (idle node_2) (get (from_to 1 2) 1) ≡ None
  -- Put: the same conditions. A higher copy replaces the stored one; tags compare by version, then by node. It is acknowledged either way.
  pub put_higher : at_node node_2 (put_with (from_to 1 2) 6 version_5) ≡ replies 2 (record node_2 { stored = version_5 }) 1 (PutAck 6)
  pub put_lower : at_node node_3 (put_with (from_to 1 3) 5 version_4_of_2) ≡ replies 3 node_3 1 (PutAck 5)
  pub put_of_higher_node : at_node node_2 (put_with (from_to 1 2) 5 version_4_of_2) ≡ replies 2 (record node_2 { stored = version_4_of_2 }) 1 (PutAck 5)
  pub put_of_lower_node : at_node (record node_2 { stored = version_4_of_2 }) (put_with (from_to 1 2) 5 version_4) ≡ replies 2 (record node_2 { stored = version_4_of_2 }) 1 (PutAck 5)
  pub put_under_another_number : at_node node_2 (put_with (record (from_to 1 2) { number = 2 }) 6 version_5) ≡ None
  pub put_from_another_member : at_node node_2 (put_with (from_to 3 2) 6 version_5) ≡ None
  pub put_at_frozen_node : at_node (frozen node_2) (put_with (from_to 1 2) 6 version_5) ≡ None
  pub put_at_idle_node : at_node (idle node_2) (put_with (from_to 1 2) 6 version_5) ≡ None
  -- Freeze: a node that is not idle freezes under its own number, whoever asks, and holds out its stored copy, not the served one. A frozen node holds it out again.
  pub freeze_obeyed : at_node node_2 (freeze (from_to 1 2) 8) ≡ replies 2 (frozen node_2) 1 (Held 8 version_4)
  pub freeze_from_no_member : at_node node_2 (freeze (from_to 4 2) 8) ≡ replies 2 (frozen node_2) 4 (Held 8 version_4)
  pub freeze_at_frozen_node : at_node (frozen node_2) (freeze (from_to 1 2) 8) ≡ replies 2 (frozen node_2) 1 (Held 8 version_4)
  pub freeze_at_idle_node : at_node (idle node_2) (freeze (from_to 1 2) 8) ≡ None
  pub freeze_under_another_number : at_node node_2 (freeze (record (from_to 1 2) { number = 2 }) 8) ≡ None
  -- Get-ack: one is not enough, and its place joins. A second is enough: the read is answered with what node 1 serves, not with what it stores. The same one again adds nothing.
  pub get_ack_joins : at_node node_1 (get_ack (from_to 3 1) 1) ≡ counts node_1 1 (record read_1 { set = 0b100 })
  pub get_ack_enough : at_node node_1 (get_ack (from_to 2 1) 2) ≡ counts node_1 2 (record read_2 { set = 0b110; copy = version_4; state = Answered; answer = 13 })
  pub get_ack_again : at_node node_1 (get_ack (from_to 3 1) 2) ≡ counts node_1 2 read_2
  -- It is ignored for a write or a regroup, at another node than the read's, for a read under an earlier number, under that number, for a read that was given up or never started, from no member, and at a frozen or an idle node.
  pub get_ack_for_a_write : at_node node_1 (get_ack (from_to 2 1) 6) ≡ None
  pub get_ack_for_a_regroup : at_node node_1 (get_ack (from_to 3 1) 9) ≡ None
  pub get_ack_at_another_node : at_node node_2 (get_ack (from_to 1 2) 2) ≡ None
  pub get_ack_for_an_earlier_read : at_node node_1 (get_ack (from_to 2 1) 0) ≡ None
  pub get_ack_under_the_earlier_number : at_node node_1 (get_ack (record (from_to 2 1) { number = 0 }) 0) ≡ None
  pub get_ack_for_a_read_given_up : at_node node_1 (get_ack (from_to 2 1) 3) ≡ None
  pub get_ack_for_nothing_started : at_node node_1 (get_ack (from_to 2 1) 11) ≡ None
  pub get_ack_from_no_member : at_node node_1 (get_ack (from_to 4 1) 2) ≡ None
  pub get_ack_at_frozen_node : at_node (frozen node_1) (get_ack (from_to 2 1) 2) ≡ None
  pub get_ack_at_idle_node : at_node (idle node_1) (get_ack (from_to 2 1) 2) ≡ None
  -- Put-ack: a place joins. A write that has enough is answered, keeps its own copy, and is served from now on; where a higher one is served, that stays.
  pub put_ack_joins : at_node node_1 (put_ack (from_to 3 1) 7) ≡ counts node_1 7 (record write_7 { set = 0b100 })
  pub put_ack_enough : at_node node_1 (put_ack (from_to 2 1) 6) ≡ counts (record node_1 { served = version_5 }) 6 (record write_6 { set = 0b110; state = Answered; answer = 13 })
  pub put_ack_of_a_lower_write : at_node node_1 (put_ack (from_to 2 1) 4) ≡ counts node_1 4 (record write_4 { set = 0b011; state = Answered; answer = 13 })
  pub put_ack_for_a_read : at_node node_1 (put_ack (from_to 2 1) 2) ≡ None
  pub put_ack_for_a_regroup : at_node node_1 (put_ack (from_to 3 1) 9) ≡ None
  pub put_ack_for_an_answered_write : at_node node_1 (put_ack (from_to 1 1) 5) ≡ None
  pub put_ack_at_frozen_node : at_node (frozen node_1) (put_ack (from_to 2 1) 6) ≡ None
  pub put_ack_at_idle_node : at_node (idle node_1) (put_ack (from_to 2 1) 6) ≡ None
  -- Held: the first copy becomes the regroup's, even a lower one; after that only a higher one does. The place joins either way, by the present members. A frozen node counts it, and so does an active one.
  pub held_first : at_node (frozen node_1) (held_with (from_to 1 1) 8 version_3) ≡ counts (frozen node_1) 8 (record regroup_8 { set = 0b001; copy = version_3 })
  pub held_lower : at_node (frozen node_1) (held_with (from_to 1 1) 9 version_3) ≡ counts (frozen node_1) 9 (record regroup_9 { set = 0b011 })
  pub held_higher : at_node (frozen node_1) (held_with (from_to 3 1) 9 version_5) ≡ counts (frozen node_1) 9 (record regroup_9 { set = 0b110; copy = version_5 })
  pub held_at_active_node : at_node node_1 (held_with (from_to 3 1) 9 version_5) ≡ counts node_1 9 (record regroup_9 { set = 0b110; copy = version_5 })
  pub held_at_idle_node : at_node (idle node_1) (held_with (from_to 3 1) 9 version_5) ≡ None
  pub held_for_a_read : at_node (frozen node_1) (held_with (from_to 2 1) 2 version_4) ≡ None
  pub held_for_a_write : at_node (frozen node_1) (held_with (from_to 2 1) 6 version_4) ≡ None
  pub held_for_a_proposed_regroup : at_node (frozen node_1) (held_with (from_to 3 1) 10 version_5) ≡ None
  pub held_from_a_new_member : at_node (frozen node_1) (held_with (from_to 4 1) 9 version_5) ≡ None
  -- Update: one of the new members joins if it is idle, or under a lower number, be it active or frozen. It serves the opening copy, whatever it served, and keeps a higher stored copy and a higher newest version.
  pub update_at_idle_node : at_node node_4 (update_to 4) ≡ keeps 4 (joined_with version_4 4)
  pub update_at_active_node : at_node node_3 (update_to 3) ≡ keeps 3 (joined_with version_5 4)
  pub update_at_frozen_node : at_node (frozen node_3) (update_to 3) ≡ keeps 3 (joined_with version_5 4)
  pub update_at_primary : at_node node_1 (update_to 1) ≡ keeps 1 (joined_with version_4 6)
  pub update_where_a_higher_copy_is_served : at_node (record node_1 { served = version_5 }) (update_to 1) ≡ keeps 1 (joined_with version_4 6)
  -- A number is not joined twice, unless by an idle node; and a node that is none of the new members does not join.
  pub update_again : at_node (joined_with version_5 4) (update_to 3) ≡ None
  pub update_again_at_idle_node : at_node (idle (joined_with version_5 4)) (update_to 3) ≡ keeps 3 (joined_with version_5 4)
  pub update_at_no_member : at_node node_2 (update_to 2) ≡ None
  -- The stopped mark stays.
  pub update_at_a_stopped_node : at_node (record node_4 { stopped = true }) (update_to 4) ≡ keeps 4 (record (joined_with version_4 4) { stopped = true })
  -- Applying a plan: the record is written over its node's, the row over its operation's, and the reply goes into the lowest empty slot. What a table has no place for is left out.
  pub record_written : with_record three_records 2 node_4 ≡ node_1 ∷ node_4 ∷ node_3 ∷ []
  pub no_record_of_node_0 : with_record three_records 0 node_4 ≡ three_records
  pub no_record_of_node_4 : with_record three_records 4 node_4 ≡ three_records
  pub row_written : with_row (read_0 ∷ read_1 ∷ []) (Some (record { operation = 1; row = read_2 })) ≡ read_0 ∷ read_2 ∷ []
  pub no_row_of_operation_2 : with_row (read_0 ∷ read_1 ∷ []) (Some (record { operation = 2; row = read_2 })) ≡ read_0 ∷ read_1 ∷ []
  pub no_row_planned : with_row (read_0 ∷ read_1 ∷ []) None ≡ read_0 ∷ read_1 ∷ []
  pub reply_sent : with_reply 8 (a_get ++ replicate 64 0) (Some a_reply) ≡ a_get ++ (a_reply_frame ++ replicate 32 0)
  pub reply_left_out : with_reply 8 a_get (Some a_reply) ≡ a_get
  pub no_reply_planned : with_reply 8 (replicate 32 0) None ≡ replicate 32 0
  -- A reply has to find an empty slot; a plan without one does not.
  pub reply_finds_a_slot : may_apply (Some a_reply) (a_get ++ replicate 32 0) ≡ Ok tt
  pub reply_finds_none : may_apply (Some a_reply) a_get ≡ Err TooFewSlots
  pub no_slot_wanted : may_apply None a_get ≡ Ok tt
  -- Whether a plan answers its operation.
  pub answered_row_answers : answers (Some (record { operation = 5; row = write_5 })) ≡ true
  pub open_row_does_not : answers (Some (record { operation = 6; row = write_6 })) ≡ false
  pub no_row_does_not : answers None ≡ false
