-- The effect of each move, and what it makes of a node and of an operation.
use Rattle.std.specs.Prelude.{ℕ, suc, max, true, List, Some}
use Rattle.protocol.specs.State.{Content, Copy, tag_of, newer, nowhere, joined_by, version_of, Configuration, Active, Frozen, Node, Kind, Read, Write, Regroup, Stage, Open, Answered, GivenUp, Proposed, Operation, Get, GetAck, PutAck, Freeze, Put, Held, Update, System}
use Rattle.protocol.specs.Effects.{Effect, quiet, Becomes, RowBecomes, Added, Reply, ToEach}

-- What a move makes of a node

abbrev pub frozen : Node → Node
frozen node = record node { status = Frozen }

abbrev pub storing : Node → Copy → Node
storing node copy = record node { stored = newer node.stored copy }

abbrev pub serving : Node → Copy → Node
serving node copy = record node { served = newer node.served copy }

-- the version after the newest is given out
abbrev pub with_next_version : Node → Node
with_next_version node = record node { newest = suc node.newest }

abbrev pub joining : Node → Configuration → Node
joining node next = record {
  status = Active;
  stopped = node.stopped;
  number = next.number;
  members = next.members;
  opening = next.copy.tag;
  stored = newer node.stored next.copy;
  served = next.copy;
  newest = max node.newest (version_of next.copy.tag);
}

abbrev pub stopping : Node → Node
stopping node = record node { stopped = true }

-- What a move makes of an operation

-- one that starts at a node
abbrev pub starting : System → Kind → ℕ → Copy → List ℕ → Operation
starting system kind node copy members = record {
  kind = kind;
  node = node;
  number = (system.nodes node).number;
  copy = copy;
  members = members;
  set = nowhere;
  stage = Open;
  start = suc system.moment;
  answer = 0;
}

abbrev pub with_place : Operation → ℕ → Operation
with_place operation place = record operation { set = joined_by operation.set place }

abbrev pub with_copy : Operation → Copy → Operation
with_copy operation copy = record operation { copy = copy }

abbrev pub at_stage : Operation → Stage → Operation
at_stage operation stage = record operation { stage = stage }

abbrev pub answered_at : Operation → ℕ → Operation
answered_at operation moment = record operation { stage = Answered; answer = moment }

-- the configuration that a regroup proposes
abbrev pub proposal_of : Operation → Configuration
proposal_of operation = record { number = suc operation.number; members = operation.members; copy = operation.copy }

-- What each move changes

-- a read, with the copy that is served; it asks each member
abbrev pub read_starts : System → ℕ → Effect
read_starts before node = record quiet {
  operation = Added (starting before Read node (before.nodes node).served (before.nodes node).members);
  ticks = true;
  sends = ToEach (before.nodes node).members (λ member. Get member node (before.nodes node).number before.operations.count);
}

-- what a write writes: the content, under the next version of its node
abbrev pub written : System → ℕ → Content → Copy
written before node content = record { tag = tag_of (suc (before.nodes node).newest) node; content = content }

-- a write, whose copy goes to each member
abbrev pub write_starts : System → ℕ → Content → Effect
write_starts before node content = record quiet {
  node = Becomes node (with_next_version (before.nodes node));
  operation = Added (starting before Write node (written before node content) (before.nodes node).members);
  ticks = true;
  sends = ToEach (before.nodes node).members (λ member. Put member node (before.nodes node).number before.operations.count (written before node content));
}

-- a change to new members: the node freezes, and asks each present member to
abbrev pub regroup_starts : System → ℕ → List ℕ → Effect
regroup_starts before node new_members = record quiet {
  node = Becomes node (frozen (before.nodes node));
  operation = Added (starting before Regroup node (before.nodes node).served new_members);
  ticks = true;
  sends = ToEach (before.nodes node).members (λ member. Freeze member node (before.nodes node).number before.operations.count);
}

-- a get is acknowledged
abbrev pub get_acknowledged : ℕ → ℕ → ℕ → ℕ → Effect
get_acknowledged receiver sender number operation = record quiet { sends = Reply (GetAck sender receiver number operation) }

-- a put's copy replaces a lower stored one, and is acknowledged either way
abbrev pub put_acknowledged : System → ℕ → ℕ → ℕ → ℕ → Copy → Effect
put_acknowledged before receiver sender number operation copy = record quiet {
  node = Becomes receiver (storing (before.nodes receiver) copy);
  sends = Reply (PutAck sender receiver number operation);
}

-- What a node holds out when it freezes: the copy that it has stored, which is no lower than any write that it acknowledged.
abbrev pub held_out : System → ℕ → Copy
held_out before receiver = (before.nodes receiver).stored

-- the receiver freezes, and holds out its copy
abbrev pub freeze_obeyed : System → ℕ → ℕ → ℕ → ℕ → Effect
freeze_obeyed before receiver sender number operation = record quiet {
  node = Becomes receiver (frozen (before.nodes receiver));
  sends = Reply (Held sender receiver number operation (held_out before receiver));
}

-- a place joins those that acknowledged the operation, or froze for it, and that is all
abbrev pub place_joins : System → ℕ → ℕ → Effect
place_joins before operation place = record quiet { operation = RowBecomes operation (with_place (before.operations.row operation) place) }

-- What a read is answered with: the copy that its node serves at this moment, and not the one that it has stored. A copy that is only stored may be lost in the next change of the group.
abbrev pub read_out : System → ℕ → Copy
read_out before receiver = (before.nodes receiver).served

-- a place joins, and the read is answered
abbrev pub read_answered : System → ℕ → ℕ → ℕ → Effect
read_answered before receiver operation place = record quiet {
  operation = RowBecomes operation (answered_at (with_copy (with_place (before.operations.row operation) place) (read_out before receiver)) (suc before.moment));
  ticks = true;
}

-- A place joins, and the write is answered. From now on it is served, unless what is served is higher: so no read goes back behind it.
abbrev pub write_answered : System → ℕ → ℕ → ℕ → Effect
write_answered before receiver operation place = record quiet {
  node = Becomes receiver (serving (before.nodes receiver) (before.operations.row operation).copy);
  operation = RowBecomes operation (answered_at (with_place (before.operations.row operation) place) (suc before.moment));
  ticks = true;
}

-- a place joins, and the copy that is held out becomes the regroup's
abbrev pub held_taken : System → ℕ → ℕ → Copy → Effect
held_taken before operation place copy = record quiet { operation = RowBecomes operation (with_copy (with_place (before.operations.row operation) place) copy) }

-- the receiver joins a configuration
abbrev pub update_taken : System → ℕ → Configuration → Effect
update_taken before receiver next = record quiet { node = Becomes receiver (joining (before.nodes receiver) next) }

-- a regroup's members and its copy are proposed, under the next number
abbrev pub regroup_proposed : System → ℕ → Effect
regroup_proposed before operation = record quiet {
  operation = RowBecomes operation (at_stage (before.operations.row operation) Proposed);
  proposal = Added (proposal_of (before.operations.row operation));
}

-- a proposal goes to its members
abbrev pub proposal_sent : System → ℕ → ℕ → Effect
proposal_sent before node proposal = record quiet {
  sends = ToEach (before.proposals.row proposal).members (λ member. Update member node (before.proposals.row proposal));
}

abbrev pub proposal_decided : ℕ → ℕ → Effect
proposal_decided number proposal = record quiet { decision = Becomes number (Some proposal) }

abbrev pub operation_given_up : System → ℕ → Effect
operation_given_up before operation = record quiet { operation = RowBecomes operation (at_stage (before.operations.row operation) GivenUp) }

abbrev pub node_stopped : System → ℕ → Effect
node_stopped before node = record quiet { node = Becomes node (stopping (before.nodes node)) }
