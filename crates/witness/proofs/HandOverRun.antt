-- A run: a write is answered in one group, and a read that starts later, in the next group with other members, returns it.
use Rattle.std.proofs.Common.{List, [], ◌∷◌, refl, lit<, lit≤}
use Rattle.protocol.specs.State.{Copy, tag_of, Configuration, Get, GetAck, PutAck, Freeze, Put, Held, Update, System, first_of}
use Rattle.witness.specs.Witnesses.{three_nodes, HandedOver}
use Rattle.witness.proofs.Playing.{ScriptStep, ReadStarts, WriteStarts, RegroupStarts, Arrives, IsProposed, ChooserDecides, Settles, play, opening, later_by, reached_by}

abbrev at_the_opening : Copy
at_the_opening = (first_of three_nodes).copy

-- version 1, of node 1
abbrev written : Copy
written = record { tag = tag_of 1 1; content = 7 ∷ 8 ∷ [] }

abbrev next_group : Configuration
next_group = record { number = 1; members = 2 ∷ 3 ∷ 4 ∷ []; copy = written }

-- A frame names its receiver, its sender, the number of their configuration, and the operation.
abbrev first_part : List ScriptStep
first_part =
    -- Operation 0, a write at node 1
    WriteStarts 1 (7 ∷ 8 ∷ [])  -- node 1 sends the copy to nodes 1, 2 and 3
    ∷ Arrives (Put 1 1 0 0 written)  -- node 1 stores it
    ∷ Arrives (Put 2 1 0 0 written)  -- node 2 stores it
    ∷ Arrives (PutAck 1 1 0 0)  -- one of three acknowledged the write
    ∷ Arrives (PutAck 1 2 0 0)  -- two of three did: the write is answered
    ∷ []

abbrev second_part : List ScriptStep
second_part =
    -- Operation 1, a regroup at node 3, which has not heard of the write
    RegroupStarts 3 (2 ∷ 3 ∷ 4 ∷ [])  -- node 3 freezes, and asks nodes 1, 2 and 3 to
    ∷ Arrives (Freeze 3 3 0 1)  -- node 3 holds out the opening copy
    ∷ Arrives (Freeze 2 3 0 1)  -- node 2 freezes, and holds out what was written
    ∷ Arrives (Held 3 3 0 1 at_the_opening)  -- the first copy held out is the regroup's
    ∷ Arrives (Held 3 2 0 1 written)  -- the higher one replaces it; two of three froze
    ∷ IsProposed 1  -- the next group, with what was written
    ∷ ChooserDecides 0 0  -- after configuration 0 comes proposal 0
    ∷ Settles 3 0  -- node 3 sends the next group to its members
    ∷ Arrives (Update 2 3 next_group)  -- node 2 joins it, as its primary
    ∷ Arrives (Update 4 3 next_group)  -- node 4 joins it
    -- Operation 2, a read at node 2
    ∷ ReadStarts 2  -- node 2 asks nodes 2, 3 and 4
    ∷ Arrives (Get 2 2 1 2)  -- node 2 acknowledges the read
    ∷ Arrives (Get 4 2 1 2)  -- node 4 acknowledges it
    ∷ Arrives (GetAck 2 2 1 2)  -- one of three did
    ∷ Arrives (GetAck 2 4 1 2)  -- two of three did: the read is answered with what was written
    ∷ []

pub after_the_write : System
after_the_write = play three_nodes (opening three_nodes) first_part

pub after_the_read : System
unfolding after_the_write
after_the_read = play three_nodes after_the_write second_part

-- The script is checked step by step, and the rest is read off the systems that its parts end in.
pub handed_over : HandedOver three_nodes after_the_write after_the_read
unfolding after_the_write after_the_read
handed_over = record {
  reached = (reached_by three_nodes first_part).shows (λ any. refl);
  later = (later_by three_nodes after_the_write second_part).shows (λ any. refl);
  write = 0;
  read = 2;
  is_write = record { is_started = lit< tt; write = refl };
  in_time = (record { is_started = lit< tt; answered = refl }, lit≤ tt);
  was_read = record { answered = record { is_started = lit< tt; answered = refl }; read = refl };
  same_copy = refl;
  next_group = refl;
  other_members = λ same. cc;
}
