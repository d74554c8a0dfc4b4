-- A run: a write that starts at a primary which was left behind is not answered, and yet a later group is opened with its copy, and a read there returns it.
use Rattle.std.proofs.Common.{List, [], ◌∷◌, refl, lit<, lit≤}
use Rattle.protocol.specs.State.{Copy, tag_of, Configuration, Get, GetAck, PutAck, Freeze, Put, Held, Update, System, first_of}
use Rattle.witness.specs.Witnesses.{five_nodes, CameToLight}
use Rattle.witness.proofs.Playing.{ScriptStep, ReadStarts, WriteStarts, RegroupStarts, Arrives, IsProposed, ChooserDecides, Settles, play, opening, later_by, reached_by}

abbrev at_the_opening : Copy
at_the_opening = (first_of five_nodes).copy

-- version 1, of node 1
abbrev written : Copy
written = record { tag = tag_of 1 1; content = 7 ∷ 8 ∷ [] }

abbrev second_group : Configuration
second_group = record { number = 1; members = 3 ∷ 2 ∷ 4 ∷ []; copy = at_the_opening }

abbrev third_group : Configuration
third_group = record { number = 2; members = 5 ∷ 2 ∷ 3 ∷ []; copy = written }

-- A frame names its receiver, its sender, the number of their configuration, and the operation.
abbrev first_part : List ScriptStep
first_part =
    -- Operation 0, a regroup at node 3, of which nodes 1 and 2 hear nothing
    RegroupStarts 3 (3 ∷ 2 ∷ 4 ∷ [])  -- node 3 freezes, and asks all five to
    ∷ Arrives (Freeze 3 3 0 0)  -- node 3 holds out the opening copy
    ∷ Arrives (Freeze 4 3 0 0)  -- node 4 freezes, and holds it out
    ∷ Arrives (Freeze 5 3 0 0)  -- node 5 freezes, and holds it out
    ∷ Arrives (Held 3 3 0 0 at_the_opening)  -- the first copy held out is the regroup's
    ∷ Arrives (Held 3 4 0 0 at_the_opening)  -- no higher one
    ∷ Arrives (Held 3 5 0 0 at_the_opening)  -- no higher one; three of five froze
    ∷ IsProposed 0  -- the second group, with the opening copy
    ∷ ChooserDecides 0 0  -- after configuration 0 comes proposal 0
    ∷ Settles 3 0  -- node 3 sends the second group to its members
    ∷ Arrives (Update 3 3 second_group)  -- node 3 joins it, as its primary
    ∷ Arrives (Update 4 3 second_group)  -- node 4 joins it
    -- Operation 1, a read at node 3
    ∷ ReadStarts 3  -- node 3 asks nodes 3, 2 and 4
    ∷ Arrives (Get 3 3 1 1)  -- node 3 acknowledges the read
    ∷ Arrives (Get 4 3 1 1)  -- node 4 acknowledges it
    ∷ Arrives (GetAck 3 3 1 1)  -- one of three did
    ∷ Arrives (GetAck 3 4 1 1)  -- two of three did: the read is answered with the opening copy
    ∷ []

abbrev second_part : List ScriptStep
second_part =
    -- Operation 2, a write at node 1, which was left behind
    WriteStarts 1 (7 ∷ 8 ∷ [])  -- node 1 sends the copy to all five
    ∷ Arrives (Put 1 1 0 2 written)  -- node 1 stores it
    ∷ Arrives (Put 2 1 0 2 written)  -- node 2 stores it
    ∷ Arrives (PutAck 1 1 0 2)  -- one of five acknowledged the write
    ∷ Arrives (PutAck 1 2 0 2)  -- two of five did; the other three have frozen
    ∷ Arrives (Update 2 3 second_group)  -- node 2 joins the second group, and keeps the copy that it stored
    -- Operation 3, a regroup of the second group at node 3
    ∷ RegroupStarts 3 (5 ∷ 2 ∷ 3 ∷ [])  -- node 3 freezes, and asks nodes 3, 2 and 4 to
    ∷ Arrives (Freeze 3 3 1 3)  -- node 3 holds out the opening copy
    ∷ Arrives (Freeze 2 3 1 3)  -- node 2 freezes, and holds out what was written
    ∷ Arrives (Held 3 3 1 3 at_the_opening)  -- the first copy held out is the regroup's
    ∷ Arrives (Held 3 2 1 3 written)  -- the higher one replaces it; two of three froze
    ∷ IsProposed 3  -- the third group, with what was written
    ∷ ChooserDecides 1 1  -- after configuration 1 comes proposal 1
    ∷ Settles 3 1  -- node 3 sends the third group to its members
    ∷ Arrives (Update 5 3 third_group)  -- node 5 joins it, as its primary
    ∷ Arrives (Update 2 3 third_group)  -- node 2 joins it
    -- Operation 4, a read at node 5, to which the write never came
    ∷ ReadStarts 5  -- node 5 asks nodes 5, 2 and 3
    ∷ Arrives (Get 5 5 2 4)  -- node 5 acknowledges the read
    ∷ Arrives (Get 2 5 2 4)  -- node 2 acknowledges it
    ∷ Arrives (GetAck 5 5 2 4)  -- one of three did
    ∷ Arrives (GetAck 5 2 2 4)  -- two of three did: the read is answered with what was written
    ∷ []

pub before_the_write : System
before_the_write = play five_nodes (opening five_nodes) first_part

pub after_the_read : System
unfolding before_the_write
after_the_read = play five_nodes before_the_write second_part

-- Both parts are checked step by step, and the rest is read off the systems that they end in.
pub came_to_light : CameToLight five_nodes before_the_write after_the_read
unfolding before_the_write after_the_read
came_to_light = record {
  reached = (reached_by five_nodes first_part).shows (λ any. refl);
  later = (later_by five_nodes before_the_write second_part).shows (λ any. refl);
  first = 1;
  write = 2;
  read = 4;
  in_time = (record { is_started = lit< tt; answered = refl }, lit≤ tt);
  is_write = record { is_started = lit< tt; write = refl };
  left_behind = lit< tt;
  still_open = refl;
  was_read = record { answered = record { is_started = lit< tt; answered = refl }; read = refl };
  same_copy = refl;
  later_group = lit< tt;
  of_that_group = refl;
  opened_with_it = refl;
}
