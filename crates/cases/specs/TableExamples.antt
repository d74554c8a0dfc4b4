-- The worked examples of docs/tables.md, as equations of the definitions that the contracts of `tables` and `slots` cite.
use Rattle.std.specs.Prelude.{◌≡◌, ℕ, true, false, List, [], ◌∷◌, ◌++◌, replicate, Some, None, Ok, Err}
use Rattle.refusal.specs.declared.Refusal.TheVariants.{NoSlot, TooFewSlots}
use Rattle.refusal.specs.Numbers.{number}
use Rattle.frame.specs.declared.message.Tag.{Tag}
use Rattle.frame.specs.declared.message.Head.{Head}
use Rattle.frame.specs.Messages.{Said, get, get_ack, put, put_ack, freeze, held, update}
use Rattle.slots.specs.declared.letter.Body.{Body}
use Rattle.slots.specs.declared.letter.Body.TheVariants.{Get, GetAck, Put, PutAck, Freeze, Held, Update}
use Rattle.slots.specs.declared.letter.Letter.{Letter}
use Rattle.slots.specs.Letters.{addressed}
use Rattle.slots.specs.Slots.{empty_count, lowest_empty, may_send, sent_to_each, occupied, lost}
use Rattle.tables.specs.declared.copy.SheetCopy.{SheetCopy}
use Rattle.tables.specs.declared.members.Members.{Members}
use Rattle.tables.specs.Copies.{is_higher}
use Rattle.tables.specs.Members.{listed, size, primary, place_of, list_of}
use Rattle.tables.specs.Moments.{next_moment}
use Rattle.cases.specs.Examples.{bytes_500_510}
use Rattle.cases.specs.FrameExamples.{a_get, a_put, first_tag}

-- a tag of a version and a node
abbrev pub tag : ℕ → ℕ → Tag
tag version node = record { version = version; node = node }

-- the members 2, 5 and 3
abbrev pub three : Members
three = record { nodes = 2 ∷ 5 ∷ 3 ∷ 0 ∷ 0 ∷ 0 ∷ 0 ∷ []; count = 3 }

-- the same numbers with a count that no lawful list has
abbrev pub miscounted : ℕ → Members
miscounted count = record three { count = count }

-- a slot that is empty though not all zeros
abbrev pub left_over : List ℕ
left_over = 0 ∷ replicate 31 9

-- four slots: 0 and 2 hold a get and a put, 1 and 3 are empty
abbrev pub four_slots : List ℕ
four_slots = a_get ++ (replicate 32 0 ++ (a_put ++ left_over))

-- a get of node 1, with number 0 and operation 1
abbrev pub a_letter : Letter
a_letter = record { sender = 1; number = 0; body = Get 1 }

-- its bytes to a node
abbrev pub get_to : ℕ → List ℕ
get_to node = 0x01 ∷ node ∷ 0x01 ∷ 0x00 ∷ 0x00 ∷ 0x01 ∷ replicate 26 0

-- the copy of version 1 of node 1 with the quote 500, 510, in sixteen bytes
abbrev pub a_copy : SheetCopy
a_copy = record { tag = first_tag; content = bytes_500_510 ++ replicate 8 0 }

-- what a letter of node 1, with number 3, says to node 2 where the content is a quote
abbrev pub says_to_2 : Body → Said
says_to_2 body = addressed 8 (record { sender = 1; number = 3; body = body }) 2

-- the head of such a message
abbrev pub to_2 : Head
to_2 = record { receiver = 2; sender = 1; number = 3 }

pub record TableExamples : Type 0 where
  -- Tags compare by version, then by node.
  pub version_first : is_higher (tag 2 1) (tag 1 9) ≡ true
  pub then_node : is_higher (tag 2 2) (tag 2 1) ≡ true
  pub not_above_itself : is_higher (tag 2 1) (tag 2 1) ≡ false
  -- Members: their list, size, primary and places.
  pub list_of_three : list_of (2 ∷ 5 ∷ 3 ∷ []) ≡ three
  pub size_of_three : size three ≡ 3
  pub primary_of_three : primary three ≡ 2
  pub place_of_node_3 : place_of three 3 ≡ Some 2
  pub no_place_of_node_1 : place_of three 1 ≡ None
  -- Numbers behind the count are no members. A count above seven counts as seven; with a count of 0 there are no members.
  pub two_counted : place_of (miscounted 2) 3 ≡ None
  pub nine_counted : size (miscounted 9) ≡ 7
  pub none_counted : listed (miscounted 0) ≡ []
  pub no_primary : primary (miscounted 0) ≡ 0
  -- The moment after the last is the last.
  pub after_12 : next_moment 12 ≡ 13
  pub after_the_last : next_moment 4294967295 ≡ 4294967295
  -- Of four slots 1 and 3 are empty.
  pub two_are_empty : empty_count four_slots ≡ 2
  pub lowest_is_1 : lowest_empty four_slots ≡ Some 1
  pub two_may_be_sent : may_send four_slots 2 ≡ Ok tt
  pub three_may_not : may_send four_slots 3 ≡ Err TooFewSlots
  pub refused_with_19 : number TooFewSlots ≡ 19
  -- A get to nodes 2 and 5 goes into these, in this order; a third one, to node 3, would find none.
  pub sent_to_2_and_5 : sent_to_each 8 four_slots (2 ∷ 5 ∷ []) a_letter ≡ a_get ++ (get_to 2 ++ (a_put ++ get_to 5))
  pub third_is_left_out : sent_to_each 8 four_slots (2 ∷ 5 ∷ 3 ∷ []) a_letter ≡ a_get ++ (get_to 2 ++ (a_put ++ get_to 5))
  -- A letter of each kind as a message to node 2; of sixteen bytes a quote has the first eight.
  pub get_said : says_to_2 (Get 5) ≡ get to_2 5
  pub get_ack_said : says_to_2 (GetAck 5) ≡ get_ack to_2 5
  pub put_said : says_to_2 (Put 5 a_copy) ≡ put to_2 5 first_tag bytes_500_510
  pub put_ack_said : says_to_2 (PutAck 5) ≡ put_ack to_2 5
  pub freeze_said : says_to_2 (Freeze 5) ≡ freeze to_2 5
  pub held_said : says_to_2 (Held 5 a_copy) ≡ held to_2 5 first_tag bytes_500_510
  pub update_said : says_to_2 (Update three a_copy) ≡ update to_2 3 (2 ∷ 5 ∷ 3 ∷ 0 ∷ 0 ∷ 0 ∷ 0 ∷ []) first_tag bytes_500_510
  -- Losing the frame in slot 2; that in slot 0, and then again; slots that are empty or not there.
  pub slot_2_lost : lost four_slots 2 ≡ (Ok tt, a_get ++ (replicate 64 0 ++ left_over))
  pub slot_0_lost : lost four_slots 0 ≡ (Ok tt, replicate 64 0 ++ (a_put ++ left_over))
  pub slot_0_lost_again : lost (replicate 64 0 ++ (a_put ++ left_over)) 0 ≡ (Err NoSlot, replicate 64 0 ++ (a_put ++ left_over))
  pub slot_3_is_empty : lost four_slots 3 ≡ (Err NoSlot, four_slots)
  pub no_slot_4 : lost four_slots 4 ≡ (Err NoSlot, four_slots)
  pub slot_2_holds_a_put : occupied four_slots 2 ≡ Ok a_put
  -- Bytes behind the last whole slot belong to none.
  pub rest_is_no_slot : empty_count (replicate 63 0) ≡ 1
  pub rest_stays : sent_to_each 8 (replicate 40 0) (2 ∷ 5 ∷ []) a_letter ≡ get_to 2 ++ replicate 8 0
