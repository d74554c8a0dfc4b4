-- The worked examples of docs/frames.md, as equations of the definitions that the library's contracts cite.
use Rattle.std.specs.Prelude.{◌≡◌, ℕ, List, [], ◌∷◌, ◌++◌, length, replicate, take, map, codes, Ok, Err, Result, ◌≢◌, slice_set}
use Rattle.refusal.specs.declared.Refusal.TheVariants.{NoSlot, Unlawful}
use Rattle.refusal.specs.Numbers.{number}
use Rattle.quote.specs.Quote.{quote_read}
use Rattle.curve.specs.Curve.{curve_read}
use Rattle.frame.specs.declared.fault.Cause.TheVariants.{Kind, Field, Content, Rest}
use Rattle.frame.specs.declared.fault.FrameFault.{FrameFault}
use Rattle.frame.specs.declared.message.Head.{Head}
use Rattle.frame.specs.declared.message.Tag.{Tag}
use Rattle.frame.specs.Bytes.{bytes_of}
use Rattle.frame.specs.Check.{checked}
use Rattle.frame.specs.Faults.{fault, number as cause_number, shown_fault}
use Rattle.frame.specs.Kinds.{kind_number, shown_kind}
use Rattle.frame.specs.declared.kind.FrameKind.{FrameKind}
use Rattle.frame.specs.declared.kind.FrameKind.TheVariants.{Get, GetAck, Put, PutAck, Freeze, Held, Update}
use Rattle.frame.specs.Messages.{Said, get, put, update}
use Rattle.writer.specs.Layout.{laid}
use Rattle.writer.specs.Table.{placed}
use Rattle.cases.specs.Examples.{bytes_500_510, bytes_of_curve}

-- the bytes of a get with number 0 and operation 1, from machine 1 to machine 2 as all of these
abbrev pub a_get : List ℕ
a_get = 0x01 ∷ 0x02 ∷ 0x01 ∷ 0x00 ∷ 0x00 ∷ 0x01 ∷ replicate 26 0

-- of a put with the tag (1, 1) and the quote 500, 510
abbrev pub a_put : List ℕ
a_put = 0x03 ∷ 0x02 ∷ 0x01 ∷ 0x00 ∷ 0x00 ∷ 0x01 ∷ 0x00 ∷ 0x01 ∷ 0x01 ∷ (bytes_500_510 ++ replicate 15 0)

-- of an update with number 1, members 2, 3, 4, and that tag and quote
abbrev pub an_update : List ℕ
an_update =
    0x07 ∷ 0x02 ∷ 0x01 ∷ 0x01 ∷ 0x03 ∷ 0x02 ∷ 0x03 ∷ 0x04 ∷ 0x00 ∷ 0x00 ∷ 0x00 ∷ 0x00 ∷ 0x00 ∷ 0x01 ∷ 0x01 ∷ (bytes_500_510 ++ replicate 9 0)

-- the same update of the curve -25, 10, 130, 275
abbrev pub a_curve_update : List ℕ
a_curve_update = take 15 an_update ++ (bytes_of_curve ++ (0x00 ∷ []))

-- what they say: the head of get and put, the tag, an update
abbrev pub from_1_to_2 : Head
from_1_to_2 = record { receiver = 2; sender = 1; number = 0 }

abbrev pub first_tag : Tag
first_tag = record { version = 1; node = 1 }

abbrev pub update_of : List ℕ → Said
update_of content = update (record { receiver = 2; sender = 1; number = 1 }) 3 (2 ∷ 3 ∷ 4 ∷ 0 ∷ 0 ∷ 0 ∷ 0 ∷ []) first_tag content

-- what checking answers where the content is a quote, and where it is a curve
abbrev pub quote_checked : List ℕ → Result (ℕ × ℕ) FrameFault
quote_checked slot = checked 8 quote_read slot

abbrev pub curve_checked : List ℕ → Result (ℕ × ℕ) FrameFault
curve_checked slot = checked 16 curve_read slot

-- the kinds of frame
abbrev pub kinds : List FrameKind
kinds = Get ∷ GetAck ∷ Put ∷ PutAck ∷ Freeze ∷ Held ∷ Update ∷ []

pub record FrameExamples : Type 0 where
  -- Four frames: a get, a put and two updates; how they are written, and their kinds and lengths.
  pub get_written : bytes_of (get from_1_to_2 1) ≡ a_get
  pub get_checked : quote_checked a_get ≡ Ok (1, 6)
  pub put_written : bytes_of (put from_1_to_2 1 first_tag bytes_500_510) ≡ a_put
  pub put_checked : quote_checked a_put ≡ Ok (3, 17)
  pub update_written : bytes_of (update_of bytes_500_510) ≡ an_update
  pub update_checked : quote_checked an_update ≡ Ok (7, 23)
  pub curve_update_written : bytes_of (update_of bytes_of_curve) ≡ a_curve_update
  pub curve_update_checked : curve_checked a_curve_update ≡ Ok (7, 31)
  -- The numbers of all kinds and their names, the numbers of the causes, and how a fault is printed.
  pub kinds_numbered : map kind_number kinds ≡ 1 ∷ 2 ∷ 3 ∷ 4 ∷ 5 ∷ 6 ∷ 7 ∷ []
  pub kinds_printed : map shown_kind kinds ≡ codes "get" ∷ codes "get-ack" ∷ codes "put" ∷ codes "put-ack" ∷ codes "freeze" ∷ codes "held" ∷ codes "update" ∷ []
  pub causes_numbered : map cause_number (Kind ∷ Field ∷ Content ∷ Rest ∷ []) ≡ 1 ∷ 2 ∷ 3 ∷ 4 ∷ []
  pub fault_printed : shown_fault (fault Field 8) ≡ codes "cause 2 (field), offset 8"
  -- No slice but one of 32 bytes is a frame. Kind 8 is none, and an empty slot holds none, whatever follows. The rest is one field, the last.
  pub other_length : (slot : List ℕ) → (length slot ≢ 32) → quote_checked slot ≡ Err (fault Rest 0)
  pub kind_eight : (rest : List ℕ) → length rest ≡ 31 → quote_checked (8 ∷ rest) ≡ Err (fault Kind 0)
  pub empty_slot : (rest : List ℕ) → length rest ≡ 31 → quote_checked (0 ∷ rest) ≡ Err (fault Kind 0)
  pub get_rest : quote_checked (slice_set a_get 31 1) ≡ Err (fault Rest 6)
  pub curve_update_rest : curve_checked (slice_set a_curve_update 31 1) ≡ Err (fault Rest 31)
  -- The put with the highest lawful numbers, with the opening tag, and with one field changed: receiver, sender, number, operation, version, node, content, rest.
  pub put_highest : quote_checked (laid a_put 1 (16 ∷ 16 ∷ 16 ∷ 0x0F ∷ 0xFF ∷ 0x27 ∷ 0x0F ∷ 16 ∷ [])) ≡ Ok (3, 17)
  pub put_opening_tag : quote_checked (laid a_put 6 (0 ∷ 0 ∷ 0 ∷ [])) ≡ Ok (3, 17)
  pub put_receiver : quote_checked (slice_set a_put 1 17) ≡ Err (fault Field 1)
  pub put_sender : quote_checked (slice_set a_put 2 0) ≡ Err (fault Field 2)
  pub put_number : quote_checked (slice_set a_put 3 17) ≡ Err (fault Field 3)
  pub put_operation : quote_checked (laid a_put 4 (0x10 ∷ 0x00 ∷ [])) ≡ Err (fault Field 4)
  pub put_version : quote_checked (laid a_put 6 (0x27 ∷ 0x10 ∷ [])) ≡ Err (fault Field 6)
  pub put_node_without_version : quote_checked (slice_set a_put 7 0) ≡ Err (fault Field 8)
  pub put_version_without_node : quote_checked (slice_set a_put 8 0) ≡ Err (fault Field 8)
  pub put_node : quote_checked (slice_set a_put 8 17) ≡ Err (fault Field 8)
  pub put_content : quote_checked (slice_set a_put 12 0xFF) ≡ Err (fault Content 9)
  pub put_rest : quote_checked (slice_set a_put 31 1) ≡ Err (fault Rest 17)
  -- Of two faults the first field's is told.
  pub put_sender_before_node : quote_checked (slice_set (slice_set a_put 7 0) 2 0) ≡ Err (fault Field 2)
  pub put_node_before_content : quote_checked (slice_set (slice_set a_put 7 0) 12 0xFF) ≡ Err (fault Field 8)
  pub put_content_before_rest : quote_checked (slice_set (slice_set a_put 31 1) 12 0xFF) ≡ Err (fault Content 9)
  -- The update with the highest number and seven members, and with one field changed: number, count, a member that is no node, a repeated one, one behind the count, version, node, content, rest.
  pub update_highest : quote_checked (laid an_update 3 (16 ∷ 7 ∷ 16 ∷ 15 ∷ 14 ∷ 13 ∷ 12 ∷ 11 ∷ 10 ∷ [])) ≡ Ok (7, 23)
  pub update_number : quote_checked (slice_set an_update 3 0) ≡ Err (fault Field 3)
  pub update_count_none : quote_checked (slice_set an_update 4 0) ≡ Err (fault Field 4)
  pub update_count : quote_checked (slice_set an_update 4 8) ≡ Err (fault Field 4)
  pub update_member : quote_checked (slice_set an_update 5 17) ≡ Err (fault Field 5)
  pub update_member_none : quote_checked (slice_set an_update 6 0) ≡ Err (fault Field 6)
  pub update_member_repeated : quote_checked (slice_set an_update 7 2) ≡ Err (fault Field 7)
  pub update_member_behind_the_count : quote_checked (slice_set an_update 8 1) ≡ Err (fault Field 8)
  pub update_version : quote_checked (laid an_update 12 (0x27 ∷ 0x10 ∷ [])) ≡ Err (fault Field 12)
  pub update_node : quote_checked (slice_set an_update 14 0) ≡ Err (fault Field 14)
  pub update_content : quote_checked (slice_set an_update 18 0xFF) ≡ Err (fault Content 15)
  pub update_rest : quote_checked (slice_set an_update 31 1) ≡ Err (fault Rest 23)
  -- Of two faults the first field's is told.
  pub update_member_before_version : quote_checked (laid (slice_set an_update 7 2) 12 (0x27 ∷ 0x10 ∷ [])) ≡ Err (fault Field 7)
  pub update_node_before_content : quote_checked (slice_set (slice_set an_update 14 0) 18 0xFF) ≡ Err (fault Field 14)
  pub update_content_before_rest : quote_checked (slice_set (slice_set an_update 31 1) 18 0xFF) ≡ Err (fault Content 15)
  -- Into a table of two slots nothing goes as a third, and a put with no content goes into none.
  pub third_of_two : placed 8 (replicate 64 0) 2 (get from_1_to_2 1) ≡ (Err NoSlot, replicate 64 0)
  pub content_missing : placed 8 (replicate 64 0) 1 (put from_1_to_2 1 first_tag []) ≡ (Err Unlawful, replicate 64 0)
  pub refused_with_3 : number NoSlot ≡ 3
