-- What the bytes of a message tell, read as its kind, is that message, lawful or not.
use Rattle.std.proofs.Common.{◌≡◌, ℕ, ◌-◌, true, List, ◌++◌, length, drop, replicate, Ok, Option, refl, arith}
use Rattle.std.proofs.lemmas.List.{append_assoc, take_at, drop_at}
use Rattle.std.proofs.lemmas.Bool.Decides.{nat_tests}
use Rattle.quorum.specs.Limits.{largest_group}
use Rattle.frame.specs.declared.message.Head.{Head}
use Rattle.frame.specs.declared.message.Tag.{Tag}
use Rattle.frame.specs.Bytes.{tag_bytes, update_bytes, filled, bytes_of, kind_of, fits, WordsFit}
use Rattle.frame.specs.Fields.{byte_at, members_of}
use Rattle.frame.specs.Kinds.{kind_from}
use Rattle.frame.specs.Limits.{slot_size}
use Rattle.frame.specs.Messages.{Said, put, held, update, told, reading}
use Rattle.frame.proofs.Copies.{copy_back}
use Rattle.frame.proofs.Passing.{told_from_read}
use Rattle.frame.proofs.Places.{word_of_bytes}

-- the zeros behind bytes that take so many
abbrev pub zeros_behind : List ℕ → ℕ
zeros_behind bytes = slot_size - length bytes

-- the bytes of an update: its members, and what stands behind them
pub update_parts : (head : Head) (count : ℕ) (members : List ℕ) (tag : Tag) (content : List ℕ) → length members ≡ largest_group → let bytes = update_bytes head count members tag content in
    (members_of (filled bytes) ≡ members) × (drop 12 (filled bytes) ≡ tag_bytes tag ++ (content ++ replicate (zeros_behind bytes) 0))
update_parts head count members tag content seven =
    (rw (append_assoc members _ _, take_at members _ largest_group seven), rw (append_assoc members _ _, drop_at members _ largest_group seven))

-- told as its kind, the bytes of a message give the message
pub told_back : (width : ℕ) (message : Said) → fits width message ≡ true → WordsFit message → told width (bytes_of message) (kind_of message) ≡ message
told_back width (put head operation tag content) fitting small =
    let back = copy_back width (bytes_of (put head operation tag content)) 6 tag content _ refl small.1 (grind (arith, nat_tests)) in
    cc (word_of_bytes operation small.0)
told_back width (held head operation tag content) fitting small =
    let back = copy_back width (bytes_of (held head operation tag content)) 6 tag content _ refl small.1 (grind (arith, nat_tests)) in
    cc (word_of_bytes operation small.0)
told_back width (update head count members tag content) fitting small =
    let (seven, size) : (length members ≡ largest_group) × (length content ≡ width) = grind (arith, nat_tests) in
    let (members_is, behind) = update_parts head count members tag content seven in
    let back = copy_back width (bytes_of (update head count members tag content)) 12 tag content _ behind small size in
    cc
told_back width message fitting small = grind (arith, word_of_bytes)

-- their first byte gives the kind
pub first_byte : (message : Said) → kind_from (byte_at (bytes_of message) 0) ≡ Ok (kind_of message)
first_byte message = grind arith

-- so nothing but that message is read of them
pub nothing_else_is_read : {C : Type 0} (width : ℕ) (reads : List ℕ → Option C) (message other : Said) → fits width message ≡ true → WordsFit message
    → reading width reads (bytes_of message) ≡ Ok other → other ≡ message
nothing_else_is_read width reads message other fitting small same =
    let (kind, (holds, is)) = told_from_read width reads (bytes_of message) other same in
    cc (holds.first, first_byte message, is, told_back width message fitting small)
