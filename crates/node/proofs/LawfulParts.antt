-- Copies, members and sets that stay within their bounds.
use Rattle.std.proofs.Common.{◌≡◌, ℕ, ◌-◌, ◌^◌, ◌<◌, ◌≤◌, ap, List, ◌++◌, length, take, replicate, refl, sym, subst, arith}
use Rattle.std.proofs.lemmas.Grind.{same_number_lists}
use Rattle.std.proofs.Math.Seq.{take-append_seam}
use Rattle.std.proofs.lemmas.List.{take_all, length-take-le, get_or-replicate, length-replicate, get_or-take}
use Rattle.std.proofs.lemmas.Nat.{or_lt, pow_below}
use Rattle.content.specs.Bytes.{padded, widest}
use Rattle.quorum.specs.Limits.{largest_group}
use Rattle.frame.specs.declared.message.Tag.{Tag}
use Rattle.frame.specs.Lawful.{LawfulTag, LawfulContent, LawfulMembers}
use Rattle.tables.specs.declared.copy.SheetCopy.{SheetCopy}
use Rattle.tables.specs.Copies.{is_higher, copy_of, newer}
use Rattle.tables.specs.Members.{list_of}
use Rattle.tables.specs.Lawful.{LawfulList, LawfulSheetCopy}
use Rattle.node.proofs.Options.{either_way}
use Rattle.node.specs.Rules.{joined}

-- The contents of a kind have its width, which is at most 16.
module _ {C : Type 0} (width : ℕ) (meaning : C → List ℕ) (wide : (content : C) → length (meaning content) ≡ width) (bounded : width ≤ widest) where
  -- a content from a frame is laid out whole
  pub copy_from_frame : (tag : Tag) (content : List ℕ) → LawfulTag tag → LawfulContent meaning content → LawfulSheetCopy meaning (copy_of tag content)
  copy_from_frame tag content tag_lawful (value, means) =
      record {
        tag_lawful = tag_lawful;
        content_lawful = (value, rw (take_all widest content (omega (arith, wide value, ap length means))) (ap padded means));
      }

  -- and the first bytes of what is laid out are the content
  pub content_for_frame : (copy : SheetCopy) → LawfulSheetCopy meaning copy → LawfulContent meaning (take width copy.content)
  content_for_frame copy lawful = (lawful.content_lawful.0, grind (arith, lawful.content_lawful.1, wide lawful.content_lawful.0, take-append_seam))

-- the newer of two lawful copies is one of them
pub newer_lawful : {C : Type 0} (meaning : C → List ℕ) (old new : SheetCopy) → LawfulSheetCopy meaning old → LawfulSheetCopy meaning new → LawfulSheetCopy meaning (newer old new)
newer_lawful meaning old new old_lawful new_lawful = either_way (LawfulSheetCopy meaning) (is_higher new.tag old.tag) new_lawful old_lawful

-- a set below 2^7 with a place below 7 joined has no other places
pub joined_bounded : (set place : ℕ) → set < 2 ^ largest_group → place < largest_group → joined set place < 2 ^ largest_group
joined_bounded set place bounded below = or_lt largest_group set (2 ^ place) bounded (pow_below place largest_group below)

-- Lawful members are taken as the frame has them: behind those counted it has zeros.
pub members_taken_whole : (count : ℕ) (members : List ℕ) → LawfulMembers count members → list_of (take count members) ≡ record { nodes = members; count = count }
members_taken_whole count members lawful =
    let long : length (take count members) ≡ count = length-take-le count members (omega (arith, lawful.seven, lawful.counted)) in
    let all : take largest_group (take count members) ≡ take count members = take_all largest_group (take count members) (omega (arith, long, lawful.counted)) in
    let same : take count members ++ replicate (largest_group - count) 0 ≡ members =
    grind (arith, lawful.seven, lawful.counted, lawful.then_zeros, long, same_number_lists, get_or-take {A = ℕ}, get_or-replicate {A = ℕ}, length-replicate {A = ℕ}) in
    rw (all, long, same) refl

pub members_taken_lawful : (count : ℕ) (members : List ℕ) → LawfulMembers count members → LawfulList (list_of (take count members))
members_taken_lawful count members lawful = subst LawfulList (sym (members_taken_whole count members lawful)) lawful
