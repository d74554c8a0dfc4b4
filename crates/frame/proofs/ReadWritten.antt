-- Whatever is read of a slot is lawful, and the slot holds what is written of it.
use Rattle.std.proofs.Common.{◌≡◌, ℕ, ◌+◌, true, List, ◌++◌, length, take, drop, Ok, Option, Result, sym, ◌∙◌, arith}
use Rattle.std.proofs.lemmas.List.{append_assoc, drop-drop, drop_more, length-append, length-drop, length-take, length-take-le, take-append-drop}
use Rattle.std.proofs.lemmas.Bool.Decides.{nat_tests}
use Rattle.content.specs.Bytes.{AllBytes}
use Rattle.quorum.specs.Limits.{largest_group}
use Rattle.frame.specs.declared.fault.FrameFault.{FrameFault}
use Rattle.frame.specs.declared.kind.FrameKind.{FrameKind}
use Rattle.frame.specs.declared.kind.FrameKind.TheVariants.{Put, Held, Update}
use Rattle.frame.specs.Bytes.{head_bytes, copy_bytes, taken, filled, bytes_of}
use Rattle.frame.specs.Check.{copy_runs}
use Rattle.frame.specs.Fields.{byte_at, word_at, all_zero, members_of}
use Rattle.frame.specs.Kinds.{kind_number, kind_from}
use Rattle.frame.specs.Lawful.{Lawful, LawfulCopy, LawfulAndWritten}
use Rattle.frame.specs.Limits.{slot_size}
use Rattle.frame.specs.Messages.{Said, head_of, tag_at, told, reading}
use Rattle.frame.proofs.Members.{members_from_pass, member_from_pass}
use Rattle.frame.proofs.Copies.{content_read_lawful, copy_stands}
use Rattle.frame.proofs.Passing.{Holds, told_from_read}
use Rattle.frame.proofs.Laws.{Laws}
use Rattle.frame.proofs.Places.{word_then_rest, rest_is_zeros}
use Rattle.frame.proofs.Runs.{PassAll}
use Rattle.frame.proofs.ToldBack.{zeros_behind}

-- a slot of 32 bytes
module _ (slot : List ℕ) (bytes : AllBytes slot) (long : length slot ≡ slot_size) where
  head_stands : (kind : FrameKind) → kind_from (byte_at slot 0) ≡ Ok kind → slot ≡ head_bytes kind (head_of slot) ++ drop 4 slot
  head_stands kind first =
      let number : byte_at slot 0 ≡ kind_number kind = grind (arith, nat_tests) in
      cc (drop_more slot 0 0 (omega arith), drop_more slot 1 0 (omega arith), drop_more slot 2 0 (omega arith), drop_more slot 3 0 (omega arith))

  -- what the kind of content promises
  module _ {C : Type 0} (width : ℕ) (meaning : C → List ℕ) (reads : List ℕ → Option C) (laws : Laws width meaning reads) where
    copy_told : (kind : FrameKind) → kind_from (byte_at slot 0) ≡ Ok kind → PassAll (copy_runs width reads slot) → all_zero (drop (9 + width) slot) ≡ true
        → LawfulCopy meaning (head_of slot) (word_at slot 4) (tag_at slot 6) (take width (drop 9 slot))
        × (filled (copy_bytes kind (head_of slot) (word_at slot 4) (tag_at slot 6) (take width (drop 9 slot))) ≡ slot)
    copy_told kind first pass rest =
        let bounded = laws.bounded in
        let content = content_read_lawful width meaning reads laws slot 9 bytes pass.1.1.1.0.0 in
        let room : 9 + width + zeros_behind (taken (told width slot Put)) ≡ length slot = omega (arith, length-take {A = ℕ}, length-drop {A = ℕ}) in
        (grind (arith, nat_tests), rw (← (copy_stands width slot 6 _ bytes room rest), ← (word_then_rest slot 4 (omega arith) bytes)) (sym (head_stands kind first)))

    told_fits : (kind : FrameKind) → Holds width reads slot kind → Lawful meaning (told width slot kind) × (bytes_of (told width slot kind) ≡ slot)
    told_fits Put held = copy_told Put held.first held.pass held.rest
    told_fits Held held = copy_told Held held.first held.pass held.rest
    told_fits Update held =
        let bounded = laws.bounded in
        let pass = held.pass in
        let seven : length (members_of slot) ≡ largest_group = length-take-le largest_group (drop 5 slot) (simp length-drop (omega arith)) in
        let room : 15 + width + zeros_behind (taken (told width slot Update)) ≡ length slot = omega (arith, length-append {A = ℕ}, length-take {A = ℕ}, length-drop {A = ℕ}) in (
          record {
            route = grind (arith, nat_tests);
            number_bounded = grind (arith, nat_tests);
            members_lawful = members_from_pass (byte_at slot 4) (members_of slot) (member_from_pass slot pass.1.1.0) pass.1.0.1.0 seven;
            tag_lawful = grind (arith, nat_tests);
            content_lawful = content_read_lawful width meaning reads laws slot 15 bytes pass.1.1.1.1.0.0;
          },
          rw (
            append_assoc (members_of slot) _ _,
            ← (copy_stands width slot 12 _ bytes room held.rest),
            ← (drop-drop largest_group 5 slot),
            take-append-drop largest_group (drop 5 slot),
            ← (drop_more slot 4 0 (omega arith)),
          ) (sym (head_stands Update held.first)),
        )
    told_fits kind held =
        (grind (arith, nat_tests), cc (head_stands kind held.first, word_then_rest slot 4 (omega arith) bytes, rest_is_zeros slot 6 26 (omega arith) held.rest))

-- an answer that is what reading answers
pub answer_was_written : {C : Type 0} (width : ℕ) (meaning : C → List ℕ) (reads : List ℕ → Option C) → Laws width meaning reads → (slot : List ℕ) (answer : Result Said FrameFault)
    → AllBytes slot → answer ≡ reading width reads slot → LawfulAndWritten meaning slot answer
answer_was_written width meaning reads laws slot answer bytes is message same =
    let (kind, (holds, tells)) = told_from_read width reads slot message (sym is ∙ same) in
    rw tells at (told_fits slot bytes holds.long width meaning reads laws kind holds)
