-- What checking answers of a slot, in terms of what the slot holds.
use Rattle.std.proofs.Common.{◌≡◌, ℕ, ◌≤◌, List, length, Ok, Err, Option, Result, refl, ap, arith}
use Rattle.std.proofs.lemmas.Bool.Decides.{nat_tests}
use Rattle.content.specs.Bytes.{widest}
use Rattle.frame.specs.declared.fault.FrameFault.{FrameFault}
use Rattle.frame.specs.declared.kind.FrameKind.{FrameKind}
use Rattle.frame.specs.Check.{checked, checked_kind, frame_in, kind_takes, numbered}
use Rattle.frame.specs.Fields.{byte_at}
use Rattle.frame.specs.Kinds.{kind_number, kind_from}
use Rattle.frame.specs.Limits.{slot_size}
use Rattle.frame.proofs.Passing.{Holds, holds_from_found, found_from_holds}

-- no kind of frame takes more than a slot
pub kind_within_slot : (width : ℕ) (kind : FrameKind) → width ≤ widest → kind_takes width kind ≤ slot_size
kind_within_slot width kind bounded = grind arith

-- the kind of a number has that number
number_of_kind : (n : ℕ) (kind : FrameKind) → kind_from n ≡ Ok kind → kind_number kind ≡ n
number_of_kind n kind is = grind (arith, nat_tests)

module _ {C : Type 0} (width : ℕ) (reads : List ℕ → Option C) (slot : List ℕ) where
  -- a frame that passes takes no more than its slot
  pub taken_within_slot : (kind : FrameKind) (x : FrameKind × ℕ) → width ≤ widest → checked_kind width reads slot kind ≡ Ok x → x.1 ≤ slot_size
  taken_within_slot kind x bounded same = grind (arith, kind_within_slot width kind bounded)

  -- what the slot holds is checked as its kind, and as so many bytes
  pub checked_from_holds : (kind : FrameKind) → Holds width reads slot kind → checked width reads slot ≡ Ok (kind_number kind, kind_takes width kind)
  checked_from_holds kind holds = ap numbered (found_from_holds width reads slot kind holds)

  passed : (found : Result (FrameKind × ℕ) FrameFault) (x : ℕ × ℕ) → frame_in width reads slot ≡ found → numbered found ≡ Ok x
      → (byte_at slot 0 ≡ x.0) × ((kind : FrameKind) × (Holds width reads slot kind × ((kind_number kind, kind_takes width kind) ≡ x)))
  passed (Ok y) x is same =
      let (kind, (holds, found)) = holds_from_found width reads slot y is in
      let number = number_of_kind (byte_at slot 0) kind holds.first in
      (grind arith, (kind, (holds, grind arith)))
  passed (Err fault) x is same = cc

  -- a slot that passed the check holds a frame: its first byte is the kind, and it takes so many bytes
  pub checked_passed : (x : ℕ × ℕ) → checked width reads slot ≡ Ok x → (byte_at slot 0 ≡ x.0) × ((kind : FrameKind) × (Holds width reads slot kind × ((kind_number kind, kind_takes width kind) ≡ x)))
  checked_passed x same = passed (frame_in width reads slot) x refl same

  -- it has 32 bytes
  pub checked_length : (x : ℕ × ℕ) → checked width reads slot ≡ Ok x → length slot ≡ slot_size
  checked_length x same = (checked_passed x same).1.1.0.long
