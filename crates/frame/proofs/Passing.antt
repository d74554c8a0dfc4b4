-- A frame is found in a slot exactly if the slot holds one: the fields of its kind pass, and the rest is 0.
use Rattle.std.proofs.Common.{◌≡◌, ℕ, true, List, length, drop, Ok, Err, Option, Result, refl, arith}
use Rattle.std.proofs.lemmas.Bool.{eq-eqb}
use Rattle.std.proofs.lemmas.Bool.Decides.{nat_tests}
use Rattle.frame.specs.declared.fault.FrameFault.{FrameFault}
use Rattle.frame.specs.declared.kind.FrameKind.{FrameKind}
use Rattle.frame.specs.Check.{frame_in, checked_as, kind_runs, kind_takes}
use Rattle.frame.specs.Fields.{byte_at, all_zero}
use Rattle.frame.specs.Kinds.{kind_from}
use Rattle.frame.specs.Limits.{slot_size}
use Rattle.frame.specs.Messages.{Said, told, told_if, reading}
use Rattle.frame.proofs.Runs.{PassAll, runs_exactly}

-- a slot's fields of a kind pass, and the rest behind them is 0
pub record Holds {C : Type 0} (width : ℕ) (reads : List ℕ → Option C) (slot : List ℕ) (kind : FrameKind) : Type 0 where
  pub long : length slot ≡ slot_size
  pub first : kind_from (byte_at slot 0) ≡ Ok kind
  pub pass : PassAll (kind_runs width reads slot kind)
  pub rest : all_zero (drop (kind_takes width kind) slot) ≡ true

module _ {C : Type 0} (width : ℕ) (reads : List ℕ → Option C) (slot : List ℕ) where
  -- the slot holds a frame of a kind, as which it tells this
  abbrev pub Told : Said → Type 0
  Told message = (kind : FrameKind) × (Holds width reads slot kind × (told width slot kind ≡ message))

  -- the slot holds a frame of a kind, as which this is found
  abbrev pub Found : FrameKind × ℕ → Type 0
  Found x = (kind : FrameKind) × (Holds width reads slot kind × ((kind, kind_takes width kind) ≡ x))

  found_of_kind : (kind : Result FrameKind FrameFault) (x : FrameKind × ℕ) → length slot ≡ slot_size → kind_from (byte_at slot 0) ≡ kind
      → checked_as width reads slot kind ≡ Ok x → Found x
  found_of_kind (Ok kind) x long first same =
      let (pass, _) = (runs_exactly {X = Unit {0}} (kind_runs width reads slot kind) tt tt).0 (grind arith) in
      (kind, (record { long = long; first = first; pass = pass; rest = grind arith }, grind arith))
  found_of_kind (Err fault) x long first same = cc

  -- whatever is found is held
  pub holds_from_found : (x : FrameKind × ℕ) → frame_in width reads slot ≡ Ok x → Found x
  holds_from_found x same =
      let long : length slot ≡ slot_size = grind (arith, nat_tests) in
      found_of_kind (kind_from (byte_at slot 0)) x long refl (rw (eq-eqb (length slot) slot_size long) at same)

  told_of : (found : Result (FrameKind × ℕ) FrameFault) (message : Said) → frame_in width reads slot ≡ found → told_if width slot found ≡ Ok message → Told message
  told_of (Ok x) message is same =
      let (kind, (holds, found)) = holds_from_found x is in
      (kind, (holds, grind arith))
  told_of (Err fault) message is same = cc

  -- whatever is read was told
  pub told_from_read : (message : Said) → reading width reads slot ≡ Ok message → Told message
  told_from_read message same = told_of (frame_in width reads slot) message refl same

  -- and what the slot holds is found
  pub found_from_holds : (kind : FrameKind) → Holds width reads slot kind → frame_in width reads slot ≡ Ok (kind, kind_takes width kind)
  found_from_holds kind held =
      rw (eq-eqb (length slot) slot_size held.long, held.first, (runs_exactly {X = Unit {0}} (kind_runs width reads slot kind) tt tt).1 (held.pass, refl), held.rest)
