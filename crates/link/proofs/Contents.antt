-- A content of a kind, laid out in a record, comes back from a frame as it was.
use Rattle.std.proofs.Common.{◌≡◌, ℕ, List, take, Option, arith}
use Rattle.std.proofs.lemmas.List.{take_all, take_at}
use Rattle.content.specs.Bytes.{padded, widest}
use Rattle.frame.proofs.Laws.{Laws}
use Rattle.tables.specs.declared.copy.SheetCopy.{SheetCopy}
use Rattle.tables.specs.Copies.{laid_out, copy_of}
use Rattle.tables.specs.Lawful.{LawfulSheetCopy}

module _ {C : Type 0} (width : ℕ) (meaning : C → List ℕ) (reads : List ℕ → Option C) (laws : Laws width meaning reads) where
  -- a frame takes the first bytes of what is laid out, and these are laid out as before
  pub laid_out_again : (value : C) → laid_out (take width (padded (meaning value))) ≡ padded (meaning value)
  laid_out_again value =
      let few = laws.bounded in
      let long = laws.fills value in
      rw (take_at (meaning value) _ width long, take_all widest (meaning value) (omega arith))

  pub lawful_round_trip : (copy : SheetCopy) → LawfulSheetCopy meaning copy → copy_of copy.tag (take width copy.content) ≡ copy
  lawful_round_trip copy lawful =
      let (value, is) = lawful.content_lawful in
      let back : laid_out (take width copy.content) ≡ copy.content = rw (← is) (laid_out_again value) in
      λ k. record { tag = copy.tag; content = back k }
