-- What bytes that are laid into a slot leave there.
use Rattle.std.proofs.Common.{◌≡◌, ℕ, ◌+◌, ◌-◌, List, ◌++◌, length, arith, length-append}
use Rattle.std.proofs.lemmas.List.{append_assoc, drop_at, drop-drop, drop-replicate, take_at}
use Rattle.frame.specs.declared.message.Tag.{Tag}
use Rattle.frame.specs.Bytes.{tag_bytes, filled}
use Rattle.frame.specs.Limits.{slot_size}
use Rattle.writer.specs.Layout.{laid}

-- bytes laid right behind what stands in a slot that is else 0
pub laid_behind : (slot front bytes : List ℕ) (at : ℕ) → slot ≡ filled front → length front ≡ at → laid slot at bytes ≡ filled (front ++ bytes)
laid_behind slot front bytes at stands long =
    let left : slot_size - length front - length bytes ≡ slot_size - length (front ++ bytes) = simp length-append (omega arith) in
    rw (stands, take_at front _ at long, ← (drop-drop (length bytes) at (filled front)), drop_at front _ at long, drop-replicate, append_assoc front bytes _, left)

-- a tag and a content laid right behind it
pub copy_behind : (slot front content : List ℕ) (tag : Tag) (at : ℕ) → slot ≡ filled front → length front ≡ at
    → laid (laid slot at (tag_bytes tag)) (at + 3) content ≡ filled (front ++ (tag_bytes tag ++ content))
copy_behind slot front content tag at stands long =
    let tagged = laid_behind slot front (tag_bytes tag) at stands long in
    let size = length-append front (tag_bytes tag) in
    rw (← (append_assoc front (tag_bytes tag) content)) (laid_behind _ (front ++ tag_bytes tag) content (at + 3) tagged (omega arith))
