-- A copy in a slot: a tag, a content and the zeros behind it, at any place.
use Rattle.std.proofs.Common.{◌≡◌, ℕ, ◌+◌, ◌^◌, ◌<◌, true, eqb, List, [], ◌∷◌, ◌++◌, length, take, drop, replicate, is_some, Some, Option, sym, refl, ap, ◌∙◌, arith}
use Rattle.std.proofs.lemmas.List.{drop-drop, drop_at, drop_more, get_or-drop, take-append-drop, take_at}
use Rattle.std.proofs.lemmas.Bool.Decides.{nat_tests}
use Rattle.std.proofs.lemmas.List.Elements.{All-replicate}
use Rattle.std.proofs.lemmas.List.Sums.{list_all-from_AllPass}
use Rattle.content.specs.Bytes.{AllBytes}
use Rattle.content.proofs.Slices.{part_is_bytes}
use Rattle.frame.specs.declared.message.Tag.{Tag}
use Rattle.frame.specs.Bytes.{tag_bytes}
use Rattle.frame.specs.Fields.{byte_at, word_at, all_zero, tag_fields, content_fields}
use Rattle.frame.specs.Lawful.{LawfulTag, LawfulContent}
use Rattle.frame.specs.Messages.{tag_at}
use Rattle.frame.proofs.Laws.{Laws}
use Rattle.frame.proofs.Places.{word_of_bytes, word_then_rest, rest_is_zeros}
use Rattle.frame.proofs.Runs.{PassAll}

-- a tag, a content of this width and zeros that stand at a place of a slot are what is read there
pub copy_back : (width : ℕ) (slot : List ℕ) (i : ℕ) (tag : Tag) (content : List ℕ) (n : ℕ) → drop i slot ≡ tag_bytes tag ++ (content ++ replicate n 0) → tag.version < 2 ^ 16
    → length content ≡ width → (tag_at slot i ≡ tag) × ((take width (drop (i + 3) slot) ≡ content) × (all_zero (drop (i + 3 + width) slot) ≡ true))
copy_back width slot i tag content n stands small size =
    let version : word_at slot i ≡ tag.version = grind (arith, word_of_bytes, rw stands at (get_or-drop i slot 0 0), rw stands at (get_or-drop i slot 1 0)) in
    let node : byte_at slot (i + 2) ≡ tag.node = sym (rw stands at (get_or-drop i slot 2 0)) in
    let behind : drop (i + 3) slot ≡ content ++ replicate n 0 = sym (rw stands at (drop-drop 3 i slot)) in
    let zeros = list_all-from_AllPass (λ b. eqb b 0) (replicate n 0) (All-replicate (λ b. eqb b 0 ≡ true) n 0 refl) in (
      λ k. record { version = version k; node = node k },
      (rw behind (take_at content _ width size), rw (← (drop-drop width (i + 3) slot), behind, drop_at content _ width size) zeros),
    )

-- what the kind of content promises
module _ {C : Type 0} (width : ℕ) (meaning : C → List ℕ) (reads : List ℕ → Option C) (laws : Laws width meaning reads) where
  pub content_size : (content : List ℕ) → LawfulContent meaning content → length content ≡ width
  content_size content (value, same) = ap length (sym same) ∙ laws.fills value

  -- a lawful copy that stands there passes, with the rest behind it
  pub copy_passes : (slot : List ℕ) (i : ℕ) (tag : Tag) (content : List ℕ) (n : ℕ) → drop i slot ≡ tag_bytes tag ++ (content ++ replicate n 0) → LawfulTag tag → LawfulContent meaning content
      → PassAll (tag_fields slot i ∷ content_fields width reads slot (i + 3) ∷ []) × (all_zero (drop (i + 3 + width) slot) ≡ true)
  copy_passes slot i tag content n stands tag_lawful content_lawful =
      let (tag_is, parts) = copy_back width slot i tag content n stands (omega arith) (content_size content content_lawful) in
      let version = ap (λ (t : Tag). t.version) tag_is in
      let node = ap (λ (t : Tag). t.node) tag_is in
      grind (arith, nat_tests, laws.reads_written content_lawful.0)

  -- a content that passes is lawful
  pub content_read_lawful : (slot : List ℕ) (i : ℕ) → AllBytes slot → is_some (reads (take width (drop i slot))) ≡ true → LawfulContent meaning (take width (drop i slot))
  content_read_lawful slot i bytes known =
      let (value, is) : (value : C) × (reads (take width (drop i slot)) ≡ Some value) = grind arith in
      (value, laws.writes_read _ value (part_is_bytes i width slot bytes) is)

-- a copy stands wherever there is room for one and the n bytes behind it are 0
pub copy_stands : (width : ℕ) (slot : List ℕ) (i n : ℕ) → AllBytes slot → i + 3 + width + n ≡ length slot → all_zero (drop (i + 3 + width) slot) ≡ true
    → drop i slot ≡ tag_bytes (tag_at slot i) ++ (take width (drop (i + 3) slot) ++ replicate n 0)
copy_stands width slot i n bytes long rest =
    let third : i + 2 + 1 ≡ i + 3 = omega arith in
    cc (
      word_then_rest slot i (omega arith) bytes,
      drop_more slot (i + 2) 0 (omega arith),
      take-append-drop width (drop (i + 3) slot),
      drop-drop width (i + 3) slot,
      rest_is_zeros slot (i + 3 + width) n long rest,
    )
