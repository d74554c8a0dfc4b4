-- The loop that writes the records of an opening, one record on.
use Rattle.std.proofs.Common.{◌≡◌, ℕ, suc, ◌+◌, ◌-◌, ◌<◌, List, ◌++◌, ◌∷◌, map, length, drop, set, append_assoc, ◌∙◌, ap, arith}
use Rattle.std.specs.List.{range_with_len}
use Rattle.tables.specs.declared.copy.SheetCopy.{SheetCopy}
use Rattle.tables.specs.declared.members.Members.{Members}
use Rattle.tables.specs.declared.records.NodeRecord.{NodeRecord}
use Rattle.node.specs.Applying.{with_record}
use Rattle.desk.specs.Opening.{opened_nodes, opening_record}
use Rattle.std.proofs.lemmas.List.{set-append_right, drop_more}
use Rattle.std.proofs.lemmas.List.FromFn.{length-map-range_with_len, map-range_with_len_more}

-- to write at the first place that is left
write_first : {X : Type 0} (xs : List X) (i : ℕ) (y : X) → i < length xs → set (drop i xs) (i - i) y ≡ y ∷ drop (i + 1) xs
write_first xs i y inside = let first : i - i ≡ 0 = omega arith in rw (first, drop_more xs i y inside)

-- To write at the first place that is left makes one more that is written, and leaves one less.
pub written_next : {X : Type 0} (f : ℕ → X) (xs : List X) (i : ℕ) → i < length xs
    → set (map f (range_with_len 0 i) ++ drop i xs) i (f i) ≡ map f (range_with_len 0 (i + 1)) ++ drop (i + 1) xs
written_next f xs i inside =
    let written = map f (range_with_len 0 i) in
    set-append_right written (drop i xs) i i (f i) (length-map-range_with_len f 0 i) (omega arith)
    ∙ rw (write_first xs i (f i) inside, map-range_with_len_more f 0 i i (omega arith), append_assoc)

-- To write the record of the next node opens one more.
pub node_opened : (nodes : List NodeRecord) (members : Members) (copy : SheetCopy) (place : ℕ) → place < length nodes
    → with_record (opened_nodes nodes place members copy) (place + 1) (opening_record members copy (place + 1)) ≡ opened_nodes nodes (place + 1) members copy
node_opened nodes members copy place inside =
    let next : place + 1 ≡ suc place = omega arith in
    ap (λ (node : ℕ). with_record (opened_nodes nodes place members copy) node (opening_record members copy node)) next
    ∙ written_next (λ (place : ℕ). opening_record members copy (suc place)) nodes place inside
