-- Words and zeros at places of a slot.
use Rattle.std.proofs.Common.{◌≡◌, ℕ, ◌+◌, ◌*◌, ◌/◌, ◌%◌, ◌^◌, ◌<◌, true, eqb, List, ◌++◌, length, drop, replicate, arith}
use Rattle.std.proofs.lemmas.Bool.Decides.{nat_tests}
use Rattle.std.proofs.lemmas.Grind.{same_number_lists}
use Rattle.std.proofs.lemmas.List.{drop_more, get_or-replicate, length-drop, length-replicate}
use Rattle.std.proofs.lemmas.List.Elements.{All-from_recursion}
use Rattle.std.proofs.lemmas.List.Sums.{AllPass-from_list_all}
use Rattle.content.specs.Bytes.{Byte, AllBytes}
use Rattle.frame.specs.Bytes.{two_bytes}
use Rattle.frame.specs.Fields.{word_at, all_zero}

-- a number below 2^16 is that of its two bytes
pub word_of_bytes : (n : ℕ) → n < 2 ^ 16 → n / 256 % 256 * 256 + n % 256 ≡ n
word_of_bytes n fits = omega arith

-- from place k on a slot is its word there, then the rest
pub word_then_rest : (slot : List ℕ) (k : ℕ) → k + 1 < length slot → AllBytes slot → drop k slot ≡ two_bytes (word_at slot k) ++ drop (k + 2) slot
word_then_rest slot k inside bytes =
    let each = All-from_recursion Byte slot bytes in
    let high = each k 0 (omega arith) in
    let low = each (k + 1) 0 inside in
    grind (arith, drop_more slot k 0, drop_more slot (k + 1) 0)

-- the rest of a slot that passes is zeros
pub rest_is_zeros : (slot : List ℕ) (k n : ℕ) → k + n ≡ length slot → all_zero (drop k slot) ≡ true → drop k slot ≡ replicate n 0
rest_is_zeros slot k n long zero_all =
    let each = AllPass-from_list_all (λ b. eqb b 0) (drop k slot) zero_all in
    grind (arith, nat_tests, same_number_lists, get_or-replicate {A = ℕ}, length-drop {A = ℕ}, length-replicate {A = ℕ})
