-- The two laws of a curve's bytes.
use Rattle.std.specs.Prelude.{◌≡◌, ℕ, ◌+◌, ◌%◌, ◌^◌, ◌<◌, ◌≤◌, List, length, Some, refl}
use Rattle.std.proofs.Common.{arith}
use mathlib.Core.HLevel.{is_prop→PathP}
use Rattle.std.proofs.Math.Bridge.{le_prop}
use Rattle.std.specs.Int.Signed.{mag}
use Rattle.std.specs.Int.{w32, cast_signed, cast_unsigned}
use Rattle.std.proofs.lemmas.Bool.Decides.{nat_tests}
use Rattle.std.proofs.lemmas.Int.{ints, to_z-of_z, of_z-to_z}
use Rattle.std.proofs.lemmas.List.{drop_all}
use Rattle.std.proofs.lemmas.Nat.{from_be_bytes-to_be_bytes_4}
use Rattle.curve.specs.declared.curve.Curve.{Curve}
use Rattle.curve.specs.declared.curve.Rate.{Rate}
use Rattle.content.specs.Bytes.{AllBytes, four_bytes, number_at}
use Rattle.curve.specs.Curve.{rate_of, rate_bytes, rates, curve_bytes, curve_at, curve_read}
use Rattle.content.proofs.FourBytes.{bytes_at_place}

-- rates of one value are one rate: that it fits is shown in one way only
pub same_rate : (x y : Rate) → x.value ≡ y.value → x ≡ y
same_rate x y p = λ i. record { value = p i; fits = is_prop→PathP (λ i. mag (p i) < 2 ^ 31) (λ i. le_prop) x.fits y.fits i }

-- curves of the same four numbers are one curve
pub same_curve : (x y : Curve) → rates x ≡ rates y → x ≡ y
same_curve x y same =
    let first = same_rate x.first y.first cc in
    let second = same_rate x.second y.second cc in
    let third = same_rate x.third y.third cc in
    let fourth = same_rate x.fourth y.fourth cc in
    λ i. record { first = first i; second = second i; third = third i; fourth = fourth i }

low : (n : ℕ) → n < 2 ^ 32 → n % 2 ^ 32 ≡ n
low n fits = omega arith

-- the number behind 32 bits, as the code has it and as the rate keeps it
pub rate_value : (n : ℕ) → n < 2 ^ 32 → cast_signed w32 (cast_unsigned w32 (cast_signed w32 n)) ≡ (rate_of n).value
rate_value n fits = grind (arith, of_z-to_z)

rate_back : (rate : Rate) (n : ℕ) → n ≡ number_at (rate_bytes rate) 0 → rate_of n ≡ rate
rate_back rate n same = same_rate (rate_of n) rate (grind (arith, ints, to_z-of_z, from_be_bytes-to_be_bytes_4))

rate_forth : (n : ℕ) → rate_bytes (rate_of n) ≡ four_bytes n
rate_forth n = grind (arith, of_z-to_z)

pub curve_reads_written : (curve : Curve) → curve_read (curve_bytes curve) ≡ Some curve
curve_reads_written curve =
    let back = λ (rate : Rate). rate_back rate _ refl in
    λ i. Some (record { first = back curve.first i; second = back curve.second i; third = back curve.third i; fourth = back curve.fourth i })

sixteen : (bs : List ℕ) → AllBytes bs → length bs ≡ 16 → curve_bytes (curve_at bs) ≡ bs
sixteen bs h long =
    let rate = λ (k : ℕ). rate_forth (number_at bs k) in
    let place = λ (k : ℕ) (inside : k + 4 ≤ length bs). bytes_at_place bs k inside h in
    cc (rate 0, rate 4, rate 8, rate 12, place 0 (omega arith), place 4 (omega arith), place 8 (omega arith), place 12 (omega arith), drop_all 16 bs (omega arith))

pub curve_writes_read : (bs : List ℕ) (curve : Curve) → AllBytes bs → curve_read bs ≡ Some curve → curve_bytes curve ≡ bs
curve_writes_read bs curve h read = grind (arith, nat_tests, sixteen)
