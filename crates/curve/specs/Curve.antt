-- A curve and its bytes: four rates in two's complement, four bytes each.
use Rattle.std.specs.Prelude.{ℕ, ◌%◌, ◌^◌, ◌<◌, if◌then◌else◌, List, [], ◌∷◌, ◌++◌, length, ℤ, Some, None, codes, Option, ◌==◌}
use Rattle.std.proofs.Common.{arith}
use Rattle.std.specs.Int.{w32, cast_signed, cast_unsigned}
use Rattle.std.specs.Int.Signed.{mag}
use Rattle.std.specs.Fmt.{signed_decimal}
use Rattle.curve.specs.declared.curve.Curve.{Curve}
use Rattle.curve.specs.declared.curve.Rate.{Rate}
use Rattle.content.specs.Bytes.{four_bytes, number_at}

-- In two's complement 32 bits n stand for n if n is below 2 ^ 31, else for n - 2 ^ 32: that is `cast_signed w32`, and `cast_unsigned w32` goes back.

-- what 32 bits stand for fits an i32
pub rate_fits : (n : ℕ) → mag (cast_signed w32 (n % 2 ^ 32)) < 2 ^ 31
rate_fits n = grind arith

-- the rate that the low 32 bits of a number stand for
abbrev pub rate_of : ℕ → Rate
rate_of n = record { value = cast_signed w32 (n % 2 ^ 32); fits = rate_fits n }

-- a rate as four bytes
abbrev pub rate_bytes : Rate → List ℕ
rate_bytes rate = four_bytes (cast_unsigned w32 rate.value)

-- the four numbers of a curve
abbrev pub rates : Curve → List ℤ
rates curve = curve.first.value ∷ curve.second.value ∷ curve.third.value ∷ curve.fourth.value ∷ []

-- a curve as sixteen bytes, one rate after the other
abbrev pub curve_bytes : Curve → List ℕ
curve_bytes curve =
    rate_bytes curve.first ++ rate_bytes curve.second ++ rate_bytes curve.third ++ rate_bytes curve.fourth

-- the curve whose four rates stand at the front of a list
abbrev pub curve_at : List ℕ → Curve
curve_at bs =
    record { first = rate_of (number_at bs 0); second = rate_of (number_at bs 4); third = rate_of (number_at bs 8); fourth = rate_of (number_at bs 12) }

-- any sixteen bytes are a curve, and no others are
abbrev pub curve_read : List ℕ → Option Curve
curve_read bs = if length bs == 16 then Some (curve_at bs) else None

-- as it is printed: the four rates, a blank between two
abbrev pub shown_curve : Curve → List ℕ
shown_curve curve =
    signed_decimal curve.first.value
    ++ (codes " " ++ (signed_decimal curve.second.value ++ (codes " " ++ (signed_decimal curve.third.value ++ (codes " " ++ signed_decimal curve.fourth.value)))))
