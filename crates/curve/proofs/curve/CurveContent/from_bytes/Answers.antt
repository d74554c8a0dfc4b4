-- The four numbers that the chunks hold are the rates of the curve that is read.
use Rattle.std.proofs.Common.{◌≡◌, length, rules}
use Rattle.content.proofs.FourBytes.{number_at_fits}
use Rattle.content.proofs.Slices.{bytes_from_fits}
use Rattle.curve.specs.Curve.{curve_at}
use Rattle.curve.specs.CurveLaws.{same_curve, rate_value}
use Rattle.curve.proofs.curve.CurveContent.from_bytes.Goals as goal

pub returns : goal.returns
returns c =
    let bs = c.args.bytes.now in
    let bytes = bytes_from_fits bs c.type_inv.bytes in
    let long : length bs ≡ 16 = search rules in
    let is = same_curve c.new.result (curve_at bs) (search (rules, rate_value, number_at_fits)) in
    search rules
