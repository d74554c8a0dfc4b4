use Rattle.std.proofs.Common.{◌≡◌, ◌/◌, ◌^◌, ◌<◌, ◌≤◌, arith}
use Rattle.std.proofs.Math.Nat.{div-eq_of_lt}
use Rattle.std.proofs.Math.Pow.{pow_mono}
use Rattle.std.proofs.lemmas.Bool.Decides.{nat_tests}
use Rattle.quorum.proofs.sets.member.Goals as goal

-- a set of eight bits has no place above the seventh
pub returns-else-place-lt-SET_BITS : goal.returns-else-place-lt-SET_BITS
returns-else-place-lt-SET_BITS c =
    let far : 8 ≤ c.args.place = omega arith in
    let large : 2 ^ 8 ≤ 2 ^ c.args.place = pow_mono far in
    let above : c.args.set < 2 ^ c.args.place = omega (arith, large, c.ranges.set.fits) in
    let none : c.args.set / 2 ^ c.args.place ≡ 0 = div-eq_of_lt above in
    rw none (grind (arith, nat_tests))
