use Rattle.std.proofs.Common.{◌^◌, ◌≤◌, ◌<◌, sym, arith}
use Rattle.std.proofs.Math.Nat.{mod-eq_of_lt}
use Rattle.std.proofs.Math.Pow.{pow_mono}
use Rattle.cet_choosers.proofs.living.bits_below.Goals as goal

pub returns-then-count-ge-BITS : goal.returns-then-count-ge-BITS
returns-then-count-ge-BITS c =
    let many : 64 ≤ c.args.count = omega arith in
    let small : c.args.bits < 2 ^ 64 = omega arith in
    let less : c.args.bits < 2 ^ c.args.count = omega (arith, pow_mono many) in
    sym (mod-eq_of_lt less)
