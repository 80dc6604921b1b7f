use Rattle.std.proofs.Common.{◌+◌, ◌/◌, ◌^◌, ◌<◌, arith}
use Rattle.std.specs.Int.{w64, trailing_zeros}
use Rattle.cet_choosers.proofs.Bits.{bit_below, none_high, none_shifted, lowest_shifted}
use Rattle.cet_choosers.proofs.living.lowest_from.Goals as goal

pub returns-then-from-ge-BITS-clause-place : goal.returns-then-from-ge-BITS-clause-place
returns-then-from-ge-BITS-clause-place c = none_high c.args.bits c.args.from (omega arith) (omega arith)

pub returns-then-above-eq0-clause-place : goal.returns-then-above-eq0-clause-place
returns-then-above-eq0-clause-place c = none_shifted c.args.bits c.args.from (omega arith)

pub returns-clause-place : goal.returns-clause-place
returns-clause-place c = lowest_shifted c.args.bits c.args.from (omega arith) c.if-above-eq0.false

pub returns-clause-within : goal.returns-clause-within
returns-clause-within c =
    let small : c.args.bits < 2 ^ 64 = omega arith in
    let h = lowest_shifted c.args.bits c.args.from small c.if-above-eq0.false in
    bit_below c.args.bits 64 (c.args.from + trailing_zeros w64 (c.args.bits / 2 ^ c.args.from)) small h.1
