use Rattle.std.proofs.Common.{arith}
use Rattle.std.proofs.lemmas.Int.{ints}
use Rattle.cet_alu.proofs.Results.{inc_is, dec_is, neg_is}
use Rattle.cet_alu.proofs.arithmetic.unary.Goals as goal

pub returns-in-Inc : goal.returns-in-Inc
returns-in-Inc c =
    inc_is c.args.op c.args.w c.args.x c.args.old c.with_carry.result c.outcome.result c.from-ux.result c.signed-sx.result _ _ c.in-Inc.is
    c.from-ux.ensures c.signed-sx.ensures.value c.outcome.ensures c.with_carry.ensures (omega (arith, ints)) (omega (arith, ints))

pub returns-in-Dec : goal.returns-in-Dec
returns-in-Dec c =
    dec_is c.args.op c.args.w c.args.x c.args.old c.with_carry-in-Dec.result c.outcome-in-Dec.result c.from-ux.result c.signed-sx.result _ _ c.in-Dec.is
    c.from-ux.ensures c.signed-sx.ensures.value c.outcome-in-Dec.ensures c.with_carry-in-Dec.ensures (omega (arith, ints)) (omega (arith, ints))

pub returns-in-Neg : goal.returns-in-Neg
returns-in-Neg c =
    neg_is c.args.op c.args.w c.args.x c.args.old c.outcome-in-Neg.result c.from-ux.result c.signed-sx.result _ _ c.in-Neg.is
    c.from-ux.ensures c.signed-sx.ensures.value c.outcome-in-Neg.ensures (omega (arith, ints)) (omega (arith, ints))
