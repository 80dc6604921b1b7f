use Rattle.std.proofs.Common.{arith, pos, ap}
use Rattle.std.proofs.lemmas.Int.{ints}
use Rattle.cet_alu.proofs.Results.{add_is, adc_is, sbb_is, sub_is}
use Rattle.cet_alu.proofs.arithmetic.alu.Goals as goal

pub returns-in-Add : goal.returns-in-Add
returns-in-Add c =
    add_is c.args.op c.args.w c.args.x c.args.y c.args.old c.outcome.result c.from-ux.result c.from-uy.result c.signed-sx.result c.signed-sy.result _ _ c.in-Add.is
    (record { unsigned_x = c.from-ux.ensures; unsigned_y = c.from-uy.ensures; signed_x = c.signed-sx.ensures.value; signed_y = c.signed-sy.ensures.value }) c.outcome.ensures (omega (arith, ints)) (omega (arith, ints))

pub returns-in-Adc : goal.returns-in-Adc
returns-in-Adc c =
    adc_is c.args.op c.args.w c.args.x c.args.y c.args.old c.outcome-in-Adc.result c.from-ux.result c.from-uy.result c.signed-sx.result c.signed-sy.result c.from-carry.result _ _ c.in-Adc.is
    (record { unsigned_x = c.from-ux.ensures; unsigned_y = c.from-uy.ensures; signed_x = c.signed-sx.ensures.value; signed_y = c.signed-sy.ensures.value }) (rw c.from-carry.ensures (ap pos c.from.ensures)) c.outcome-in-Adc.ensures (omega (arith, ints)) (omega (arith, ints))

pub returns-in-Sbb : goal.returns-in-Sbb
returns-in-Sbb c =
    sbb_is c.args.op c.args.w c.args.x c.args.y c.args.old c.outcome-in-Sbb.result c.from-ux.result c.from-uy.result c.signed-sx.result c.signed-sy.result c.from-carry.result _ _ c.in-Sbb.is
    (record { unsigned_x = c.from-ux.ensures; unsigned_y = c.from-uy.ensures; signed_x = c.signed-sx.ensures.value; signed_y = c.signed-sy.ensures.value }) (rw c.from-carry.ensures (ap pos c.from.ensures)) c.outcome-in-Sbb.ensures (omega (arith, ints)) (omega (arith, ints))

pub returns-in-Sub : goal.returns-in-Sub
returns-in-Sub c =
    sub_is c.args.op c.args.w c.args.x c.args.y c.args.old c.outcome-in-Sub.result c.from-ux.result c.from-uy.result c.signed-sx.result c.signed-sy.result _ _ c.in-Sub.is
    (record { unsigned_x = c.from-ux.ensures; unsigned_y = c.from-uy.ensures; signed_x = c.signed-sx.ensures.value; signed_y = c.signed-sy.ensures.value }) c.outcome-in-Sub.ensures (omega (arith, ints)) (omega (arith, ints))
