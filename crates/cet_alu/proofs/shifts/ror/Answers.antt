use Rattle.cet_alu.proofs.Rotations.{ror_is}
use Rattle.cet_alu.proofs.shifts.ror.Goals as goal

pub returns : goal.returns
returns c =
    ror_is c.args.w c.args.x c.args.count c.args.old c.args.free c.rotation.result c.rotated-word.result c.bits.result c.bits-2.result c.bits-3.result c.top_bit-cf.result c.bit.result
    c.bits.ensures c.bits-2.ensures c.bits-3.ensures c.rotated-word.ensures c.top_bit-cf.ensures c.bit.ensures c.rotation.ensures
