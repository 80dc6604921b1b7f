use Rattle.cet_machine.specs.Arithmetic.{bits}
use Rattle.cet_alu.proofs.Rotations.{rotated_is}
use Rattle.cet_alu.proofs.shifts.rotated.Goals as goal

pub returns : goal.returns
returns c =
    rotated_is (bits c.args.w) c.args.by c.args.x c.moved_up-moved.result c.cut.result c.cut-2.result c.bits.result c.requires.whole c.requires.operand
    c.moved_up-moved.ensures c.bits.ensures c.cut.ensures c.cut-2.ensures
