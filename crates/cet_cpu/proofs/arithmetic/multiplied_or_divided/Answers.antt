use Rattle.std.proofs.Common.{sym, ap, ◌∙◌}
use Rattle.cet_machine.specs.ArithmeticInstructions.{multiplied_or_divided}
use Rattle.cet_cpu.specs.Answer.{machine}
use Rattle.cet_cpu.proofs.arithmetic.multiplied_or_divided.Goals as goal

pub returns-in-Mul : goal.returns-in-Mul
returns-in-Mul c =
    c.multiplied.ensures c.args.mem.now
    ∙ ap (λ op. multiplied_or_divided op c.args.w c.args.y c.args.free (machine c.args.mem.now c.args.regs)) (sym c.in-Mul.is)

pub returns-in-IMul1 : goal.returns-in-IMul1
returns-in-IMul1 c =
    c.multiplied-in-IMul1.ensures c.args.mem.now
    ∙ ap (λ op. multiplied_or_divided op c.args.w c.args.y c.args.free (machine c.args.mem.now c.args.regs)) (sym c.in-IMul1.is)
