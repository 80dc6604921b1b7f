use Rattle.std.proofs.Common.{refl, sym, ap}
use Rattle.cet_machine.specs.Machine.{minus}
use Rattle.cet_cpu.specs.Answer.{machine}
use Rattle.cet_cpu.proofs.Calls.{ruled_out, shown, refused_by_data, refused_by_shadow, shadow_takes}
use Rattle.cet_cpu.proofs.control.called_on_both.Goals as goal

pub returns-then-not-is_held-clause-does : goal.returns-then-not-is_held-clause-does
returns-then-not-is_held-clause-does c =
    refused_by_data c.args.mode (machine c.args.mem.now c.args.regs) (minus c.value-data_top.result 8) (ap (λ v. minus v 8) c.value-data_top.ensures)
    (ruled_out c.is_held.result _ c.is_held.ensures c.if-not-is_held.true)

pub returns-then-not-is_held-2-clause-does : goal.returns-then-not-is_held-2-clause-does
returns-then-not-is_held-2-clause-does c =
    refused_by_shadow c.args.mode (machine c.args.mem.now c.args.regs) (minus c.value-data_top.result 8) (minus c.args.regs.ssp 8) (search) (ap (λ v. minus v 8) c.value-data_top.ensures) refl
    (shown c.is_held.result _ c.is_held.ensures c.if-not-is_held.false) (ruled_out c.is_held-2.result _ c.is_held-2.ensures c.if-not-is_held-2.true)

pub returns-in-Err-clause-unchanged : goal.returns-in-Err-clause-unchanged
returns-in-Err-clause-unchanged c =
    absurd (shadow_takes c.args.mem.now c.pushed.new.mem c.in_ok-on_data.on_data (minus c.args.regs.ssp 8) c.args.regs.rip c.in-Err.fault
    c.in_ok-on_data.ensures.shape (ap (λ s. minus s 8) (sym c.in_ok-on_data.ensures.ssp))
    (shown c.is_held-2.result _ c.is_held-2.ensures c.if-not-is_held-2.false) (sym c.in-Err.ensures.does))
