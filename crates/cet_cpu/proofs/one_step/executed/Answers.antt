use Rattle.std.proofs.Common.{sym, ◌∙◌}
use Rattle.cet_cpu.proofs.Aligned.{aligned_after}
use Rattle.cet_cpu.proofs.Syscalls.{syscall_keeps}
use Rattle.cet_cpu.proofs.one_step.executed.Goals as goal

pub returns-then-is_syscall-clause-syscall_keeps_memory : goal.returns-then-is_syscall-clause-syscall_keeps_memory
returns-then-is_syscall-clause-syscall_keeps_memory c =
    syscall_keeps c.args.insn c.args.mode c.args.free c.args.mem.now c.execute.new.mem _ c.in-Ok.new (sym c.is_syscall.ensures ∙ c.if-is_syscall.true) c.in-Ok.ensures.does

pub returns-then-is_syscall-clause-aligned : goal.returns-then-is_syscall-clause-aligned
returns-then-is_syscall-clause-aligned c = aligned_after c.args.insn c.args.mode c.args.free _ _ c.in-Ok.ensures.does c.requires

pub returns-else-is_syscall-clause-aligned : goal.returns-else-is_syscall-clause-aligned
returns-else-is_syscall-clause-aligned c = aligned_after c.args.insn c.args.mode c.args.free _ _ c.in-Ok.ensures.does c.requires
