use Rattle.cet_machine.proofs.StepKeeps.{step_keeps, syscall_keeps}
use Rattle.cet_machine.proofs.machine_law.step.Goals as goal

pub returns : goal.returns
returns c = record { next = step_keeps; syscall = syscall_keeps }
