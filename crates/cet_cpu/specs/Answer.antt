-- What a call answers, with the memory that it leaves, as the definitions answer it.
use Rattle.std.specs.Prelude.{List, Result, Ok, Err}
use Rattle.cet_isa.specs.declared.fault.Fault.{Fault}
use Rattle.cet_isa.specs.declared.registers.Regs.{Regs}
use Rattle.cet_machine.specs.declared.memory.Region.{Region}
use Rattle.cet_machine.specs.Machine.{Machine, Effect}
use Rattle.cet_machine.specs.Step as defined
use Rattle.cet_cpu.specs.declared.one_step.StepEnd.{StepEnd}
use Rattle.cet_cpu.specs.declared.one_step.StepEnd.TheVariants as ends

-- a thread with these registers in this memory
abbrev pub machine : List Region → Regs → Machine
machine M R = record { memory = M; regs = R }

-- the registers answered, with the memory after the call
abbrev pub after : List Region → Result Regs Fault → Effect
after M (Ok R) = Ok (machine M R)
after M (Err f) = Err f

-- where a step ends, with the memory and the registers after it
abbrev pub ended : List Region → Regs → StepEnd → defined.StepEnd
ended M R ends.Next = defined.Next (machine M R)
ended M R ends.Syscall = defined.Syscall R
ended M R (ends.Fault f) = defined.Faulted f

-- p, where it ends in a fault
abbrev pub OnFault : StepEnd → Type 0 → Type 0
OnFault ends.Next p = Unit {0}
OnFault ends.Syscall p = Unit {0}
OnFault (ends.Fault f) p = p

-- p, where it ends in the kernel
abbrev pub OnSyscall : StepEnd → Type 0 → Type 0
OnSyscall ends.Next p = Unit {0}
OnSyscall ends.Syscall p = p
OnSyscall (ends.Fault f) p = Unit {0}
