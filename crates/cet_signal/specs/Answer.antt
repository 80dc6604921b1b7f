-- What a call answers, with what it leaves, as the definitions answer it.
use Rattle.std.specs.Prelude.{List, Result, Ok, Err}
use Rattle.cet_isa.specs.declared.fault.Fault.{Fault}
use Rattle.cet_isa.specs.declared.registers.Regs.{Regs}
use Rattle.cet_machine.specs.declared.memory.Region.{Region}
use Rattle.cet_machine.specs.Machine.{Effect}
use Rattle.cet_cpu.specs.Answer.{machine}

-- memory and registers
abbrev pub delivered : Result (Unit {0}) Fault → List Region → Regs → Effect
delivered (Ok x) M R = Ok (machine M R)
delivered (Err f) M R = Err f

-- registers alone
abbrev pub returned : Result (Unit {0}) Fault → Regs → Result Regs Fault
returned (Ok x) R = Ok R
returned (Err f) R = Err f
