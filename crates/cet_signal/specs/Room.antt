-- What holds the frame of a signal: this project's own, for the words of the shadow stack Linux's (Documentation/arch/x86/shstk.rst, "Signal").
use Rattle.std.specs.Prelude.{◌≡◌, ℕ, true, List, Some, Err}
use Rattle.cet_isa.specs.declared.register.Reg.TheVariants.{Rsp}
use Rattle.cet_isa.specs.declared.registers.Regs.{Regs}
use Rattle.cet_isa.specs.declared.registers.Mode.{Mode}
use Rattle.cet_isa.specs.declared.fault.Fault.{Fault}
use Rattle.cet_machine.specs.declared.action.Action.{Action}
use Rattle.cet_machine.specs.declared.memory.Kind.TheVariants.{Write, Shadow}
use Rattle.cet_machine.specs.declared.memory.Region.{Region}
use Rattle.cet_machine.specs.Memory.{held}
use Rattle.cet_machine.specs.Machine.{minus}
use Rattle.cet_machine.specs.Operand.{value}
use Rattle.cet_machine.specs.Signal.{frame_address, deliver}
use Rattle.cet_cpu.specs.Answer.{machine}

-- the frame's place, and where the two words go
abbrev pub frame_at : Regs → ℕ
frame_at R = frame_address (value R Rsp)

abbrev pub first_word : Regs → ℕ
first_word R = minus R.ssp 8

abbrev pub second_word : Regs → ℕ
second_word R = minus (minus R.ssp 8) 8

pub record HasRoom (mode : Mode) (M : List Region) (R : Regs) : Type 0 where
  pub frame : held M (frame_at R) 208 ≡ Some Write
  pub first : mode.shstk ≡ true → held M (first_word R) 8 ≡ Some Shadow
  pub second : mode.shstk ≡ true → held M (second_word R) 8 ≡ Some Shadow

-- the signal is refused by this fault, whichever it is
abbrev pub IsRefused : Mode → List Region → Regs → Fault → Type 0
IsRefused mode M R fault = (action : Action) (signo : ℕ) → deliver mode action signo (machine M R) ≡ Err fault
