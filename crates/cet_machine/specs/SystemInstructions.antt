-- NOP, UD2, HLT and SYSCALL (SDM volume 2, the page of each).
use Rattle.std.specs.Prelude.{Ok, Err}
use Rattle.cet_isa.specs.declared.register.Reg.TheVariants.{Rcx, R11}
use Rattle.cet_isa.specs.declared.operand.Width.TheVariants.{B8}
use Rattle.cet_isa.specs.declared.fault.Fault.TheVariants.{Undefined, General}
use Rattle.cet_machine.specs.Arithmetic.{flags_word}
use Rattle.cet_machine.specs.Machine.{Machine, Effect}
use Rattle.cet_machine.specs.Operand.{put}

unfoldable pub nop : Machine → Effect
nop m = Ok m

-- rcx gets the next address and r11 the flags; the kernel does the rest
unfoldable pub syscall : Machine → Effect
syscall m = Ok (put B8 R11 (flags_word m.regs.flags) (put B8 Rcx m.regs.rip m))

unfoldable pub ud2 : Machine → Effect
ud2 m = Err Undefined

-- a privileged instruction
unfoldable pub hlt : Machine → Effect
hlt m = Err General
