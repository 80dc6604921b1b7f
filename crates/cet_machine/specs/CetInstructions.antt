-- The shadow stack instructions (SDM volume 1, 5.23; volume 2, the page of each), in this project's profile: see Shadow.
use Rattle.std.specs.Prelude.{◌%◌, false, if◌then◌else◌, Ok, Err}
use Rattle.cet_isa.specs.declared.register.Reg.{Reg}
use Rattle.cet_isa.specs.declared.operand.Width.TheVariants.{B8}
use Rattle.cet_isa.specs.declared.operand.Mem.{Mem}
use Rattle.cet_isa.specs.declared.fault.Fault.TheVariants.{Undefined}
use Rattle.cet_isa.specs.declared.registers.Mode.{Mode}
use Rattle.cet_machine.specs.Shadow.{incssp, rstorssp, saveprevssp}
use Rattle.cet_machine.specs.Machine.{Machine, Effect, ◌>>=◌, demand, with_ssp, with_flags}
use Rattle.cet_machine.specs.Operand.{value, put, address}
use Rattle.cet_machine.specs.ShadowEffect.{by_thread, with_shadow}

-- RDSSPQ does nothing where shadow stacks are off
unfoldable pub rd_ssp : Reg → Mode → Machine → Effect
rd_ssp dst mode m = Ok (if mode.shstk then put B8 dst m.regs.ssp m else m)

-- INCSSPQ pops as many words as the low byte says
unfoldable pub inc_ssp : Reg → Mode → Machine → Effect
inc_ssp src mode m = do
  _ ← demand mode.shstk Undefined
  ssp ← by_thread (incssp m.memory m.regs.ssp (value m.regs src % 256))
  Ok (with_ssp ssp m)

-- RSTORSSP answers in CF, and clears ZF, SF and OF
unfoldable pub rstor_ssp : Mem → Mode → Machine → Effect
rstor_ssp mem mode m = do
  _ ← demand mode.shstk Undefined
  stack ← by_thread (rstorssp m.memory m.regs.ssp (address m.regs mem))
  Ok (with_flags (record { cf = stack.2; zf = false; sf = false; of = false }) (with_shadow stack.0 stack.1 m))

-- SAVEPREVSSP reads CF, as RSTORSSP left it
unfoldable pub save_prev_ssp : Mode → Machine → Effect
save_prev_ssp mode m = do
  _ ← demand mode.shstk Undefined
  stack ← by_thread (saveprevssp m.memory m.regs.ssp m.regs.flags.cf)
  Ok (with_shadow stack.0 stack.1 m)

-- WRSSQ: the kernel leaves WR_SHSTK_EN clear
unfoldable pub wr_ss : Mem → Reg → Machine → Effect
wr_ss mem src m = Err Undefined
