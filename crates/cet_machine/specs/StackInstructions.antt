-- PUSH, POP and LEAVE: the data stack, whose top word is at rsp (SDM volume 1, 6.2; volume 2, the page of each).
use Rattle.std.specs.Prelude.{ℕ, ℤ, Result, Ok}
use Rattle.cet_isa.specs.declared.register.Reg.{Reg}
use Rattle.cet_isa.specs.declared.register.Reg.TheVariants.{Rsp, Rbp}
use Rattle.cet_isa.specs.declared.operand.Width.TheVariants.{B8}
use Rattle.cet_isa.specs.declared.operand.Mem.{Mem}
use Rattle.cet_isa.specs.declared.fault.Fault.{Fault}
use Rattle.cet_machine.specs.Machine.{Machine, Effect, ◌>>=◌, plus, minus}
use Rattle.cet_machine.specs.Operand.{value, put, immediate, address, load_at, store_at}

-- rsp falls by 8, and the word stands there
abbrev pub pushed : ℕ → Machine → Effect
pushed word m = do
  stored ← store_at B8 (minus (value m.regs Rsp) 8) word m
  Ok (put B8 Rsp (minus (value m.regs Rsp) 8) stored)

-- the word on top, and rsp above it
abbrev pub popped : Machine → Result (ℕ × Machine) Fault
popped m = do
  word ← load_at B8 (value m.regs Rsp) m
  Ok (word, put B8 Rsp (plus (value m.regs Rsp) 8) m)

-- PUSH RSP stores rsp as it was before
unfoldable pub push : Reg → Machine → Effect
push src m = pushed (value m.regs src) m

unfoldable pub push_imm : ℤ → Machine → Effect
push_imm imm m = pushed (immediate B8 imm) m

-- an address over rsp is that of rsp as it was before
unfoldable pub push_mem : Mem → Machine → Effect
push_mem mem m = do
  word ← load_at B8 (address m.regs mem) m
  pushed word m

-- POP RSP keeps the word that was loaded
unfoldable pub pop : Reg → Machine → Effect
pop dst m = do
  top ← popped m
  Ok (put B8 dst top.0 top.1)

-- rsp becomes rbp, and rbp is popped
unfoldable pub leave : Machine → Effect
leave m = pop Rbp (put B8 Rsp (value m.regs Rbp) m)
