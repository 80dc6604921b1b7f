-- Data transfer instructions (SDM volume 1, 5.1.1; SETcc 5.1.6; LEA 5.1.13; volume 2, the page of each). None changes a flag but CMPXCHG and XADD.
use Rattle.std.specs.Prelude.{ℕ, ◌-◌, ◌%◌, ◌^◌, ◌==◌, if◌then◌else◌, ℤ, Ok}
use Rattle.std.specs.Int.{w8, w16, w32, cast_signed, from_bool}
use Rattle.cet_isa.specs.declared.register.Reg.{Reg}
use Rattle.cet_isa.specs.declared.register.Reg.TheVariants.{Rax, Rdx}
use Rattle.cet_isa.specs.declared.operand.Width.{Width}
use Rattle.cet_isa.specs.declared.operand.Width.TheVariants.{B1, B4, B8}
use Rattle.cet_isa.specs.declared.operand.Mem.{Mem}
use Rattle.cet_isa.specs.declared.operand.Rm.{Rm}
use Rattle.cet_isa.specs.declared.operation.Cond.{Cond}
use Rattle.cet_isa.specs.declared.operation.AluOp.TheVariants.{Add, Cmp}
use Rattle.cet_machine.specs.Arithmetic.{bits, top_bit, holds}
use Rattle.cet_machine.specs.Arithmetic as arithmetic
use Rattle.cet_machine.specs.Machine.{Machine, Effect, ◌>>=◌, with_flags}
use Rattle.cet_machine.specs.Operand.{low, value_at, put, immediate, address, load_at, store_at, read, write}

-- ---- MOV, MOVZX, MOVSX, MOVSXD, LEA

unfoldable pub mov : Width → Rm → Reg → Machine → Effect
mov w dst src m = write w dst (value_at w m.regs src) m

unfoldable pub mov_load : Width → Reg → Rm → Machine → Effect
mov_load w dst src m = do
  v ← read w src m
  Ok (put w dst v m)

unfoldable pub mov_imm : Width → Rm → ℤ → Machine → Effect
mov_imm w dst imm m = write w dst (immediate w imm) m

-- the constant has the width of the operand
unfoldable pub mov_abs : Width → Reg → ℕ → Machine → Effect
mov_abs w dst imm m = Ok (put w dst (imm % 2 ^ bits w) m)

-- from a byte
unfoldable pub mov_zx : Width → Reg → Rm → Machine → Effect
mov_zx w dst src m = do
  v ← read B1 src m
  Ok (put w dst v m)

-- from a byte
unfoldable pub mov_sx : Width → Reg → Rm → Machine → Effect
mov_sx w dst src m = do
  v ← read B1 src m
  Ok (put w dst (immediate w (cast_signed w8 v)) m)

-- from 32 bits to 64
unfoldable pub mov_sxd : Reg → Rm → Machine → Effect
mov_sxd dst src m = do
  v ← read B4 src m
  Ok (put B8 dst (immediate B8 (cast_signed w32 v)) m)

-- the address itself
unfoldable pub lea : Width → Reg → Mem → Machine → Effect
lea w dst mem m = Ok (put w dst (low w (address m.regs mem)) m)

-- ---- CDQ and CQO, CWDE and CDQE

-- the sign of eax or rax, spread over edx or rdx
unfoldable pub cdq : Width → Machine → Effect
cdq w m = Ok (put w Rdx (if top_bit w (value_at w m.regs Rax) then 2 ^ bits w - 1 else 0) m)

-- the lower half of eax or rax, in two's complement
abbrev pub signed_half : Width → ℕ → ℤ
signed_half B1 n = cast_signed w8 n
signed_half B4 n = cast_signed w16 (n % 2 ^ 16)
signed_half B8 n = cast_signed w32 (n % 2 ^ 32)

-- eax from ax, or rax from eax
unfoldable pub cdqe : Width → Machine → Effect
cdqe w m = Ok (put w Rax (immediate w (signed_half w (value_at w m.regs Rax))) m)

-- ---- under a condition

unfoldable pub set_cc : Cond → Rm → Machine → Effect
set_cc cond dst m = write B1 dst (from_bool (holds cond m.regs.flags)) m

-- With a false condition the source is read all the same, and the register is written with what it holds.
unfoldable pub cmov : Cond → Width → Reg → Rm → Machine → Effect
cmov cond w dst src m = do
  v ← read w src m
  Ok (put w dst (if holds cond m.regs.flags then v else value_at w m.regs dst) m)

-- ---- exchanges. The memory operand is loaded, then stored, at the address that it had before.

unfoldable pub xchg : Width → Rm → Reg → Machine → Effect
xchg w dst src m = do
  old ← read w dst m
  written ← write w dst (value_at w m.regs src) m
  Ok (put w src old written)

-- The flags are those of accumulator - memory. Where they are equal, the source is stored and the accumulator is left as it is. Else
-- the old value is stored back and goes to the accumulator.
unfoldable pub cmp_xchg : Width → Mem → Reg → Machine → Effect
cmp_xchg w dst src m = do
  old ← load_at w (address m.regs dst) m
  let expected = value_at w m.regs Rax
  written ← store_at w (address m.regs dst) (if expected == old then value_at w m.regs src else old) m
  let compared = with_flags ((arithmetic.alu Cmp w expected old m.regs.flags).1) written
  Ok (if expected == old then compared else put w Rax old compared)

-- the sum is stored, and the old value goes to the source
unfoldable pub xadd : Width → Mem → Reg → Machine → Effect
xadd w dst src m = do
  old ← load_at w (address m.regs dst) m
  let sum = arithmetic.alu Add w old (value_at w m.regs src) m.regs.flags
  written ← store_at w (address m.regs dst) sum.0 m
  Ok (put w src old (with_flags sum.1 written))
