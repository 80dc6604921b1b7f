-- Arithmetic, logical, shift and rotate instructions (SDM volume 1, 5.1.2, 5.1.4 and 5.1.5; TEST 5.1.6; volume 2, the page of each). A destination
-- that is read and written is loaded first. `free` has the flags that an instruction leaves undefined.
use Rattle.std.specs.Prelude.{ℕ, ◌%◌, Bool, true, false, if◌then◌else◌, ℤ, ok_or, Ok}
use Rattle.cet_isa.specs.declared.register.Reg.{Reg}
use Rattle.cet_isa.specs.declared.register.Reg.TheVariants.{Rax, Rcx, Rdx}
use Rattle.cet_isa.specs.declared.operand.Width.{Width}
use Rattle.cet_isa.specs.declared.operand.Rm.{Rm}
use Rattle.cet_isa.specs.declared.operation.AluOp.{AluOp}
use Rattle.cet_isa.specs.declared.operation.AluOp.TheVariants.{Add, Or, Adc, Sbb, And, Sub, Xor, Cmp}
use Rattle.cet_isa.specs.declared.operation.UnOp.{UnOp}
use Rattle.cet_isa.specs.declared.operation.ShiftOp.{ShiftOp}
use Rattle.cet_isa.specs.declared.operation.ShiftCount.{ShiftCount}
use Rattle.cet_isa.specs.declared.operation.ShiftCount.TheVariants as count
use Rattle.cet_isa.specs.declared.operation.MulDivOp.{MulDivOp}
use Rattle.cet_isa.specs.declared.operation.MulDivOp.TheVariants.{Mul, IMul1, Div, IDiv}
use Rattle.cet_isa.specs.declared.fault.Fault.TheVariants.{Divide}
use Rattle.cet_isa.specs.declared.registers.Regs.{Regs}
use Rattle.cet_machine.specs.Arithmetic.{free_flags}
use Rattle.cet_machine.specs.Arithmetic as arithmetic
use Rattle.cet_machine.specs.Shifts as shifts
use Rattle.cet_machine.specs.Products as products
use Rattle.cet_machine.specs.Machine.{Machine, Effect, ◌>>=◌, with_flags}
use Rattle.cet_machine.specs.Operand.{value, value_at, put, immediate, read, write}

-- ---- ADD, OR, ADC, SBB, AND, SUB, XOR, CMP

-- CMP writes no result
abbrev pub writes : AluOp → Bool
writes Add = true
writes Or = true
writes Adc = true
writes Sbb = true
writes And = true
writes Sub = true
writes Xor = true
writes Cmp = false

-- with y as the second operand
abbrev pub operated : AluOp → Width → Rm → ℕ → Machine → Effect
operated op w dst y m = do
  x ← read w dst m
  let result = arithmetic.alu op w x y m.regs.flags
  written ← if writes op then write w dst result.0 m else Ok m
  Ok (with_flags result.1 written)

unfoldable pub alu : AluOp → Width → Rm → Reg → Machine → Effect
alu op w dst src m = operated op w dst (value_at w m.regs src) m

unfoldable pub alu_load : AluOp → Width → Reg → Rm → Machine → Effect
alu_load op w dst src m = do
  y ← read w src m
  let result = arithmetic.alu op w (value_at w m.regs dst) y m.regs.flags
  Ok (with_flags result.1 (if writes op then put w dst result.0 m else m))

unfoldable pub alu_imm : AluOp → Width → Rm → ℤ → Machine → Effect
alu_imm op w dst imm m = operated op w dst (immediate w imm) m

-- ---- TEST: the flags of AND

abbrev pub tested : Width → Rm → ℕ → Machine → Effect
tested w dst y m = do
  x ← read w dst m
  Ok (with_flags ((arithmetic.alu And w x y m.regs.flags).1) m)

unfoldable pub test : Width → Rm → Reg → Machine → Effect
test w dst src m = tested w dst (value_at w m.regs src) m

unfoldable pub test_imm : Width → Rm → ℤ → Machine → Effect
test_imm w dst imm m = tested w dst (immediate w imm) m

-- ---- INC, DEC, NOT, NEG

unfoldable pub unary : UnOp → Width → Rm → Machine → Effect
unary op w dst m = do
  x ← read w dst m
  let result = arithmetic.unary op w x m.regs.flags
  written ← write w dst result.0 m
  Ok (with_flags result.1 written)

-- ---- ROL, ROR, SHL, SHR, SAR

-- a constant, or CL
abbrev pub count_of : ShiftCount → Regs → ℕ
count_of (count.Imm n) R = n
count_of count.Cl R = value R Rcx % 256

-- by a count of 0 too the destination is written
unfoldable pub shift : ShiftOp → Width → Rm → ShiftCount → ℕ → Machine → Effect
shift op w dst n free m = do
  x ← read w dst m
  let result = shifts.shift op w x (count_of n m.regs) m.regs.flags free
  written ← write w dst result.0 m
  Ok (with_flags result.1 written)

-- ---- IMUL, MUL, DIV, IDIV

unfoldable pub imul2 : Width → Reg → Rm → ℕ → Machine → Effect
imul2 w dst src free m = do
  y ← read w src m
  let result = products.imul w (value_at w m.regs dst) y free
  Ok (with_flags result.1 (put w dst result.0 m))

unfoldable pub imul3 : Width → Reg → Rm → ℤ → ℕ → Machine → Effect
imul3 w dst src imm free m = do
  x ← read w src m
  let result = products.imul w x (immediate w imm) free
  Ok (with_flags result.1 (put w dst result.0 m))

-- the accumulator times y: the low half to it, the high half to edx or rdx
abbrev pub multiplied : Bool → Width → ℕ → ℕ → Machine → Effect
multiplied signed w y free m =
    let product = products.mul signed w (value_at w m.regs Rax) y free in
    Ok (with_flags product.2 (put w Rdx product.1 (put w Rax product.0 m)))

-- edx:eax or rdx:rax divided by y: the quotient to the accumulator, the remainder to edx or rdx; all four flags are undefined
abbrev pub divided : Bool → Width → ℕ → ℕ → Machine → Effect
divided signed w y free m = do
  result ← ok_or (products.div signed w (value_at w m.regs Rdx) (value_at w m.regs Rax) y) Divide
  Ok (with_flags (free_flags free) (put w Rdx result.1 (put w Rax result.0 m)))

abbrev pub multiplied_or_divided : MulDivOp → Width → ℕ → ℕ → Machine → Effect
multiplied_or_divided Mul w y free m = multiplied false w y free m
multiplied_or_divided IMul1 w y free m = multiplied true w y free m
multiplied_or_divided Div w y free m = divided false w y free m
multiplied_or_divided IDiv w y free m = divided true w y free m

unfoldable pub mul_div : MulDivOp → Width → Rm → ℕ → Machine → Effect
mul_div op w src free m = do
  y ← read w src m
  multiplied_or_divided op w y free m
