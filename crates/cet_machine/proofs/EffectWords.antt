-- Registers stay below 2^64 under each instruction that moves or computes.
use Rattle.std.proofs.Common.{ℕ, ◌-◌, ◌^◌, ◌<◌, Bool, true, false, ℤ, Ok, IfOk, ok_or, arith, if◌then◌else◌, lit<}
use Rattle.std.specs.Int.{w8, w32, cast_signed, from_bool}
use Rattle.std.proofs.Math.Nat.{mod-lt}
use Rattle.std.proofs.lemmas.Nat.{pow_pos}
use Rattle.cet_isa.specs.declared.register.Reg.{Reg}
use Rattle.cet_isa.specs.declared.register.Reg.TheVariants.{Rax, Rdx}
use Rattle.cet_isa.specs.declared.operand.Width.{Width}
use Rattle.cet_isa.specs.declared.operand.Width.TheVariants.{B1, B4, B8}
use Rattle.cet_isa.specs.declared.operand.Mem.{Mem}
use Rattle.cet_isa.specs.declared.operand.Rm.{Rm}
use Rattle.cet_isa.specs.declared.operation.AluOp.{AluOp}
use Rattle.cet_isa.specs.declared.operation.UnOp.{UnOp}
use Rattle.cet_isa.specs.declared.operation.ShiftOp.{ShiftOp}
use Rattle.cet_isa.specs.declared.operation.ShiftCount.{ShiftCount}
use Rattle.cet_isa.specs.declared.operation.MulDivOp.{MulDivOp}
use Rattle.cet_isa.specs.declared.operation.MulDivOp.TheVariants.{Mul, IMul1, Div, IDiv}
use Rattle.cet_isa.specs.declared.operation.Cond.{Cond}
use Rattle.cet_isa.specs.declared.fault.Fault.{Fault}
use Rattle.cet_isa.specs.declared.fault.Fault.TheVariants.{Divide}
use Rattle.cet_machine.specs.Arithmetic.{bits, holds, top_bit}
use Rattle.cet_machine.specs.Products as products
use Rattle.cet_machine.specs.Machine.{Machine, Effect}
use Rattle.cet_machine.specs.MachineLaws.{HasWords}
use Rattle.cet_machine.specs.Operand.{value_at, immediate, address, load_at, store_at, read, write, put}
use Rattle.cet_machine.specs.MoveInstructions.{signed_half, mov, mov_load, mov_imm, mov_abs, mov_zx, mov_sx, mov_sxd, lea, cdq, cdqe, set_cc, cmov, xchg, cmp_xchg, xadd}
use Rattle.cet_machine.specs.ArithmeticInstructions.{writes, operated, tested, count_of, multiplied, divided, multiplied_or_divided, alu, alu_load, alu_imm, test, test_imm, unary, shift, imul2, imul3, mul_div}
use Rattle.cet_machine.proofs.Keeps.{after_any, after_ok}
use Rattle.cet_machine.proofs.Fits.{alu_fits, unary_fits, shift_fits, imul_fits, mul_low_fits, mul_high_fits, div_fits}
use Rattle.cet_machine.proofs.Words.{low_fits, value_at_fits, immediate_fits, put_words, flags_words, load_words, store_words, read_words, write_words}

-- either of two, as the test says
pub either_words : (b : Bool) (m n : Machine) → HasWords m → HasWords n → HasWords (if b then m else n)
either_words true m n h k = h
either_words false m n h k = k

pub either_effect_words : (b : Bool) (e f : Effect) → IfOk e HasWords → IfOk f HasWords → IfOk (if b then e else f) HasWords
either_effect_words true e f h k = h
either_effect_words false e f h k = k

either_fits : (b : Bool) (w : Width) (x y : ℕ) → x < 2 ^ bits w → y < 2 ^ bits w → (if b then x else y) < 2 ^ bits w
either_fits true w x y h k = h
either_fits false w x y h k = k

-- a byte fits every width
byte_fits : (w : Width) (v : ℕ) → v < 2 ^ 8 → v < 2 ^ bits w
byte_fits B1 v below = below
byte_fits B4 v below = omega (arith, below)
byte_fits B8 v below = omega (arith, below)

-- ---- moves

pub mov_words : (w : Width) (dst : Rm) (src : Reg) (m : Machine) → HasWords m → IfOk (mov w dst src m) HasWords
unfolding mov
mov_words w dst src m h = write_words w dst _ m h (value_at_fits w m src h)

pub mov_load_words : (w : Width) (dst : Reg) (src : Rm) (m : Machine) → HasWords m → IfOk (mov_load w dst src m) HasWords
unfolding mov_load
mov_load_words w dst src m h = after_ok (read w src m) _ (λ v. v < 2 ^ bits w) HasWords (read_words w src m h) (λ v fits. put_words w dst v m h fits)

pub mov_imm_words : (w : Width) (dst : Rm) (imm : ℤ) (m : Machine) → HasWords m → IfOk (mov_imm w dst imm m) HasWords
unfolding mov_imm
mov_imm_words w dst imm m h = write_words w dst _ m h (immediate_fits w imm)

pub mov_abs_words : (w : Width) (dst : Reg) (imm : ℕ) (m : Machine) → HasWords m → IfOk (mov_abs w dst imm m) HasWords
unfolding mov_abs
mov_abs_words w dst imm m h = put_words w dst _ m h (mod-lt imm (pow_pos (bits w)))

pub mov_zx_words : (w : Width) (dst : Reg) (src : Rm) (m : Machine) → HasWords m → IfOk (mov_zx w dst src m) HasWords
unfolding mov_zx
mov_zx_words w dst src m h = after_ok (read B1 src m) _ (λ v. v < 2 ^ 8) HasWords (read_words B1 src m h) (λ v fits. put_words w dst v m h (byte_fits w v fits))

pub mov_sx_words : (w : Width) (dst : Reg) (src : Rm) (m : Machine) → HasWords m → IfOk (mov_sx w dst src m) HasWords
unfolding mov_sx
mov_sx_words w dst src m h = after_any (read B1 src m) _ HasWords (λ v. put_words w dst _ m h (immediate_fits w (cast_signed w8 v)))

pub mov_sxd_words : (dst : Reg) (src : Rm) (m : Machine) → HasWords m → IfOk (mov_sxd dst src m) HasWords
unfolding mov_sxd
mov_sxd_words dst src m h = after_any (read B4 src m) _ HasWords (λ v. put_words B8 dst _ m h (immediate_fits B8 (cast_signed w32 v)))

pub lea_words : (w : Width) (dst : Reg) (mem : Mem) (m : Machine) → HasWords m → IfOk (lea w dst mem m) HasWords
unfolding lea
lea_words w dst mem m h = put_words w dst _ m h (low_fits w (address m.regs mem) (mod-lt _ (pow_pos 64)))

pub cdq_words : (w : Width) (m : Machine) → HasWords m → IfOk (cdq w m) HasWords
unfolding cdq
cdq_words w m h =
    let some : 0 < 2 ^ bits w = pow_pos (bits w) in
    put_words w Rdx _ m h (either_fits (top_bit w (value_at w m.regs Rax)) w (2 ^ bits w - 1) 0 (omega (arith, some)) some)

pub cdqe_words : (w : Width) (m : Machine) → HasWords m → IfOk (cdqe w m) HasWords
unfolding cdqe
cdqe_words w m h = put_words w Rax _ m h (immediate_fits w (signed_half w (value_at w m.regs Rax)))

bool_fits : (b : Bool) → from_bool b < 2 ^ 8
bool_fits true = lit< tt
bool_fits false = lit< tt

pub set_cc_words : (c : Cond) (dst : Rm) (m : Machine) → HasWords m → IfOk (set_cc c dst m) HasWords
unfolding set_cc
set_cc_words c dst m h = write_words B1 dst _ m h (bool_fits (holds c m.regs.flags))

pub cmov_words : (c : Cond) (w : Width) (dst : Reg) (src : Rm) (m : Machine) → HasWords m → IfOk (cmov c w dst src m) HasWords
unfolding cmov
cmov_words c w dst src m h =
    after_ok (read w src m) _ (λ v. v < 2 ^ bits w) HasWords (read_words w src m h)
    (λ v fits. put_words w dst _ m h (either_fits (holds c m.regs.flags) w v (value_at w m.regs dst) fits (value_at_fits w m dst h)))

pub xchg_words : (w : Width) (dst : Rm) (src : Reg) (m : Machine) → HasWords m → IfOk (xchg w dst src m) HasWords
unfolding xchg
xchg_words w dst src m h =
    after_ok (read w dst m) _ (λ v. v < 2 ^ bits w) HasWords (read_words w dst m h) (λ old fits.
    after_ok (write w dst (value_at w m.regs src) m) _ HasWords HasWords (write_words w dst _ m h (value_at_fits w m src h)) (λ n k. put_words w src old n k fits))

pub cmp_xchg_words : (w : Width) (dst : Mem) (src : Reg) (m : Machine) → HasWords m → IfOk (cmp_xchg w dst src m) HasWords
unfolding cmp_xchg
cmp_xchg_words w dst src m h =
    after_ok (load_at w (address m.regs dst) m) _ (λ v. v < 2 ^ bits w) HasWords (load_words w _ m h) (λ old fits.
    after_ok (store_at w (address m.regs dst) _ m) _ HasWords HasWords (store_words w _ _ m h)
    (λ n k. either_words _ _ _ (flags_words _ n k) (put_words w Rax old _ (flags_words _ n k) fits)))

pub xadd_words : (w : Width) (dst : Mem) (src : Reg) (m : Machine) → HasWords m → IfOk (xadd w dst src m) HasWords
unfolding xadd
xadd_words w dst src m h =
    after_ok (load_at w (address m.regs dst) m) _ (λ v. v < 2 ^ bits w) HasWords (load_words w _ m h) (λ old fits.
    after_ok (store_at w (address m.regs dst) _ m) _ HasWords HasWords (store_words w _ _ m h) (λ n k. put_words w src old _ (flags_words _ n k) fits))

-- ---- arithmetic

operated_words : (op : AluOp) (w : Width) (dst : Rm) (y : ℕ) (m : Machine) → HasWords m → y < 2 ^ bits w → IfOk (operated op w dst y m) HasWords
operated_words op w dst y m h of_y =
    after_ok (read w dst m) _ (λ v. v < 2 ^ bits w) HasWords (read_words w dst m h) (λ x of_x.
    after_ok (if writes op then write w dst _ m else Ok m) _ HasWords HasWords
    (either_effect_words (writes op) _ _ (write_words w dst _ m h (alu_fits op w x y m.regs.flags of_x of_y)) h) (λ n k. flags_words _ n k))

pub alu_words : (op : AluOp) (w : Width) (dst : Rm) (src : Reg) (m : Machine) → HasWords m → IfOk (alu op w dst src m) HasWords
unfolding alu
alu_words op w dst src m h = operated_words op w dst _ m h (value_at_fits w m src h)

pub alu_imm_words : (op : AluOp) (w : Width) (dst : Rm) (imm : ℤ) (m : Machine) → HasWords m → IfOk (alu_imm op w dst imm m) HasWords
unfolding alu_imm
alu_imm_words op w dst imm m h = operated_words op w dst _ m h (immediate_fits w imm)

pub alu_load_words : (op : AluOp) (w : Width) (dst : Reg) (src : Rm) (m : Machine) → HasWords m → IfOk (alu_load op w dst src m) HasWords
unfolding alu_load
alu_load_words op w dst src m h =
    after_ok (read w src m) _ (λ v. v < 2 ^ bits w) HasWords (read_words w src m h) (λ y of_y.
    flags_words _ _ (either_words (writes op) _ m (put_words w dst _ m h (alu_fits op w (value_at w m.regs dst) y m.regs.flags (value_at_fits w m dst h) of_y)) h))

tested_words : (w : Width) (dst : Rm) (y : ℕ) (m : Machine) → HasWords m → IfOk (tested w dst y m) HasWords
tested_words w dst y m h = after_any (read w dst m) _ HasWords (λ x. flags_words _ m h)

pub test_words : (w : Width) (dst : Rm) (src : Reg) (m : Machine) → HasWords m → IfOk (test w dst src m) HasWords
unfolding test
test_words w dst src m h = tested_words w dst _ m h

pub test_imm_words : (w : Width) (dst : Rm) (imm : ℤ) (m : Machine) → HasWords m → IfOk (test_imm w dst imm m) HasWords
unfolding test_imm
test_imm_words w dst imm m h = tested_words w dst _ m h

pub unary_words : (op : UnOp) (w : Width) (dst : Rm) (m : Machine) → HasWords m → IfOk (unary op w dst m) HasWords
unfolding unary
unary_words op w dst m h = after_any (read w dst m) _ HasWords (λ x.
    after_ok (write w dst _ m) _ HasWords HasWords (write_words w dst _ m h (unary_fits op w x m.regs.flags)) (λ n k. flags_words _ n k))

pub shift_words : (op : ShiftOp) (w : Width) (dst : Rm) (n : ShiftCount) (free : ℕ) (m : Machine) → HasWords m → IfOk (shift op w dst n free m) HasWords
unfolding shift
shift_words op w dst n free m h =
    after_ok (read w dst m) _ (λ v. v < 2 ^ bits w) HasWords (read_words w dst m h) (λ x of_x.
    after_ok (write w dst _ m) _ HasWords HasWords (write_words w dst _ m h (shift_fits op w x (count_of n m.regs) m.regs.flags free of_x)) (λ n k. flags_words _ n k))

pub imul2_words : (w : Width) (dst : Reg) (src : Rm) (free : ℕ) (m : Machine) → HasWords m → IfOk (imul2 w dst src free m) HasWords
unfolding imul2
imul2_words w dst src free m h =
    after_any (read w src m) _ HasWords (λ y. flags_words _ _ (put_words w dst _ m h (imul_fits w (value_at w m.regs dst) y free)))

pub imul3_words : (w : Width) (dst : Reg) (src : Rm) (imm : ℤ) (free : ℕ) (m : Machine) → HasWords m → IfOk (imul3 w dst src imm free m) HasWords
unfolding imul3
imul3_words w dst src imm free m h =
    after_any (read w src m) _ HasWords (λ x. flags_words _ _ (put_words w dst _ m h (imul_fits w x (immediate w imm) free)))

two_words : (w : Width) (x y : ℕ) (m : Machine) → HasWords m → x < 2 ^ bits w → y < 2 ^ bits w → HasWords (put w Rdx y (put w Rax x m))
two_words w x y m h of_x of_y = put_words w Rdx y (put w Rax x m) (put_words w Rax x m h of_x) of_y

multiplied_words : (signed : Bool) (w : Width) (y free : ℕ) (m : Machine) → HasWords m → IfOk (multiplied signed w y free m) HasWords
multiplied_words signed w y free m h =
    let x = value_at w m.regs Rax in
    flags_words _ _ (two_words w _ _ m h (mul_low_fits signed w x y free) (mul_high_fits signed w x y free))

divided_words : (signed : Bool) (w : Width) (y free : ℕ) (m : Machine) → HasWords m → IfOk (divided signed w y free m) HasWords
divided_words signed w y free m h =
    after_ok (ok_or (products.div signed w (value_at w m.regs Rdx) (value_at w m.regs Rax) y) Divide) _ (λ r. (r.0 < 2 ^ bits w) × (r.1 < 2 ^ bits w)) HasWords
    (div_fits signed w (value_at w m.regs Rdx) (value_at w m.regs Rax) y Fault Divide) (λ r fits. flags_words _ _ (two_words w r.0 r.1 m h fits.0 fits.1))

multiplied_or_divided_words : (op : MulDivOp) (w : Width) (y free : ℕ) (m : Machine) → HasWords m → IfOk (multiplied_or_divided op w y free m) HasWords
multiplied_or_divided_words Mul w y free m h = multiplied_words false w y free m h
multiplied_or_divided_words IMul1 w y free m h = multiplied_words true w y free m h
multiplied_or_divided_words Div w y free m h = divided_words false w y free m h
multiplied_or_divided_words IDiv w y free m h = divided_words true w y free m h

pub mul_div_words : (op : MulDivOp) (w : Width) (src : Rm) (free : ℕ) (m : Machine) → HasWords m → IfOk (mul_div op w src free m) HasWords
unfolding mul_div
mul_div_words op w src free m h = after_any (read w src m) _ HasWords (λ y. multiplied_or_divided_words op w y free m h)
