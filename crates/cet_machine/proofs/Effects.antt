-- What each instruction keeps.
use Rattle.std.proofs.Common.{ℕ, Bool, true, false, ℤ, Ok, IfOk, ok_or, if◌then◌else◌}
use Rattle.cet_isa.specs.declared.register.Reg.{Reg}
use Rattle.cet_isa.specs.declared.register.Reg.TheVariants.{Rax, Rdx}
use Rattle.cet_isa.specs.declared.operand.Width.{Width}
use Rattle.cet_isa.specs.declared.operand.Width.TheVariants.{B1, B4, B8}
use Rattle.cet_isa.specs.declared.operand.Mem.{Mem}
use Rattle.cet_isa.specs.declared.operand.Rm.{Rm}
use Rattle.cet_isa.specs.declared.operation.AluOp.{AluOp}
use Rattle.cet_isa.specs.declared.operation.UnOp.{UnOp}
use Rattle.cet_isa.specs.declared.operation.ShiftOp.{ShiftOp}
use Rattle.cet_isa.specs.declared.operation.ShiftCount.{ShiftCount}
use Rattle.cet_isa.specs.declared.operation.MulDivOp.{MulDivOp}
use Rattle.cet_isa.specs.declared.operation.MulDivOp.TheVariants.{Mul, IMul1, Div, IDiv}
use Rattle.cet_isa.specs.declared.operation.Cond.{Cond}
use Rattle.cet_isa.specs.declared.fault.Fault.TheVariants.{Divide}
use Rattle.cet_machine.specs.Products as products
use Rattle.cet_machine.specs.Machine.{Machine, Effect}
use Rattle.cet_machine.specs.MachineLaws.{Follows}
use Rattle.cet_machine.specs.Operand.{value_at, address, load_at, store_at, read, write, put}
use Rattle.cet_machine.specs.MoveInstructions.{mov, mov_load, mov_imm, mov_abs, mov_zx, mov_sx, mov_sxd, lea, cdq, cdqe, set_cc, cmov, xchg, cmp_xchg, xadd}
use Rattle.cet_machine.specs.ArithmeticInstructions.{writes, operated, tested, divided, multiplied_or_divided, alu, alu_load, alu_imm, test, test_imm, unary, shift, imul2, imul3, mul_div}
use Rattle.cet_machine.proofs.Keeps.{follows_refl, put_follows, then_put, store_follows, write_follows, after_any, after_ok}

-- either of two, as the test says
pub either_follows : (b : Bool) (l m n : Machine) → Follows l m → Follows l n → Follows l (if b then m else n)
either_follows true l m n h k = h
either_follows false l m n h k = k

pub either_effect : (b : Bool) (l : Machine) (e f : Effect) → IfOk e (Follows l) → IfOk f (Follows l) → IfOk (if b then e else f) (Follows l)
either_effect true l e f h k = h
either_effect false l e f h k = k

-- ---- moves

pub mov_follows : (w : Width) (dst : Rm) (src : Reg) (m : Machine) → IfOk (mov w dst src m) (Follows m)
unfolding mov
mov_follows w dst src m = write_follows w dst _ m

pub mov_load_follows : (w : Width) (dst : Reg) (src : Rm) (m : Machine) → IfOk (mov_load w dst src m) (Follows m)
unfolding mov_load
mov_load_follows w dst src m = after_any (read w src m) _ (Follows m) (λ v. put_follows w dst v m)

pub mov_imm_follows : (w : Width) (dst : Rm) (imm : ℤ) (m : Machine) → IfOk (mov_imm w dst imm m) (Follows m)
unfolding mov_imm
mov_imm_follows w dst imm m = write_follows w dst _ m

pub mov_abs_follows : (w : Width) (dst : Reg) (imm : ℕ) (m : Machine) → IfOk (mov_abs w dst imm m) (Follows m)
unfolding mov_abs
mov_abs_follows w dst imm m = put_follows w dst _ m

pub mov_zx_follows : (w : Width) (dst : Reg) (src : Rm) (m : Machine) → IfOk (mov_zx w dst src m) (Follows m)
unfolding mov_zx
mov_zx_follows w dst src m = after_any (read B1 src m) _ (Follows m) (λ v. put_follows w dst v m)

pub mov_sx_follows : (w : Width) (dst : Reg) (src : Rm) (m : Machine) → IfOk (mov_sx w dst src m) (Follows m)
unfolding mov_sx
mov_sx_follows w dst src m = after_any (read B1 src m) _ (Follows m) (λ v. put_follows w dst _ m)

pub mov_sxd_follows : (dst : Reg) (src : Rm) (m : Machine) → IfOk (mov_sxd dst src m) (Follows m)
unfolding mov_sxd
mov_sxd_follows dst src m = after_any (read B4 src m) _ (Follows m) (λ v. put_follows B8 dst _ m)

pub lea_follows : (w : Width) (dst : Reg) (mem : Mem) (m : Machine) → IfOk (lea w dst mem m) (Follows m)
unfolding lea
lea_follows w dst mem m = put_follows w dst _ m

pub cdq_follows : (w : Width) (m : Machine) → IfOk (cdq w m) (Follows m)
unfolding cdq
cdq_follows w m = put_follows w Rdx _ m

pub cdqe_follows : (w : Width) (m : Machine) → IfOk (cdqe w m) (Follows m)
unfolding cdqe
cdqe_follows w m = put_follows w Rax _ m

pub set_cc_follows : (c : Cond) (dst : Rm) (m : Machine) → IfOk (set_cc c dst m) (Follows m)
unfolding set_cc
set_cc_follows c dst m = write_follows B1 dst _ m

pub cmov_follows : (c : Cond) (w : Width) (dst : Reg) (src : Rm) (m : Machine) → IfOk (cmov c w dst src m) (Follows m)
unfolding cmov
cmov_follows c w dst src m = after_any (read w src m) _ (Follows m) (λ v. put_follows w dst _ m)

pub xchg_follows : (w : Width) (dst : Rm) (src : Reg) (m : Machine) → IfOk (xchg w dst src m) (Follows m)
unfolding xchg
xchg_follows w dst src m = after_any (read w dst m) _ (Follows m) (λ old.
    after_ok (write w dst (value_at w m.regs src) m) _ (Follows m) (Follows m) (write_follows w dst _ m) (λ n h. then_put m n w src old h))

pub cmp_xchg_follows : (w : Width) (dst : Mem) (src : Reg) (m : Machine) → IfOk (cmp_xchg w dst src m) (Follows m)
unfolding cmp_xchg
cmp_xchg_follows w dst src m = after_any (load_at w (address m.regs dst) m) _ (Follows m) (λ old.
    after_ok (store_at w (address m.regs dst) _ m) _ (Follows m) (Follows m) (store_follows w _ _ m)
    (λ n h. either_follows _ m _ _ h (then_put m n w Rax old h)))

pub xadd_follows : (w : Width) (dst : Mem) (src : Reg) (m : Machine) → IfOk (xadd w dst src m) (Follows m)
unfolding xadd
xadd_follows w dst src m = after_any (load_at w (address m.regs dst) m) _ (Follows m) (λ old.
    after_ok (store_at w (address m.regs dst) _ m) _ (Follows m) (Follows m) (store_follows w _ _ m) (λ n h. then_put m n w src old h))

-- ---- arithmetic

operated_follows : (op : AluOp) (w : Width) (dst : Rm) (y : ℕ) (m : Machine) → IfOk (operated op w dst y m) (Follows m)
operated_follows op w dst y m = after_any (read w dst m) _ (Follows m) (λ x.
    after_ok (if writes op then write w dst _ m else Ok m) _ (Follows m) (Follows m)
    (either_effect (writes op) m _ _ (write_follows w dst _ m) (follows_refl m)) (λ n h. h))

pub alu_follows : (op : AluOp) (w : Width) (dst : Rm) (src : Reg) (m : Machine) → IfOk (alu op w dst src m) (Follows m)
unfolding alu
alu_follows op w dst src m = operated_follows op w dst _ m

pub alu_imm_follows : (op : AluOp) (w : Width) (dst : Rm) (imm : ℤ) (m : Machine) → IfOk (alu_imm op w dst imm m) (Follows m)
unfolding alu_imm
alu_imm_follows op w dst imm m = operated_follows op w dst _ m

pub alu_load_follows : (op : AluOp) (w : Width) (dst : Reg) (src : Rm) (m : Machine) → IfOk (alu_load op w dst src m) (Follows m)
unfolding alu_load
alu_load_follows op w dst src m = after_any (read w src m) _ (Follows m) (λ y.
    either_follows (writes op) m _ m (put_follows w dst _ m) (follows_refl m))

tested_follows : (w : Width) (dst : Rm) (y : ℕ) (m : Machine) → IfOk (tested w dst y m) (Follows m)
tested_follows w dst y m = after_any (read w dst m) _ (Follows m) (λ x. follows_refl m)

pub test_follows : (w : Width) (dst : Rm) (src : Reg) (m : Machine) → IfOk (test w dst src m) (Follows m)
unfolding test
test_follows w dst src m = tested_follows w dst _ m

pub test_imm_follows : (w : Width) (dst : Rm) (imm : ℤ) (m : Machine) → IfOk (test_imm w dst imm m) (Follows m)
unfolding test_imm
test_imm_follows w dst imm m = tested_follows w dst _ m

pub unary_follows : (op : UnOp) (w : Width) (dst : Rm) (m : Machine) → IfOk (unary op w dst m) (Follows m)
unfolding unary
unary_follows op w dst m = after_any (read w dst m) _ (Follows m) (λ x.
    after_ok (write w dst _ m) _ (Follows m) (Follows m) (write_follows w dst _ m) (λ n h. h))

pub shift_follows : (op : ShiftOp) (w : Width) (dst : Rm) (n : ShiftCount) (free : ℕ) (m : Machine) → IfOk (shift op w dst n free m) (Follows m)
unfolding shift
shift_follows op w dst n free m = after_any (read w dst m) _ (Follows m) (λ x.
    after_ok (write w dst _ m) _ (Follows m) (Follows m) (write_follows w dst _ m) (λ n h. h))

pub imul2_follows : (w : Width) (dst : Reg) (src : Rm) (free : ℕ) (m : Machine) → IfOk (imul2 w dst src free m) (Follows m)
unfolding imul2
imul2_follows w dst src free m = after_any (read w src m) _ (Follows m) (λ y. put_follows w dst _ m)

pub imul3_follows : (w : Width) (dst : Reg) (src : Rm) (imm : ℤ) (free : ℕ) (m : Machine) → IfOk (imul3 w dst src imm free m) (Follows m)
unfolding imul3
imul3_follows w dst src imm free m = after_any (read w src m) _ (Follows m) (λ x. put_follows w dst _ m)

-- two results, one after another
two_put : (w : Width) (x y : ℕ) (m : Machine) → Follows m (put w Rdx y (put w Rax x m))
two_put w x y m = then_put m (put w Rax x m) w Rdx y (put_follows w Rax x m)

divided_follows : (signed : Bool) (w : Width) (y free : ℕ) (m : Machine) → IfOk (divided signed w y free m) (Follows m)
divided_follows signed w y free m = after_any (ok_or (products.div signed w (value_at w m.regs Rdx) (value_at w m.regs Rax) y) Divide) _ (Follows m) (λ r. two_put w _ _ m)

multiplied_or_divided_follows : (op : MulDivOp) (w : Width) (y free : ℕ) (m : Machine) → IfOk (multiplied_or_divided op w y free m) (Follows m)
multiplied_or_divided_follows Mul w y free m = two_put w _ _ m
multiplied_or_divided_follows IMul1 w y free m = two_put w _ _ m
multiplied_or_divided_follows Div w y free m = divided_follows false w y free m
multiplied_or_divided_follows IDiv w y free m = divided_follows true w y free m

pub mul_div_follows : (op : MulDivOp) (w : Width) (src : Rm) (free : ℕ) (m : Machine) → IfOk (mul_div op w src free m) (Follows m)
unfolding mul_div
mul_div_follows op w src free m = after_any (read w src m) _ (Follows m) (λ y. multiplied_or_divided_follows op w y free m)
