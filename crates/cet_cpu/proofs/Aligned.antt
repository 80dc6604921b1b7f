-- SSP stays a multiple of 8 under each instruction.
use Rattle.std.proofs.Common.{◌≡◌, ℕ, ◌-◌, ◌*◌, ◌%◌, Bool, true, false, not, ◌&&◌, ◌==◌, List, ℤ, Result, Ok, Err, IfOk, ok_or, refl, sym, subst, eqb-true, arith, if◌then◌else◌}
use Rattle.cet_isa.specs.declared.instruction.Insn.{Insn}
use Rattle.cet_isa.specs.declared.instruction.Insn.TheVariants as insn
use Rattle.cet_isa.specs.declared.instruction.Insn.TheVariants.{EndBr64, Nop, Mov, MovLoad, MovImm, MovAbs, MovZx, MovSx, MovSxd, Lea, Alu, AluLoad, AluImm, Test, TestImm, Unary, Shift, IMul2, IMul3, MulDiv, Cdq, Cdqe, Push, Pop, PushImm, PushMem, Call, CallInd, JmpInd, Jmp, Jcc, SetCc, CMov, Ret, Leave, Xchg, CmpXchg, XAdd, RdSsp, IncSsp, RstorSsp, SavePrevSsp, WrSs, Ud2, Hlt}
use Rattle.cet_isa.specs.declared.register.Reg.{Reg}
use Rattle.cet_isa.specs.declared.register.Reg.TheVariants.{Rax, Rdx, Rsp, Rbp}
use Rattle.cet_isa.specs.declared.operand.Width.{Width}
use Rattle.cet_isa.specs.declared.operand.Width.TheVariants.{B1, B4, B8}
use Rattle.cet_isa.specs.declared.operand.Mem.{Mem}
use Rattle.cet_isa.specs.declared.operand.Rm.{Rm}
use Rattle.cet_isa.specs.declared.operand.Rm.TheVariants as rm
use Rattle.cet_isa.specs.declared.operation.AluOp.{AluOp}
use Rattle.cet_isa.specs.declared.operation.MulDivOp.{MulDivOp}
use Rattle.cet_isa.specs.declared.operation.MulDivOp.TheVariants.{Mul, IMul1, Div, IDiv}
use Rattle.cet_isa.specs.declared.fault.Fault.TheVariants.{NearRet, Undefined, Divide, Page}
use Rattle.cet_isa.specs.declared.registers.Mode.{Mode}
use Rattle.cet_isa.specs.Canonical.{is_zero}
use Rattle.cet_machine.specs.declared.memory.Region.{Region}
use Rattle.cet_machine.specs.declared.shadow_fault.ShadowFault.{ShadowFault}
use Rattle.cet_machine.specs.declared.shadow_fault.ShadowFault.TheVariants.{Gp, Cp4}
use Rattle.cet_machine.specs.Arithmetic.{bit, bytes_of, holds}
use Rattle.cet_machine.specs.Memory.{store}
use Rattle.cet_machine.specs.Products as products
use Rattle.cet_machine.specs.Machine.{Machine, Effect, ◌>>=◌, demand, minus, plus}
use Rattle.cet_machine.specs.Operand.{value, value_at, address, load_at, store_at, read, write, put}
use Rattle.cet_machine.specs.Shadow as shadow
use Rattle.cet_machine.specs.ShadowEffect.{by_thread, shadow_pushed, shadow_popped}
use Rattle.cet_machine.specs.MoveInstructions.{mov, mov_load, mov_imm, mov_abs, mov_zx, mov_sx, mov_sxd, lea, cdq, cdqe, set_cc, cmov, xchg, cmp_xchg, xadd}
use Rattle.cet_machine.specs.ArithmeticInstructions.{writes, operated, tested, divided, multiplied_or_divided, alu, alu_load, alu_imm, test, test_imm, unary, shift, imul2, imul3, mul_div}
use Rattle.cet_machine.specs.StackInstructions.{pushed, popped, push, push_imm, push_mem, pop, leave}
use Rattle.cet_machine.specs.ControlInstructions.{displacement, branch, called, checked, endbr64, jmp, jcc, jmp_ind, call, call_ind, ret}
use Rattle.cet_machine.specs.CetInstructions.{rd_ssp, inc_ssp, rstor_ssp, save_prev_ssp, wr_ss}
use Rattle.cet_machine.specs.SystemInstructions.{nop, syscall, ud2, hlt}
use Rattle.cet_machine.specs.Meaning.{meaning}
use Rattle.cet_machine.proofs.Keeps.{after_any, after_ok}
use Rattle.cet_machine.proofs.Transfers.{by_thread_ok}

abbrev IsAligned : Machine → Type 0
IsAligned m = m.regs.ssp % 8 ≡ 0

either_is : (b : Bool) (m n : Machine) → IsAligned m → IsAligned n → IsAligned (if b then m else n)
either_is true m n h k = h
either_is false m n h k = k

either_effect : (b : Bool) (e f : Effect) → IfOk e IsAligned → IfOk f IsAligned → IfOk (if b then e else f) IsAligned
either_effect true e f h k = h
either_effect false e f h k = k

store_aligned : (w : Width) (a v : ℕ) (m : Machine) → IsAligned m → IfOk (store_at w a v m) IsAligned
store_aligned w a v m h = after_any (ok_or (store m.memory a (bytes_of w) v) (Page a)) _ IsAligned (λ N. h)

write_aligned : (w : Width) (operand : Rm) (v : ℕ) (m : Machine) → IsAligned m → IfOk (write w operand v m) IsAligned
write_aligned w (rm.Reg reg) v m h = h
write_aligned w (rm.Mem mem) v m h = store_aligned w (address m.regs mem) v m h

-- ---- the data stack

pushed_aligned : (word : ℕ) (m : Machine) → IsAligned m → IfOk (pushed word m) IsAligned
pushed_aligned word m h =
    after_ok (store_at B8 (minus (value m.regs Rsp) 8) word m) _ IsAligned IsAligned (store_aligned B8 _ word m h) (λ n k. k)

pop_aligned : (dst : Reg) (m : Machine) → IsAligned m → IfOk (pop dst m) IsAligned
unfolding pop
pop_aligned dst m h =
    after_ok (popped m) _ (λ top. IsAligned top.1) IsAligned (after_any (load_at B8 (value m.regs Rsp) m) _ (λ top. IsAligned top.1) (λ word. h)) (λ top k. k)

-- ---- the shadow stack

above : (ssp n : ℕ) → ssp % 8 ≡ 0 → plus ssp (8 * n) % 8 ≡ 0
above ssp n h = omega (arith, h)

below : (ssp : ℕ) → ssp % 8 ≡ 0 → minus ssp 8 % 8 ≡ 0
below ssp h = omega (arith, h)

either_number : (b : Bool) (e f : Result ℕ ShadowFault) → IfOk e (λ n. n % 8 ≡ 0) → IfOk f (λ n. n % 8 ≡ 0) → IfOk (if b then e else f) (λ n. n % 8 ≡ 0)
either_number true e f h k = h
either_number false e f h k = k

incssp_aligned : (M : List Region) (ssp count : ℕ) → ssp % 8 ≡ 0 → IfOk (shadow.incssp M ssp count) (λ n. n % 8 ≡ 0)
unfolding shadow.incssp
incssp_aligned M ssp count h =
    either_number (count == 0) (Ok ssp) _ h
    (after_any (shadow.word_at M ssp) _ (λ n. n % 8 ≡ 0) (λ first.
    after_any (shadow.word_at M (plus ssp (8 * (count - 1)))) _ (λ n. n % 8 ≡ 0) (λ last. above ssp count h)))

-- what is demanded holds, then the rest
after_demand : {B E : Type 0} (b : Bool) (e : E) (f : Unit {0} → Result B E) (P : B → Type 0) → (b ≡ true → IfOk (f tt) P) → IfOk (demand b e >>= f) P
after_demand true e f P h = h refl
after_demand false e f P h = tt

rstorssp_aligned : (M : List Region) (ssp a : ℕ) → IfOk (shadow.rstorssp M ssp a) (λ stack. stack.1 % 8 ≡ 0)
unfolding shadow.rstorssp
rstorssp_aligned M ssp a =
    after_demand (a % 8 == 0) Gp _ _ (λ aligned.
    after_any (shadow.word_at M a) _ _ (λ word.
    after_any (demand (shadow.is_restore_token a word) (Cp4 word)) _ _ (λ token.
    after_any (shadow.with_word M a (shadow.previous_ssp_token ssp)) _ (λ stack. stack.1 % 8 ≡ 0) (λ N. eqb-true (a % 8) 0 aligned))))

saveprevssp_aligned : (M : List Region) (ssp : ℕ) (cf : Bool) → ssp % 8 ≡ 0 → IfOk (shadow.saveprevssp M ssp cf) (λ stack. stack.1 % 8 ≡ 0)
unfolding shadow.saveprevssp
saveprevssp_aligned M ssp cf h =
    after_any (shadow.word_at M ssp) _ _ (λ word.
    after_any (demand (not cf) Gp) _ _ (λ clear.
    after_any {B = shadow.ShadowStack} (demand (bit word 1 && not (bit word 2)) Gp) _ (λ stack. stack.1 % 8 ≡ 0) (λ token.
    after_any {B = shadow.ShadowStack} (shadow.with_word M (minus (word - word % 4) 8) (shadow.restore_token (word - word % 4))) _ (λ stack. stack.1 % 8 ≡ 0)
    (λ N. above ssp 1 h))))

push_is : (M : List Region) (ssp word : ℕ) → ssp % 8 ≡ 0 → IfOk (shadow.push M ssp word) (λ stack. stack.1 % 8 ≡ 0)
unfolding shadow.push
push_is M ssp word h = after_any (shadow.with_word M (minus ssp 8) word) _ (λ stack. stack.1 % 8 ≡ 0) (λ N. below ssp h)

pop_is : (M : List Region) (ssp : ℕ) → ssp % 8 ≡ 0 → IfOk (shadow.pop M ssp) (λ top. top.1 % 8 ≡ 0)
unfolding shadow.pop
pop_is M ssp h = after_any (shadow.word_at M ssp) _ (λ top. top.1 % 8 ≡ 0) (λ word. above ssp 1 h)

shadow_pushed_aligned : (word : ℕ) (m : Machine) → IsAligned m → IfOk (shadow_pushed word m) IsAligned
shadow_pushed_aligned word m h =
    after_ok (by_thread (shadow.push m.memory m.regs.ssp word)) _ (λ stack. stack.1 % 8 ≡ 0) IsAligned
    (by_thread_ok (shadow.push m.memory m.regs.ssp word) (λ stack. stack.1 % 8 ≡ 0) (push_is m.memory m.regs.ssp word h)) (λ stack k. k)

shadow_popped_aligned : (m : Machine) → IsAligned m → IfOk (shadow_popped m) (λ top. IsAligned top.1)
shadow_popped_aligned m h =
    after_ok (by_thread (shadow.pop m.memory m.regs.ssp)) _ (λ top. top.1 % 8 ≡ 0) (λ top. IsAligned top.1)
    (by_thread_ok (shadow.pop m.memory m.regs.ssp) (λ top. top.1 % 8 ≡ 0) (pop_is m.memory m.regs.ssp h)) (λ top k. k)

-- ---- control transfers

called_aligned : (mode : Mode) (m : Machine) → IsAligned m → IfOk (called mode m) IsAligned
called_aligned mode m h =
    after_ok (pushed m.regs.rip m) _ IsAligned IsAligned (pushed_aligned m.regs.rip m h)
    (λ n k. either_effect mode.shstk _ _ (shadow_pushed_aligned m.regs.rip n k) k)

checked_aligned : (mode : Mode) (a : ℕ) (m : Machine) → IsAligned m → IfOk (checked mode a m) IsAligned
checked_aligned mode a m h =
    either_effect mode.shstk _ _
    (after_ok (shadow_popped m) _ (λ top. IsAligned top.1) IsAligned (shadow_popped_aligned m h)
    (λ top k. after_any (demand (a == top.0) (NearRet a top.0)) _ IsAligned (λ same. k))) h

ret_aligned : (mode : Mode) (m : Machine) → IsAligned m → IfOk (ret mode m) IsAligned
unfolding ret
ret_aligned mode m h =
    after_ok (popped m) _ (λ top. IsAligned top.1) IsAligned (after_any (load_at B8 (value m.regs Rsp) m) _ (λ top. IsAligned top.1) (λ word. h)) (λ top k.
    after_ok (checked mode top.0 top.1) _ IsAligned IsAligned (checked_aligned mode top.0 top.1 k) (λ n l. l))

-- ---- arithmetic

operated_aligned : (op : AluOp) (w : Width) (dst : Rm) (y : ℕ) (m : Machine) → IsAligned m → IfOk (operated op w dst y m) IsAligned
operated_aligned op w dst y m h =
    after_any (read w dst m) _ IsAligned (λ x.
    after_ok (if writes op then write w dst _ m else Ok m) _ IsAligned IsAligned (either_effect (writes op) _ _ (write_aligned w dst _ m h) h) (λ n k. k))

multiplied_or_divided_aligned : (op : MulDivOp) (w : Width) (y free : ℕ) (m : Machine) → IsAligned m → IfOk (multiplied_or_divided op w y free m) IsAligned
multiplied_or_divided_aligned Mul w y free m h = h
multiplied_or_divided_aligned IMul1 w y free m h = h
multiplied_or_divided_aligned Div w y free m h = after_any (ok_or (products.div false w (value_at w m.regs Rdx) (value_at w m.regs Rax) y) Divide) _ IsAligned (λ r. h)
multiplied_or_divided_aligned IDiv w y free m h = after_any (ok_or (products.div true w (value_at w m.regs Rdx) (value_at w m.regs Rax) y) Divide) _ IsAligned (λ r. h)

-- ---- each instruction

pub meaning_aligned : (i : Insn) (mode : Mode) (free : ℕ) (m : Machine) → IsAligned m → IfOk (meaning i mode free m) IsAligned
unfolding nop endbr64 mov mov_load mov_imm mov_abs mov_zx mov_sx mov_sxd lea cdq cdqe set_cc cmov xchg cmp_xchg xadd alu alu_load alu_imm test test_imm unary shift imul2 imul3 mul_div push push_imm push_mem leave jmp jcc jmp_ind call call_ind rd_ssp inc_ssp rstor_ssp save_prev_ssp wr_ss syscall ud2 hlt
meaning_aligned EndBr64 mode free m h = h
meaning_aligned Nop mode free m h = h
meaning_aligned (Mov w dst src) mode free m h = write_aligned w dst _ m h
meaning_aligned (MovLoad w dst src) mode free m h = after_any (read w src m) _ IsAligned (λ v. h)
meaning_aligned (MovImm w dst imm) mode free m h = write_aligned w dst _ m h
meaning_aligned (MovAbs w dst imm) mode free m h = h
meaning_aligned (MovZx w dst src) mode free m h = after_any (read B1 src m) _ IsAligned (λ v. h)
meaning_aligned (MovSx w dst src) mode free m h = after_any (read B1 src m) _ IsAligned (λ v. h)
meaning_aligned (MovSxd dst src) mode free m h = after_any (read B4 src m) _ IsAligned (λ v. h)
meaning_aligned (Lea w dst mem) mode free m h = h
meaning_aligned (Alu op w dst src) mode free m h = operated_aligned op w dst _ m h
meaning_aligned (AluLoad op w dst src) mode free m h = after_any (read w src m) _ IsAligned (λ y. either_is (writes op) (put w dst _ m) m h h)
meaning_aligned (AluImm op w dst imm) mode free m h = operated_aligned op w dst _ m h
meaning_aligned (Test w dst src) mode free m h = after_any (read w dst m) _ IsAligned (λ x. h)
meaning_aligned (TestImm w dst imm) mode free m h = after_any (read w dst m) _ IsAligned (λ x. h)
meaning_aligned (Unary op w dst) mode free m h =
    after_any (read w dst m) _ IsAligned (λ x. after_ok (write w dst _ m) _ IsAligned IsAligned (write_aligned w dst _ m h) (λ n k. k))
meaning_aligned (Shift op w dst count) mode free m h =
    after_any (read w dst m) _ IsAligned (λ x. after_ok (write w dst _ m) _ IsAligned IsAligned (write_aligned w dst _ m h) (λ n k. k))
meaning_aligned (IMul2 w dst src) mode free m h = after_any (read w src m) _ IsAligned (λ y. h)
meaning_aligned (IMul3 w dst src imm) mode free m h = after_any (read w src m) _ IsAligned (λ x. h)
meaning_aligned (MulDiv op w src) mode free m h = after_any (read w src m) _ IsAligned (λ y. multiplied_or_divided_aligned op w y free m h)
meaning_aligned (Cdq w) mode free m h = h
meaning_aligned (Cdqe w) mode free m h = h
meaning_aligned (Push src) mode free m h = pushed_aligned _ m h
meaning_aligned (Pop dst) mode free m h = pop_aligned dst m h
meaning_aligned (PushImm imm) mode free m h = pushed_aligned _ m h
meaning_aligned (PushMem mem) mode free m h = after_any (load_at B8 (address m.regs mem) m) _ IsAligned (λ word. pushed_aligned word m h)
meaning_aligned (Call rel) mode free m h =
    after_ok (if is_zero rel then pushed m.regs.rip m else called mode m) _ IsAligned IsAligned
    (either_effect (is_zero rel) _ _ (pushed_aligned m.regs.rip m h) (called_aligned mode m h)) (λ n k. k)
meaning_aligned (CallInd target notrack) mode free m h =
    after_any (read B8 target m) _ IsAligned (λ a. after_ok (called mode m) _ IsAligned IsAligned (called_aligned mode m h) (λ n k. k))
meaning_aligned (JmpInd target notrack) mode free m h = after_any (read B8 target m) _ IsAligned (λ a. h)
meaning_aligned (Jmp rel) mode free m h = h
meaning_aligned (Jcc c rel) mode free m h = either_is (holds c m.regs.flags) (branch (displacement rel) m) m h h
meaning_aligned (SetCc c dst) mode free m h = write_aligned B1 dst _ m h
meaning_aligned (CMov c w dst src) mode free m h = after_any (read w src m) _ IsAligned (λ v. h)
meaning_aligned Ret mode free m h = ret_aligned mode m h
meaning_aligned Leave mode free m h = pop_aligned Rbp (put B8 Rsp (value m.regs Rbp) m) h
meaning_aligned (Xchg w dst src) mode free m h =
    after_any (read w dst m) _ IsAligned (λ old. after_ok (write w dst (value_at w m.regs src) m) _ IsAligned IsAligned (write_aligned w dst _ m h) (λ n k. k))
meaning_aligned (CmpXchg w dst src lock) mode free m h =
    after_any (load_at w (address m.regs dst) m) _ IsAligned (λ old.
    after_ok (store_at w (address m.regs dst) _ m) _ IsAligned IsAligned (store_aligned w _ _ m h) (λ n k. either_is _ _ _ k k))
meaning_aligned (XAdd w dst src lock) mode free m h =
    after_any (load_at w (address m.regs dst) m) _ IsAligned (λ old. after_ok (store_at w (address m.regs dst) _ m) _ IsAligned IsAligned (store_aligned w _ _ m h) (λ n k. k))
meaning_aligned (RdSsp dst) mode free m h = either_is mode.shstk (put B8 dst m.regs.ssp m) m h h
meaning_aligned (IncSsp src) mode free m h =
    after_any (demand mode.shstk Undefined) _ IsAligned (λ on.
    after_ok (by_thread (shadow.incssp m.memory m.regs.ssp (value m.regs src % 256))) _ (λ n. n % 8 ≡ 0) IsAligned
    (by_thread_ok (shadow.incssp m.memory m.regs.ssp (value m.regs src % 256)) (λ n. n % 8 ≡ 0) (incssp_aligned m.memory m.regs.ssp (value m.regs src % 256) h)) (λ ssp k. k))
meaning_aligned (RstorSsp mem) mode free m h =
    after_any (demand mode.shstk Undefined) _ IsAligned (λ on.
    after_ok (by_thread (shadow.rstorssp m.memory m.regs.ssp (address m.regs mem))) _ (λ stack. stack.1 % 8 ≡ 0) IsAligned
    (by_thread_ok (shadow.rstorssp m.memory m.regs.ssp (address m.regs mem)) (λ stack. stack.1 % 8 ≡ 0) (rstorssp_aligned m.memory m.regs.ssp (address m.regs mem))) (λ stack k. k))
meaning_aligned SavePrevSsp mode free m h =
    after_any (demand mode.shstk Undefined) _ IsAligned (λ on.
    after_ok (by_thread (shadow.saveprevssp m.memory m.regs.ssp m.regs.flags.cf)) _ (λ stack. stack.1 % 8 ≡ 0) IsAligned
    (by_thread_ok (shadow.saveprevssp m.memory m.regs.ssp m.regs.flags.cf) (λ stack. stack.1 % 8 ≡ 0) (saveprevssp_aligned m.memory m.regs.ssp m.regs.flags.cf h)) (λ stack k. k))
meaning_aligned (WrSs mem src) mode free m h = tt
meaning_aligned insn.Syscall mode free m h = h
meaning_aligned Ud2 mode free m h = tt
meaning_aligned Hlt mode free m h = tt

-- what an instruction answers with
pub aligned_after : (i : Insn) (mode : Mode) (free : ℕ) (m n : Machine) → Ok n ≡ meaning i mode free m → IsAligned m → IsAligned n
aligned_after i mode free m n e h = subst (λ (f : Effect). IfOk f IsAligned) (sym e) (meaning_aligned i mode free m h)
