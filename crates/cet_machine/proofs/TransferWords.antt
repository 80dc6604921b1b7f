-- Registers stay below 2^64 under the instructions of the two stacks, a step and a signal.
use Rattle.std.proofs.Common.{ℕ, ◌-◌, ◌*◌, ◌%◌, ◌^◌, ◌<◌, ◌≤◌, Bool, true, false, not, ◌&&◌, ◌==◌, List, length, nat_eq, ℤ, Result, Ok, Err, IfOk, subst, arith, if◌then◌else◌, lit≤}
use Rattle.std.specs.List.{starts_with}
use Rattle.std.specs.Int.{from_bool}
use Rattle.std.proofs.Math.Nat.{mod-lt}
use Rattle.std.proofs.lemmas.Nat.{pow_pos}
use Rattle.cet_isa.specs.declared.instruction.Insn.{Insn}
use Rattle.cet_isa.specs.declared.instruction.Insn.TheVariants as insn
use Rattle.cet_isa.specs.declared.instruction.Insn.TheVariants.{EndBr64, Nop, Mov, MovLoad, MovImm, MovAbs, MovZx, MovSx, MovSxd, Lea, Alu, AluLoad, AluImm, Test, TestImm, Unary, Shift, IMul2, IMul3, MulDiv, Cdq, Cdqe, Push, Pop, PushImm, PushMem, Call, CallInd, JmpInd, Jmp, Jcc, SetCc, CMov, Ret, Leave, Xchg, CmpXchg, XAdd, RdSsp, IncSsp, RstorSsp, SavePrevSsp, WrSs, Ud2, Hlt}
use Rattle.cet_isa.specs.declared.register.Reg.{Reg}
use Rattle.cet_isa.specs.declared.register.Reg.TheVariants.{Rcx, Rsp, Rbp, R11}
use Rattle.cet_isa.specs.declared.operand.Width.TheVariants.{B8}
use Rattle.cet_isa.specs.declared.operand.Mem.{Mem}
use Rattle.cet_isa.specs.declared.operand.Rm.{Rm}
use Rattle.cet_isa.specs.declared.operand.Rel.{Rel}
use Rattle.cet_isa.specs.declared.operation.Cond.{Cond}
use Rattle.cet_isa.specs.declared.decode_error.DecodeError.TheVariants.{Short, Outside}
use Rattle.cet_isa.specs.declared.fault.Fault.TheVariants.{NearRet, Undefined}
use Rattle.cet_isa.specs.declared.registers.Flags.{Flags}
use Rattle.cet_isa.specs.declared.registers.Mode.{Mode}
use Rattle.cet_isa.specs.Canonical.{is_zero}
use Rattle.cet_isa.specs.Decoded.{Decoding, decoded}
use Rattle.cet_machine.specs.declared.memory.Region.{Region}
use Rattle.cet_machine.specs.declared.shadow_fault.ShadowFault.{ShadowFault}
use Rattle.cet_machine.specs.declared.shadow_fault.ShadowFault.TheVariants.{Pf, Gp, Cp4}
use Rattle.cet_machine.specs.Arithmetic.{bit, holds, flags_word}
use Rattle.cet_machine.specs.Memory.{is_shadow, shadow_load, fetched}
use Rattle.cet_machine.specs.MemoryLaws.{HaveBytes}
use Rattle.cet_machine.specs.Machine.{Machine, Effect, demand, minus, plus, going_to, with_ssp, with_tracker}
use Rattle.cet_machine.specs.MachineLaws.{KeepsRegions, HasWords, StepKeepsWords, SyscallKeepsWords}
use Rattle.cet_machine.specs.Operand.{value, address, load_at, store_at, read, put}
use Rattle.cet_machine.specs.Shadow as shadow
use Rattle.cet_machine.specs.ShadowEffect.{by_thread, with_shadow, shadow_pushed, shadow_popped}
use Rattle.cet_machine.specs.StackInstructions.{pushed, popped, push, push_imm, push_mem, pop, leave}
use Rattle.cet_machine.specs.ControlInstructions.{branch, displacement, called, checked, endbr64, jmp, jcc, jmp_ind, call, call_ind, ret}
use Rattle.cet_machine.specs.CetInstructions.{rd_ssp, inc_ssp, rstor_ssp, save_prev_ssp, wr_ss}
use Rattle.cet_machine.specs.SystemInstructions.{nop, syscall, ud2, hlt}
use Rattle.cet_machine.specs.Step.{StepEnd, Next, Syscall, Faulted, executed, executed_if_form, endbr64_bytes, step}
use Rattle.cet_machine.proofs.MemoryReads.{load_fits}
use Rattle.cet_machine.proofs.Keeps.{after_any, after_ok, ok_or_some}
use Rattle.cet_machine.proofs.Transfers.{by_thread_ok, with_word_keeps}
use Rattle.cet_machine.proofs.Words.{value_fits, put_words, flags_words, load_words, store_words, read_words}
use Rattle.cet_machine.proofs.EffectWords.{either_words, either_effect_words, mov_words, mov_load_words, mov_imm_words, mov_abs_words, mov_zx_words, mov_sx_words, mov_sxd_words, lea_words, cdq_words, cdqe_words, set_cc_words, cmov_words, xchg_words, cmp_xchg_words, xadd_words, alu_words, alu_load_words, alu_imm_words, test_words, test_imm_words, unary_words, shift_words, imul2_words, imul3_words, mul_div_words}

-- ---- other parts of a thread

pub wrapped : (n : ℕ) → n % 2 ^ 64 < 2 ^ 64
wrapped n = mod-lt n (pow_pos 64)

going_words : (a : ℕ) (m : Machine) → HasWords m → a < 2 ^ 64 → HasWords (going_to a m)
going_words a m h fits = record { memory = h.memory; registers = h.registers; rip = fits; ssp = h.ssp; mask = h.mask }

tracker_words : (waiting : Bool) (m : Machine) → HasWords m → HasWords (with_tracker waiting m)
tracker_words waiting m h = record { memory = h.memory; registers = h.registers; rip = h.rip; ssp = h.ssp; mask = h.mask }

ssp_words : (ssp : ℕ) (m : Machine) → HasWords m → ssp < 2 ^ 64 → HasWords (with_ssp ssp m)
ssp_words ssp m h fits = record { memory = h.memory; registers = h.registers; rip = h.rip; ssp = fits; mask = h.mask }

shadow_words : (N : List Region) (ssp : ℕ) (m : Machine) → HasWords m → HaveBytes N → ssp < 2 ^ 64 → HasWords (with_shadow N ssp m)
shadow_words N ssp m h bytes fits = record { memory = bytes; registers = h.registers; rip = h.rip; ssp = fits; mask = h.mask }

-- ---- the data stack

pushed_words : (word : ℕ) (m : Machine) → HasWords m → IfOk (pushed word m) HasWords
pushed_words word m h =
    after_ok (store_at B8 (minus (value m.regs Rsp) 8) word m) _ HasWords HasWords (store_words B8 _ word m h) (λ n k. put_words B8 Rsp _ n k (wrapped _))

-- a word and a thread
HasTop : ℕ × Machine → Type 0
HasTop top = (top.0 < 2 ^ 64) × HasWords top.1

popped_words : (m : Machine) → HasWords m → IfOk (popped m) HasTop
unfolding HasTop
popped_words m h =
    after_ok (load_at B8 (value m.regs Rsp) m) _ (λ v. v < 2 ^ 64) HasTop (load_words B8 _ m h) (λ word fits. (fits, put_words B8 Rsp _ m h (wrapped _)))

push_words : (src : Reg) (m : Machine) → HasWords m → IfOk (push src m) HasWords
unfolding push
push_words src m h = pushed_words (value m.regs src) m h

push_imm_words : (imm : ℤ) (m : Machine) → HasWords m → IfOk (push_imm imm m) HasWords
unfolding push_imm
push_imm_words imm m h = pushed_words _ m h

push_mem_words : (mem : Mem) (m : Machine) → HasWords m → IfOk (push_mem mem m) HasWords
unfolding push_mem
push_mem_words mem m h = after_any (load_at B8 (address m.regs mem) m) _ HasWords (λ word. pushed_words word m h)

pop_words : (dst : Reg) (m : Machine) → HasWords m → IfOk (pop dst m) HasWords
unfolding pop HasTop
pop_words dst m h = after_ok (popped m) _ HasTop HasWords (popped_words m h) (λ top k. put_words B8 dst top.0 top.1 k.1 k.0)

leave_words : (m : Machine) → HasWords m → IfOk (leave m) HasWords
unfolding leave
leave_words m h = pop_words Rbp (put B8 Rsp (value m.regs Rbp) m) (put_words B8 Rsp (value m.regs Rbp) m h (value_fits m.regs Rbp h.registers))

-- ---- the shadow stack

shadow_word_fits : (M : List Region) (a : ℕ) → HaveBytes M → IfOk (shadow.word_at M a) (λ v. v < 2 ^ 64)
shadow_word_fits M a bytes = ok_or_some (shadow_load M a) (Pf a) (λ v. v < 2 ^ 64) (λ v e. load_fits is_shadow M a 8 v bytes e)

-- what was M, and an SSP
abbrev HasStack : List Region → ℕ → List Region → Type 0
HasStack M ssp N = KeepsRegions M N × (ssp < 2 ^ 64)

push_fits : (M : List Region) (ssp word : ℕ) → IfOk (shadow.push M ssp word) (λ stack. HasStack M stack.1 stack.0)
unfolding shadow.push
push_fits M ssp word =
    after_ok (shadow.with_word M (minus ssp 8) word) _ (KeepsRegions M) (λ stack. HasStack M stack.1 stack.0) (with_word_keeps M _ word) (λ N k. (k, wrapped _))

pop_fits : (M : List Region) (ssp : ℕ) → HaveBytes M → IfOk (shadow.pop M ssp) (λ top. (top.0 < 2 ^ 64) × (top.1 < 2 ^ 64))
unfolding shadow.pop
pop_fits M ssp bytes = after_ok (shadow.word_at M ssp) _ (λ v. v < 2 ^ 64) (λ top. (top.0 < 2 ^ 64) × (top.1 < 2 ^ 64)) (shadow_word_fits M ssp bytes) (λ word fits. (fits, wrapped _))

either_number : (b : Bool) (e f : Result ℕ ShadowFault) → IfOk e (λ v. v < 2 ^ 64) → IfOk f (λ v. v < 2 ^ 64) → IfOk (if b then e else f) (λ v. v < 2 ^ 64)
either_number true e f h k = h
either_number false e f h k = k

incssp_fits : (M : List Region) (ssp count : ℕ) → ssp < 2 ^ 64 → IfOk (shadow.incssp M ssp count) (λ v. v < 2 ^ 64)
unfolding shadow.incssp
incssp_fits M ssp count fits =
    either_number (count == 0) (Ok ssp) _ fits
    (after_any (shadow.word_at M ssp) _ (λ v. v < 2 ^ 64) (λ first.
    after_any (shadow.word_at M (plus ssp (8 * (count - 1)))) _ (λ v. v < 2 ^ 64) (λ last. wrapped _)))

rstorssp_fits : (M : List Region) (ssp a : ℕ) → a < 2 ^ 64 → IfOk (shadow.rstorssp M ssp a) (λ stack. HasStack M stack.1 stack.0)
unfolding shadow.rstorssp
rstorssp_fits M ssp a fits =
    after_any (demand (a % 8 == 0) Gp) _ _ (λ aligned.
    after_any (shadow.word_at M a) _ _ (λ word.
    after_any (demand (shadow.is_restore_token a word) (Cp4 word)) _ _ (λ token.
    after_ok (shadow.with_word M a (shadow.previous_ssp_token ssp)) _ (KeepsRegions M) (λ stack. HasStack M stack.1 stack.0) (with_word_keeps M a _) (λ N k. (k, fits)))))

saveprevssp_fits : (M : List Region) (ssp : ℕ) (cf : Bool) → IfOk (shadow.saveprevssp M ssp cf) (λ stack. HasStack M stack.1 stack.0)
unfolding shadow.saveprevssp
saveprevssp_fits M ssp cf =
    after_any (shadow.word_at M ssp) _ _ (λ word.
    after_any (demand (not cf) Gp) _ _ (λ clear.
    after_any {B = shadow.ShadowStack} (demand (bit word 1 && not (bit word 2)) Gp) _ (λ stack. HasStack M stack.1 stack.0) (λ token.
    after_ok {B = shadow.ShadowStack} (shadow.with_word M (minus (word - word % 4) 8) (shadow.restore_token (word - word % 4))) _ (KeepsRegions M) (λ stack. HasStack M stack.1 stack.0)
    (with_word_keeps M _ _) (λ N k. (k, wrapped _)))))

pub shadow_pushed_words : (word : ℕ) (m : Machine) → HasWords m → IfOk (shadow_pushed word m) HasWords
shadow_pushed_words word m h =
    after_ok (by_thread (shadow.push m.memory m.regs.ssp word)) _ (λ stack. HasStack m.memory stack.1 stack.0) HasWords
    (by_thread_ok (shadow.push m.memory m.regs.ssp word) (λ stack. HasStack m.memory stack.1 stack.0) (push_fits m.memory m.regs.ssp word))
    (λ stack k. shadow_words stack.0 stack.1 m h (k.0.bytes h.memory) k.1)

shadow_popped_words : (m : Machine) → HasWords m → IfOk (shadow_popped m) HasTop
unfolding HasTop
shadow_popped_words m h =
    after_ok (by_thread (shadow.pop m.memory m.regs.ssp)) _ (λ top. (top.0 < 2 ^ 64) × (top.1 < 2 ^ 64)) HasTop
    (by_thread_ok (shadow.pop m.memory m.regs.ssp) (λ top. (top.0 < 2 ^ 64) × (top.1 < 2 ^ 64)) (pop_fits m.memory m.regs.ssp h.memory))
    (λ top fits. (fits.0, ssp_words top.1 m h fits.1))

rd_ssp_words : (dst : Reg) (mode : Mode) (m : Machine) → HasWords m → IfOk (rd_ssp dst mode m) HasWords
unfolding rd_ssp
rd_ssp_words dst mode m h = either_words mode.shstk (put B8 dst m.regs.ssp m) m (put_words B8 dst m.regs.ssp m h h.ssp) h

inc_ssp_words : (src : Reg) (mode : Mode) (m : Machine) → HasWords m → IfOk (inc_ssp src mode m) HasWords
unfolding inc_ssp
inc_ssp_words src mode m h =
    after_any (demand mode.shstk Undefined) _ HasWords (λ on.
    after_ok (by_thread (shadow.incssp m.memory m.regs.ssp (value m.regs src % 256))) _ (λ v. v < 2 ^ 64) HasWords
    (by_thread_ok (shadow.incssp m.memory m.regs.ssp (value m.regs src % 256)) (λ v. v < 2 ^ 64) (incssp_fits m.memory m.regs.ssp (value m.regs src % 256) h.ssp))
    (λ ssp fits. ssp_words ssp m h fits))

rstor_ssp_words : (mem : Mem) (mode : Mode) (m : Machine) → HasWords m → IfOk (rstor_ssp mem mode m) HasWords
unfolding rstor_ssp
rstor_ssp_words mem mode m h =
    let a = address m.regs mem in
    after_any (demand mode.shstk Undefined) _ HasWords (λ on.
    after_ok (by_thread (shadow.rstorssp m.memory m.regs.ssp a)) _ (λ stack. HasStack m.memory stack.1 stack.0) HasWords
    (by_thread_ok (shadow.rstorssp m.memory m.regs.ssp a) (λ stack. HasStack m.memory stack.1 stack.0) (rstorssp_fits m.memory m.regs.ssp a (wrapped _)))
    (λ stack k. flags_words _ (with_shadow stack.0 stack.1 m) (shadow_words stack.0 stack.1 m h (k.0.bytes h.memory) k.1)))

save_prev_ssp_words : (mode : Mode) (m : Machine) → HasWords m → IfOk (save_prev_ssp mode m) HasWords
unfolding save_prev_ssp
save_prev_ssp_words mode m h =
    after_any (demand mode.shstk Undefined) _ HasWords (λ on.
    after_ok (by_thread (shadow.saveprevssp m.memory m.regs.ssp m.regs.flags.cf)) _ (λ stack. HasStack m.memory stack.1 stack.0) HasWords
    (by_thread_ok (shadow.saveprevssp m.memory m.regs.ssp m.regs.flags.cf) (λ stack. HasStack m.memory stack.1 stack.0) (saveprevssp_fits m.memory m.regs.ssp m.regs.flags.cf))
    (λ stack k. shadow_words stack.0 stack.1 m h (k.0.bytes h.memory) k.1))

wr_ss_words : (mem : Mem) (src : Reg) (m : Machine) → HasWords m → IfOk (wr_ss mem src m) HasWords
unfolding wr_ss
wr_ss_words mem src m h = tt

-- ---- control transfers

branch_words : (rel : ℤ) (m : Machine) → HasWords m → HasWords (branch rel m)
branch_words rel m h = going_words _ m h (wrapped _)

endbr64_words : (m : Machine) → HasWords m → IfOk (endbr64 m) HasWords
unfolding endbr64
endbr64_words m h = tracker_words false m h

jmp_words : (rel : Rel) (m : Machine) → HasWords m → IfOk (jmp rel m) HasWords
unfolding jmp
jmp_words rel m h = branch_words (displacement rel) m h

jcc_words : (c : Cond) (rel : Rel) (m : Machine) → HasWords m → IfOk (jcc c rel m) HasWords
unfolding jcc
jcc_words c rel m h = either_words (holds c m.regs.flags) (branch (displacement rel) m) m (branch_words (displacement rel) m h) h

jmp_ind_words : (target : Rm) (notrack : Bool) (mode : Mode) (m : Machine) → HasWords m → IfOk (jmp_ind target notrack mode m) HasWords
unfolding jmp_ind
jmp_ind_words target notrack mode m h =
    after_ok (read B8 target m) _ (λ v. v < 2 ^ 64) HasWords (read_words B8 target m h) (λ a fits. tracker_words _ (going_to a m) (going_words a m h fits))

called_words : (mode : Mode) (m : Machine) → HasWords m → IfOk (called mode m) HasWords
called_words mode m h =
    after_ok (pushed m.regs.rip m) _ HasWords HasWords (pushed_words m.regs.rip m h)
    (λ n k. either_effect_words mode.shstk _ _ (shadow_pushed_words m.regs.rip n k) k)

call_words : (rel : ℤ) (mode : Mode) (m : Machine) → HasWords m → IfOk (call rel mode m) HasWords
unfolding call
call_words rel mode m h =
    after_ok (if is_zero rel then pushed m.regs.rip m else called mode m) _ HasWords HasWords
    (either_effect_words (is_zero rel) _ _ (pushed_words m.regs.rip m h) (called_words mode m h)) (λ n k. branch_words rel n k)

call_ind_words : (target : Rm) (notrack : Bool) (mode : Mode) (m : Machine) → HasWords m → IfOk (call_ind target notrack mode m) HasWords
unfolding call_ind
call_ind_words target notrack mode m h =
    after_ok (read B8 target m) _ (λ v. v < 2 ^ 64) HasWords (read_words B8 target m h) (λ a fits.
    after_ok (called mode m) _ HasWords HasWords (called_words mode m h) (λ n k. tracker_words _ (going_to a n) (going_words a n k fits)))

checked_words : (mode : Mode) (a : ℕ) (m : Machine) → HasWords m → IfOk (checked mode a m) HasWords
unfolding HasTop
checked_words mode a m h =
    either_effect_words mode.shstk _ _
    (after_ok (shadow_popped m) _ HasTop HasWords (shadow_popped_words m h) (λ top k. after_any (demand (a == top.0) (NearRet a top.0)) _ HasWords (λ same. k.1))) h

ret_words : (mode : Mode) (m : Machine) → HasWords m → IfOk (ret mode m) HasWords
unfolding ret HasTop
ret_words mode m h =
    after_ok (popped m) _ HasTop HasWords (popped_words m h) (λ top k.
    after_ok (checked mode top.0 top.1) _ HasWords HasWords (checked_words mode top.0 top.1 k.1) (λ n l. going_words top.0 n l k.0))

-- ---- system

nop_words : (m : Machine) → HasWords m → IfOk (nop m) HasWords
unfolding nop
nop_words m h = h

bool_below : (b : Bool) → from_bool b ≤ 1
bool_below true = lit≤ tt
bool_below false = lit≤ tt

flags_word_fits : (f : Flags) → flags_word f < 2 ^ 64
flags_word_fits f =
    let c = bool_below f.cf in
    let z = bool_below f.zf in
    let s = bool_below f.sf in
    let o = bool_below f.of in
    omega (arith, c, z, s, o)

syscall_words : (m : Machine) → HasWords m → IfOk (syscall m) HasWords
unfolding syscall
syscall_words m h = put_words B8 R11 _ (put B8 Rcx m.regs.rip m) (put_words B8 Rcx m.regs.rip m h h.rip) (flags_word_fits m.regs.flags)

ud2_words : (m : Machine) → HasWords m → IfOk (ud2 m) HasWords
unfolding ud2
ud2_words m h = tt

hlt_words : (m : Machine) → HasWords m → IfOk (hlt m) HasWords
unfolding hlt
hlt_words m h = tt

-- ---- a step

EndWords : List Region → StepEnd → Type 0
EndWords M (Next n) = HasWords n
EndWords M (Syscall R) = HasWords (record { memory = M; regs = R })
EndWords M (Faulted fault) = Unit {0}

abbrev next_end : Effect → StepEnd
next_end (Ok n) = Next n
next_end (Err fault) = Faulted fault

abbrev at_next : ℕ → Machine → Machine
at_next n m = going_to (plus m.regs.rip n) m

next_words : (M : List Region) (e : Effect) → IfOk e HasWords → EndWords M (next_end e)
unfolding EndWords
next_words M (Ok n) h = h
next_words M (Err fault) h = tt

executed_words : (i : Insn) (n : ℕ) (mode : Mode) (free : ℕ) (m : Machine) → HasWords (at_next n m) → EndWords m.memory (executed i n mode free m)
unfolding syscall EndWords
executed_words EndBr64 n mode free m h = next_words m.memory _ (endbr64_words (at_next n m) h)
executed_words Nop n mode free m h = next_words m.memory _ (nop_words (at_next n m) h)
executed_words (Mov w dst src) n mode free m h = next_words m.memory _ (mov_words w dst src (at_next n m) h)
executed_words (MovLoad w dst src) n mode free m h = next_words m.memory _ (mov_load_words w dst src (at_next n m) h)
executed_words (MovImm w dst imm) n mode free m h = next_words m.memory _ (mov_imm_words w dst imm (at_next n m) h)
executed_words (MovAbs w dst imm) n mode free m h = next_words m.memory _ (mov_abs_words w dst imm (at_next n m) h)
executed_words (MovZx w dst src) n mode free m h = next_words m.memory _ (mov_zx_words w dst src (at_next n m) h)
executed_words (MovSx w dst src) n mode free m h = next_words m.memory _ (mov_sx_words w dst src (at_next n m) h)
executed_words (MovSxd dst src) n mode free m h = next_words m.memory _ (mov_sxd_words dst src (at_next n m) h)
executed_words (Lea w dst mem) n mode free m h = next_words m.memory _ (lea_words w dst mem (at_next n m) h)
executed_words (Alu op w dst src) n mode free m h = next_words m.memory _ (alu_words op w dst src (at_next n m) h)
executed_words (AluLoad op w dst src) n mode free m h = next_words m.memory _ (alu_load_words op w dst src (at_next n m) h)
executed_words (AluImm op w dst imm) n mode free m h = next_words m.memory _ (alu_imm_words op w dst imm (at_next n m) h)
executed_words (Test w dst src) n mode free m h = next_words m.memory _ (test_words w dst src (at_next n m) h)
executed_words (TestImm w dst imm) n mode free m h = next_words m.memory _ (test_imm_words w dst imm (at_next n m) h)
executed_words (Unary op w dst) n mode free m h = next_words m.memory _ (unary_words op w dst (at_next n m) h)
executed_words (Shift op w dst count) n mode free m h = next_words m.memory _ (shift_words op w dst count free (at_next n m) h)
executed_words (IMul2 w dst src) n mode free m h = next_words m.memory _ (imul2_words w dst src free (at_next n m) h)
executed_words (IMul3 w dst src imm) n mode free m h = next_words m.memory _ (imul3_words w dst src imm free (at_next n m) h)
executed_words (MulDiv op w src) n mode free m h = next_words m.memory _ (mul_div_words op w src free (at_next n m) h)
executed_words (Cdq w) n mode free m h = next_words m.memory _ (cdq_words w (at_next n m) h)
executed_words (Cdqe w) n mode free m h = next_words m.memory _ (cdqe_words w (at_next n m) h)
executed_words (Push src) n mode free m h = next_words m.memory _ (push_words src (at_next n m) h)
executed_words (Pop dst) n mode free m h = next_words m.memory _ (pop_words dst (at_next n m) h)
executed_words (PushImm imm) n mode free m h = next_words m.memory _ (push_imm_words imm (at_next n m) h)
executed_words (PushMem mem) n mode free m h = next_words m.memory _ (push_mem_words mem (at_next n m) h)
executed_words (Call rel) n mode free m h = next_words m.memory _ (call_words rel mode (at_next n m) h)
executed_words (CallInd target notrack) n mode free m h = next_words m.memory _ (call_ind_words target notrack mode (at_next n m) h)
executed_words (JmpInd target notrack) n mode free m h = next_words m.memory _ (jmp_ind_words target notrack mode (at_next n m) h)
executed_words (Jmp rel) n mode free m h = next_words m.memory _ (jmp_words rel (at_next n m) h)
executed_words (Jcc c rel) n mode free m h = next_words m.memory _ (jcc_words c rel (at_next n m) h)
executed_words (SetCc c dst) n mode free m h = next_words m.memory _ (set_cc_words c dst (at_next n m) h)
executed_words (CMov c w dst src) n mode free m h = next_words m.memory _ (cmov_words c w dst src (at_next n m) h)
executed_words Ret n mode free m h = next_words m.memory _ (ret_words mode (at_next n m) h)
executed_words Leave n mode free m h = next_words m.memory _ (leave_words (at_next n m) h)
executed_words (Xchg w dst src) n mode free m h = next_words m.memory _ (xchg_words w dst src (at_next n m) h)
executed_words (CmpXchg w dst src lock) n mode free m h = next_words m.memory _ (cmp_xchg_words w dst src (at_next n m) h)
executed_words (XAdd w dst src lock) n mode free m h = next_words m.memory _ (xadd_words w dst src (at_next n m) h)
executed_words (RdSsp dst) n mode free m h = next_words m.memory _ (rd_ssp_words dst mode (at_next n m) h)
executed_words (IncSsp src) n mode free m h = next_words m.memory _ (inc_ssp_words src mode (at_next n m) h)
executed_words (RstorSsp mem) n mode free m h = next_words m.memory _ (rstor_ssp_words mem mode (at_next n m) h)
executed_words SavePrevSsp n mode free m h = next_words m.memory _ (save_prev_ssp_words mode (at_next n m) h)
executed_words (WrSs mem src) n mode free m h = next_words m.memory _ (wr_ss_words mem src (at_next n m) h)
executed_words insn.Syscall n mode free m h = syscall_words (at_next n m) h
executed_words Ud2 n mode free m h = next_words m.memory _ (ud2_words (at_next n m) h)
executed_words Hlt n mode free m h = next_words m.memory _ (hlt_words (at_next n m) h)

executed_if_form_words : (x : Decoding) (fetched : ℕ) (mode : Mode) (free : ℕ) (m : Machine) → HasWords m → EndWords m.memory (executed_if_form x fetched mode free m)
unfolding EndWords
executed_if_form_words (Ok x) fetched mode free m h = executed_words x.0 x.1 mode free m (going_words _ m h (wrapped _))
executed_if_form_words (Err Short) fetched mode free m h = tt
executed_if_form_words (Err Outside) fetched mode free m h = tt

either_end : (b : Bool) (M : List Region) (x y : StepEnd) → EndWords M x → EndWords M y → EndWords M (if b then x else y)
either_end true M x y h k = h
either_end false M x y h k = k

end_words : (mode : Mode) (free : ℕ) (m : Machine) → HasWords m → EndWords m.memory (step mode free m)
unfolding step EndWords
end_words mode free m h =
    let code = fetched m.memory m.regs.rip in
    either_end (length code == 0) m.memory _ _ tt (either_end (m.regs.waiting && not (starts_with nat_eq code endbr64_bytes)) m.memory _ _ tt
    (executed_if_form_words (decoded code) (length code) mode free m h))

pub step_keeps_words : StepKeepsWords
unfolding EndWords
step_keeps_words mode free m n h e = subst (EndWords m.memory) e (end_words mode free m h)

pub syscall_keeps_words : SyscallKeepsWords
unfolding EndWords
syscall_keeps_words mode free m R h e = subst (EndWords m.memory) e (end_words mode free m h)
