-- What the instructions of the two stacks keep, and the whole of a step and of a signal's delivery.
use Rattle.std.proofs.Common.{ℕ, ◌-◌, ◌%◌, Bool, not, ◌&&◌, ◌==◌, List, ℤ, Result, Ok, Err, IfOk, refl, if◌then◌else◌}
use Rattle.cet_isa.specs.declared.register.Reg.{Reg}
use Rattle.cet_isa.specs.declared.register.Reg.TheVariants.{Rcx, Rsp, Rbp, R11}
use Rattle.cet_isa.specs.declared.operand.Width.TheVariants.{B8}
use Rattle.cet_isa.specs.declared.operand.Mem.{Mem}
use Rattle.cet_isa.specs.declared.operand.Rm.{Rm}
use Rattle.cet_isa.specs.declared.operand.Rel.{Rel}
use Rattle.cet_isa.specs.declared.operation.Cond.{Cond}
use Rattle.cet_isa.specs.declared.registers.Mode.{Mode}
use Rattle.cet_isa.specs.declared.fault.Fault.TheVariants.{NearRet, Undefined}
use Rattle.cet_isa.specs.Canonical.{is_zero}
use Rattle.cet_machine.specs.declared.memory.Region.{Region}
use Rattle.cet_machine.specs.declared.shadow_fault.ShadowFault.{ShadowFault}
use Rattle.cet_machine.specs.declared.shadow_fault.ShadowFault.TheVariants.{Pf, Gp, Cp4}
use Rattle.cet_machine.specs.Arithmetic.{bit, holds}
use Rattle.cet_machine.specs.Memory.{shadow_store, low_bytes}
use Rattle.cet_machine.specs.Machine.{Machine, demand, minus}
use Rattle.cet_machine.specs.MachineLaws.{KeepsRegions, Follows}
use Rattle.cet_machine.specs.Operand.{value, address, load_at, store_at, read, put}
use Rattle.cet_machine.specs.Shadow as shadow
use Rattle.cet_machine.specs.ShadowEffect.{by_thread, shadow_pushed, shadow_popped}
use Rattle.cet_machine.specs.StackInstructions.{pushed, popped, push, push_imm, push_mem, pop, leave}
use Rattle.cet_machine.specs.ControlInstructions.{called, checked, endbr64, jmp, jcc, jmp_ind, call, call_ind, ret}
use Rattle.cet_machine.specs.CetInstructions.{rd_ssp, inc_ssp, rstor_ssp, save_prev_ssp, wr_ss}
use Rattle.cet_machine.specs.SystemInstructions.{nop, syscall, ud2, hlt}
use Rattle.cet_machine.proofs.MemoryBytes.{IsByteList-low_bytes}
use Rattle.cet_machine.proofs.Keeps.{follows_refl, follows_trans, put_follows, then_put, store_follows, shadow_keeps, after_any, after_ok, ok_or_some}
use Rattle.cet_machine.proofs.Effects.{either_follows, either_effect}

-- ---- the data stack

pub pushed_follows : (word : ℕ) (m : Machine) → IfOk (pushed word m) (Follows m)
pushed_follows word m =
    after_ok (store_at B8 (minus (value m.regs Rsp) 8) word m) _ (Follows m) (Follows m) (store_follows B8 _ word m) (λ n h. then_put m n B8 Rsp _ h)

pub popped_follows : (m : Machine) → IfOk (popped m) (λ top. Follows m top.1)
popped_follows m = after_any (load_at B8 (value m.regs Rsp) m) _ (λ top. Follows m top.1) (λ word. put_follows B8 Rsp _ m)

pub push_follows : (src : Reg) (m : Machine) → IfOk (push src m) (Follows m)
unfolding push
push_follows src m = pushed_follows (value m.regs src) m

pub push_imm_follows : (imm : ℤ) (m : Machine) → IfOk (push_imm imm m) (Follows m)
unfolding push_imm
push_imm_follows imm m = pushed_follows _ m

pub push_mem_follows : (mem : Mem) (m : Machine) → IfOk (push_mem mem m) (Follows m)
unfolding push_mem
push_mem_follows mem m = after_any (load_at B8 (address m.regs mem) m) _ (Follows m) (λ word. pushed_follows word m)

pub pop_follows : (dst : Reg) (m : Machine) → IfOk (pop dst m) (Follows m)
unfolding pop
pop_follows dst m = after_ok (popped m) _ (λ top. Follows m top.1) (Follows m) (popped_follows m) (λ top h. then_put m top.1 B8 dst top.0 h)

pub ok_weaker : {A E : Type 0} (e : Result A E) (P Q : A → Type 0) → ((x : A) → P x → Q x) → IfOk e P → IfOk e Q
ok_weaker (Ok x) P Q f h = f x h
ok_weaker (Err e) P Q f h = tt

pub leave_follows : (m : Machine) → IfOk (leave m) (Follows m)
unfolding leave
leave_follows m =
    let lowered = put B8 Rsp (value m.regs Rbp) m in
    ok_weaker (pop Rbp lowered) (Follows lowered) (Follows m) (λ n h. follows_trans m lowered n (put_follows B8 Rsp (value m.regs Rbp) m) h) (pop_follows Rbp lowered)

-- ---- the shadow stack

pub by_thread_ok : {A : Type 0} (e : Result A ShadowFault) (P : A → Type 0) → IfOk e P → IfOk (by_thread e) P
by_thread_ok (Ok x) P h = h
by_thread_ok (Err e) P h = tt

pub with_word_keeps : (M : List Region) (a word : ℕ) → IfOk (shadow.with_word M a word) (KeepsRegions M)
with_word_keeps M a word =
    ok_or_some (shadow_store M a word) (Pf a) (KeepsRegions M) (λ N e. shadow_keeps M N a (low_bytes 8 word) (IsByteList-low_bytes 8 word) e)

pub push_keeps : (M : List Region) (ssp word : ℕ) → IfOk (shadow.push M ssp word) (λ stack. KeepsRegions M stack.0)
unfolding shadow.push
push_keeps M ssp word = after_ok (shadow.with_word M (minus ssp 8) word) _ (KeepsRegions M) (λ stack. KeepsRegions M stack.0) (with_word_keeps M _ word) (λ N k. k)

pub rstorssp_keeps : (M : List Region) (ssp a : ℕ) → IfOk (shadow.rstorssp M ssp a) (λ stack. KeepsRegions M stack.0)
unfolding shadow.rstorssp
rstorssp_keeps M ssp a =
    after_any (demand (a % 8 == 0) Gp) _ _ (λ aligned.
    after_any (shadow.word_at M a) _ _ (λ word.
    after_any (demand (shadow.is_restore_token a word) (Cp4 word)) _ _ (λ token.
    after_ok (shadow.with_word M a (shadow.previous_ssp_token ssp)) _ (KeepsRegions M) _ (with_word_keeps M a _) (λ N k. k))))

pub saveprevssp_keeps : (M : List Region) (ssp : ℕ) (cf : Bool) → IfOk (shadow.saveprevssp M ssp cf) (λ stack. KeepsRegions M stack.0)
unfolding shadow.saveprevssp
saveprevssp_keeps M ssp cf =
    after_any (shadow.word_at M ssp) _ _ (λ word.
    after_any (demand (not cf) Gp) _ _ (λ clear.
    after_any {B = shadow.ShadowStack} (demand (bit word 1 && not (bit word 2)) Gp) _ (λ stack. KeepsRegions M stack.0) (λ token.
    after_ok {B = shadow.ShadowStack} (shadow.with_word M (minus (word - word % 4) 8) (shadow.restore_token (word - word % 4))) _ (KeepsRegions M) (λ stack. KeepsRegions M stack.0)
    (with_word_keeps M _ _) (λ N k. k))))

pub shadow_pushed_follows : (word : ℕ) (m : Machine) → IfOk (shadow_pushed word m) (Follows m)
shadow_pushed_follows word m =
    after_ok (by_thread (shadow.push m.memory m.regs.ssp word)) _ (λ stack. KeepsRegions m.memory stack.0) (Follows m)
    (by_thread_ok (shadow.push m.memory m.regs.ssp word) (λ stack. KeepsRegions m.memory stack.0) (push_keeps m.memory m.regs.ssp word)) (λ stack k. (k, refl))

shadow_popped_follows : (m : Machine) → IfOk (shadow_popped m) (λ top. Follows m top.1)
shadow_popped_follows m = after_any (by_thread (shadow.pop m.memory m.regs.ssp)) _ (λ top. Follows m top.1) (λ top. follows_refl m)

pub rd_ssp_follows : (dst : Reg) (mode : Mode) (m : Machine) → IfOk (rd_ssp dst mode m) (Follows m)
unfolding rd_ssp
rd_ssp_follows dst mode m = either_follows mode.shstk m _ m (put_follows B8 dst m.regs.ssp m) (follows_refl m)

pub inc_ssp_follows : (src : Reg) (mode : Mode) (m : Machine) → IfOk (inc_ssp src mode m) (Follows m)
unfolding inc_ssp
inc_ssp_follows src mode m =
    after_any (demand mode.shstk Undefined) _ (Follows m) (λ on.
    after_any (by_thread (shadow.incssp m.memory m.regs.ssp (value m.regs src % 256))) _ (Follows m) (λ ssp. follows_refl m))

pub rstor_ssp_follows : (mem : Mem) (mode : Mode) (m : Machine) → IfOk (rstor_ssp mem mode m) (Follows m)
unfolding rstor_ssp
rstor_ssp_follows mem mode m =
    after_any (demand mode.shstk Undefined) _ (Follows m) (λ on.
    after_ok (by_thread (shadow.rstorssp m.memory m.regs.ssp (address m.regs mem))) _ (λ stack. KeepsRegions m.memory stack.0) (Follows m)
    (by_thread_ok (shadow.rstorssp m.memory m.regs.ssp (address m.regs mem)) (λ stack. KeepsRegions m.memory stack.0) (rstorssp_keeps m.memory m.regs.ssp (address m.regs mem))) (λ stack k. (k, refl)))

pub save_prev_ssp_follows : (mode : Mode) (m : Machine) → IfOk (save_prev_ssp mode m) (Follows m)
unfolding save_prev_ssp
save_prev_ssp_follows mode m =
    after_any (demand mode.shstk Undefined) _ (Follows m) (λ on.
    after_ok (by_thread (shadow.saveprevssp m.memory m.regs.ssp m.regs.flags.cf)) _ (λ stack. KeepsRegions m.memory stack.0) (Follows m)
    (by_thread_ok (shadow.saveprevssp m.memory m.regs.ssp m.regs.flags.cf) (λ stack. KeepsRegions m.memory stack.0) (saveprevssp_keeps m.memory m.regs.ssp m.regs.flags.cf)) (λ stack k. (k, refl)))

pub wr_ss_follows : (mem : Mem) (src : Reg) (m : Machine) → IfOk (wr_ss mem src m) (Follows m)
unfolding wr_ss
wr_ss_follows mem src m = tt

-- ---- control transfers

pub endbr64_follows : (m : Machine) → IfOk (endbr64 m) (Follows m)
unfolding endbr64
endbr64_follows m = follows_refl m

pub jmp_follows : (rel : Rel) (m : Machine) → IfOk (jmp rel m) (Follows m)
unfolding jmp
jmp_follows rel m = follows_refl m

pub jcc_follows : (c : Cond) (rel : Rel) (m : Machine) → IfOk (jcc c rel m) (Follows m)
unfolding jcc
jcc_follows c rel m = either_follows (holds c m.regs.flags) m _ m (follows_refl m) (follows_refl m)

pub jmp_ind_follows : (target : Rm) (notrack : Bool) (mode : Mode) (m : Machine) → IfOk (jmp_ind target notrack mode m) (Follows m)
unfolding jmp_ind
jmp_ind_follows target notrack mode m = after_any (read B8 target m) _ (Follows m) (λ a. follows_refl m)

called_follows : (mode : Mode) (m : Machine) → IfOk (called mode m) (Follows m)
called_follows mode m =
    after_ok (pushed m.regs.rip m) _ (Follows m) (Follows m) (pushed_follows m.regs.rip m)
    (λ n h. either_effect mode.shstk m _ _
    (ok_weaker (shadow_pushed m.regs.rip n) (Follows n) (Follows m) (λ l k. follows_trans m n l h k) (shadow_pushed_follows m.regs.rip n)) h)

pub call_follows : (rel : ℤ) (mode : Mode) (m : Machine) → IfOk (call rel mode m) (Follows m)
unfolding call
call_follows rel mode m =
    after_ok (if is_zero rel then pushed m.regs.rip m else called mode m) _ (Follows m) (Follows m)
    (either_effect (is_zero rel) m _ _ (pushed_follows m.regs.rip m) (called_follows mode m)) (λ n h. h)

pub call_ind_follows : (target : Rm) (notrack : Bool) (mode : Mode) (m : Machine) → IfOk (call_ind target notrack mode m) (Follows m)
unfolding call_ind
call_ind_follows target notrack mode m =
    after_any (read B8 target m) _ (Follows m) (λ a. after_ok (called mode m) _ (Follows m) (Follows m) (called_follows mode m) (λ n h. h))

checked_follows : (mode : Mode) (a : ℕ) (m : Machine) → IfOk (checked mode a m) (Follows m)
checked_follows mode a m =
    either_effect mode.shstk m _ _
    (after_ok (shadow_popped m) _ (λ top. Follows m top.1) (Follows m) (shadow_popped_follows m)
    (λ top h. after_any (demand (a == top.0) (NearRet a top.0)) _ (Follows m) (λ same. h)))
    (follows_refl m)

pub ret_follows : (mode : Mode) (m : Machine) → IfOk (ret mode m) (Follows m)
unfolding ret
ret_follows mode m =
    after_ok (popped m) _ (λ top. Follows m top.1) (Follows m) (popped_follows m) (λ top h.
    after_ok (checked mode top.0 top.1) _ (Follows top.1) (Follows m) (checked_follows mode top.0 top.1) (λ n k. follows_trans m top.1 n h k))

-- ---- system

pub nop_follows : (m : Machine) → IfOk (nop m) (Follows m)
unfolding nop
nop_follows m = follows_refl m

pub syscall_follows : (m : Machine) → IfOk (syscall m) (Follows m)
unfolding syscall
syscall_follows m = then_put m (put B8 Rcx m.regs.rip m) B8 R11 _ (put_follows B8 Rcx m.regs.rip m)

pub ud2_follows : (m : Machine) → IfOk (ud2 m) (Follows m)
unfolding ud2
ud2_follows m = tt

pub hlt_follows : (m : Machine) → IfOk (hlt m) (Follows m)
unfolding hlt
hlt_follows m = tt
