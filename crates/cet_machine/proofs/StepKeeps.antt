-- What a step and the delivery of a signal keep.
use Rattle.std.proofs.Common.{◌≡◌, ℕ, Bool, true, false, not, ◌&&◌, ◌==◌, List, [], ◌∷◌, length, nat_eq, Ok, Err, IfOk, ok_or, refl, subst, ◌∙◌, if◌then◌else◌}
use Rattle.std.specs.List.{starts_with}
use Rattle.std.proofs.lemmas.List.{length-set}
use Rattle.cet_isa.specs.declared.instruction.Insn.{Insn}
use Rattle.cet_isa.specs.declared.instruction.Insn.TheVariants as insn
use Rattle.cet_isa.specs.declared.instruction.Insn.TheVariants.{EndBr64, Nop, Mov, MovLoad, MovImm, MovAbs, MovZx, MovSx, MovSxd, Lea, Alu, AluLoad, AluImm, Test, TestImm, Unary, Shift, IMul2, IMul3, MulDiv, Cdq, Cdqe, Push, Pop, PushImm, PushMem, Call, CallInd, JmpInd, Jmp, Jcc, SetCc, CMov, Ret, Leave, Xchg, CmpXchg, XAdd, RdSsp, IncSsp, RstorSsp, SavePrevSsp, WrSs, Ud2, Hlt}
use Rattle.cet_isa.specs.declared.register.Reg.TheVariants.{Rax, Rdx, Rsp, Rsi, Rdi}
use Rattle.cet_isa.specs.declared.decode_error.DecodeError.TheVariants.{Short, Outside}
use Rattle.cet_isa.specs.declared.fault.Fault.TheVariants.{Page}
use Rattle.cet_isa.specs.declared.registers.Mode.{Mode}
use Rattle.cet_isa.specs.declared.registers.Regs.{Regs}
use Rattle.cet_isa.specs.Canonical.{number}
use Rattle.cet_isa.specs.Decoded.{Decoding, decoded}
use Rattle.cet_machine.specs.declared.action.Action.{Action}
use Rattle.cet_machine.specs.Memory.{is_write, stored, low_bytes, fetched}
use Rattle.cet_machine.specs.MemoryLaws.{IsByteList}
use Rattle.cet_machine.specs.Machine.{Machine, Effect, plus, going_to}
use Rattle.cet_machine.specs.MachineLaws.{KeepsRegions, Follows, after_syscall, StepKeeps, SyscallKeeps, DeliverKeeps}
use Rattle.cet_machine.specs.Operand.{value, with_value}
use Rattle.cet_machine.specs.SystemInstructions.{syscall}
use Rattle.cet_machine.specs.ShadowEffect.{shadow_pushed}
use Rattle.cet_machine.specs.Step.{StepEnd, Next, Syscall, Faulted, executed, executed_if_form, step_over, endbr64_bytes, step}
use Rattle.cet_machine.specs.Signal.{frame_address, frame, bytes_of_words, marked, shadow_frame, at_handler, deliver}
use Rattle.cet_machine.proofs.MemoryBytes.{IsByteList-append, IsByteList-low_bytes}
use Rattle.cet_machine.proofs.Keeps.{follows_refl, follows_trans, write_keeps, after_ok, ok_or_some}
use Rattle.cet_machine.proofs.Effects.{either_effect, mov_follows, mov_load_follows, mov_imm_follows, mov_abs_follows, mov_zx_follows, mov_sx_follows, mov_sxd_follows, lea_follows, cdq_follows, cdqe_follows, set_cc_follows, cmov_follows, xchg_follows, cmp_xchg_follows, xadd_follows, alu_follows, alu_load_follows, alu_imm_follows, test_follows, test_imm_follows, unary_follows, shift_follows, imul2_follows, imul3_follows, mul_div_follows}
use Rattle.cet_machine.proofs.Transfers.{ok_weaker, push_follows, push_imm_follows, push_mem_follows, pop_follows, leave_follows, shadow_pushed_follows, rd_ssp_follows, inc_ssp_follows, rstor_ssp_follows, save_prev_ssp_follows, wr_ss_follows, endbr64_follows, jmp_follows, jcc_follows, jmp_ind_follows, call_follows, call_ind_follows, ret_follows, nop_follows, ud2_follows, hlt_follows}

-- ---- a step

-- what the end of a step from m keeps
abbrev EndKeeps : Machine → StepEnd → Type 0
EndKeeps m (Next n) = Follows m n
EndKeeps m (Syscall R) = (next : ℕ) × (R ≡ after_syscall next m.regs)
EndKeeps m (Faulted fault) = Unit {0}

abbrev next_end : Effect → StepEnd
next_end (Ok n) = Next n
next_end (Err fault) = Faulted fault

-- m at the address after the instruction
abbrev at_next : ℕ → Machine → Machine
at_next n m = going_to (plus m.regs.rip n) m

next_keeps : (m : Machine) (e : Effect) → IfOk e (Follows m) → EndKeeps m (next_end e)
next_keeps m (Ok n) h = h
next_keeps m (Err fault) h = tt

executed_keeps : (i : Insn) (n : ℕ) (mode : Mode) (free : ℕ) (m : Machine) → EndKeeps m (executed i n mode free m)
unfolding syscall
executed_keeps EndBr64 n mode free m = next_keeps m _ (endbr64_follows (at_next n m))
executed_keeps Nop n mode free m = next_keeps m _ (nop_follows (at_next n m))
executed_keeps (Mov w dst src) n mode free m = next_keeps m _ (mov_follows w dst src (at_next n m))
executed_keeps (MovLoad w dst src) n mode free m = next_keeps m _ (mov_load_follows w dst src (at_next n m))
executed_keeps (MovImm w dst imm) n mode free m = next_keeps m _ (mov_imm_follows w dst imm (at_next n m))
executed_keeps (MovAbs w dst imm) n mode free m = next_keeps m _ (mov_abs_follows w dst imm (at_next n m))
executed_keeps (MovZx w dst src) n mode free m = next_keeps m _ (mov_zx_follows w dst src (at_next n m))
executed_keeps (MovSx w dst src) n mode free m = next_keeps m _ (mov_sx_follows w dst src (at_next n m))
executed_keeps (MovSxd dst src) n mode free m = next_keeps m _ (mov_sxd_follows dst src (at_next n m))
executed_keeps (Lea w dst mem) n mode free m = next_keeps m _ (lea_follows w dst mem (at_next n m))
executed_keeps (Alu op w dst src) n mode free m = next_keeps m _ (alu_follows op w dst src (at_next n m))
executed_keeps (AluLoad op w dst src) n mode free m = next_keeps m _ (alu_load_follows op w dst src (at_next n m))
executed_keeps (AluImm op w dst imm) n mode free m = next_keeps m _ (alu_imm_follows op w dst imm (at_next n m))
executed_keeps (Test w dst src) n mode free m = next_keeps m _ (test_follows w dst src (at_next n m))
executed_keeps (TestImm w dst imm) n mode free m = next_keeps m _ (test_imm_follows w dst imm (at_next n m))
executed_keeps (Unary op w dst) n mode free m = next_keeps m _ (unary_follows op w dst (at_next n m))
executed_keeps (Shift op w dst count) n mode free m = next_keeps m _ (shift_follows op w dst count free (at_next n m))
executed_keeps (IMul2 w dst src) n mode free m = next_keeps m _ (imul2_follows w dst src free (at_next n m))
executed_keeps (IMul3 w dst src imm) n mode free m = next_keeps m _ (imul3_follows w dst src imm free (at_next n m))
executed_keeps (MulDiv op w src) n mode free m = next_keeps m _ (mul_div_follows op w src free (at_next n m))
executed_keeps (Cdq w) n mode free m = next_keeps m _ (cdq_follows w (at_next n m))
executed_keeps (Cdqe w) n mode free m = next_keeps m _ (cdqe_follows w (at_next n m))
executed_keeps (Push src) n mode free m = next_keeps m _ (push_follows src (at_next n m))
executed_keeps (Pop dst) n mode free m = next_keeps m _ (pop_follows dst (at_next n m))
executed_keeps (PushImm imm) n mode free m = next_keeps m _ (push_imm_follows imm (at_next n m))
executed_keeps (PushMem mem) n mode free m = next_keeps m _ (push_mem_follows mem (at_next n m))
executed_keeps (Call rel) n mode free m = next_keeps m _ (call_follows rel mode (at_next n m))
executed_keeps (CallInd target notrack) n mode free m = next_keeps m _ (call_ind_follows target notrack mode (at_next n m))
executed_keeps (JmpInd target notrack) n mode free m = next_keeps m _ (jmp_ind_follows target notrack mode (at_next n m))
executed_keeps (Jmp rel) n mode free m = next_keeps m _ (jmp_follows rel (at_next n m))
executed_keeps (Jcc c rel) n mode free m = next_keeps m _ (jcc_follows c rel (at_next n m))
executed_keeps (SetCc c dst) n mode free m = next_keeps m _ (set_cc_follows c dst (at_next n m))
executed_keeps (CMov c w dst src) n mode free m = next_keeps m _ (cmov_follows c w dst src (at_next n m))
executed_keeps Ret n mode free m = next_keeps m _ (ret_follows mode (at_next n m))
executed_keeps Leave n mode free m = next_keeps m _ (leave_follows (at_next n m))
executed_keeps (Xchg w dst src) n mode free m = next_keeps m _ (xchg_follows w dst src (at_next n m))
executed_keeps (CmpXchg w dst src lock) n mode free m = next_keeps m _ (cmp_xchg_follows w dst src (at_next n m))
executed_keeps (XAdd w dst src lock) n mode free m = next_keeps m _ (xadd_follows w dst src (at_next n m))
executed_keeps (RdSsp dst) n mode free m = next_keeps m _ (rd_ssp_follows dst mode (at_next n m))
executed_keeps (IncSsp src) n mode free m = next_keeps m _ (inc_ssp_follows src mode (at_next n m))
executed_keeps (RstorSsp mem) n mode free m = next_keeps m _ (rstor_ssp_follows mem mode (at_next n m))
executed_keeps SavePrevSsp n mode free m = next_keeps m _ (save_prev_ssp_follows mode (at_next n m))
executed_keeps (WrSs mem src) n mode free m = next_keeps m _ (wr_ss_follows mem src (at_next n m))
executed_keeps insn.Syscall n mode free m = (plus m.regs.rip n, refl)
executed_keeps Ud2 n mode free m = next_keeps m _ (ud2_follows (at_next n m))
executed_keeps Hlt n mode free m = next_keeps m _ (hlt_follows (at_next n m))

executed_if_form_keeps : (x : Decoding) (fetched : ℕ) (mode : Mode) (free : ℕ) (m : Machine) → EndKeeps m (executed_if_form x fetched mode free m)
executed_if_form_keeps (Ok x) fetched mode free m = executed_keeps x.0 x.1 mode free m
executed_if_form_keeps (Err Short) fetched mode free m = tt
executed_if_form_keeps (Err Outside) fetched mode free m = tt

either_end : (b : Bool) (m : Machine) (x y : StepEnd) → EndKeeps m x → EndKeeps m y → EndKeeps m (if b then x else y)
either_end true m x y h k = h
either_end false m x y h k = k

step_over_keeps : (code : List ℕ) (mode : Mode) (free : ℕ) (m : Machine) → EndKeeps m (step_over code mode free m)
step_over_keeps code mode free m =
    either_end (length code == 0) m _ _ tt (either_end (m.regs.waiting && not (starts_with nat_eq code endbr64_bytes)) m _ _ tt
    (executed_if_form_keeps (decoded code) (length code) mode free m))

end_keeps : (mode : Mode) (free : ℕ) (m : Machine) → EndKeeps m (step mode free m)
unfolding step
end_keeps mode free m = step_over_keeps (fetched m.memory m.regs.rip) mode free m

pub step_keeps : StepKeeps
step_keeps mode free m n e = subst (EndKeeps m) e (end_keeps mode free m)

pub syscall_keeps : SyscallKeeps
syscall_keeps mode free m R e = subst (EndKeeps m) e (end_keeps mode free m)

-- ---- a signal

pub are_bytes : (words : List ℕ) → IsByteList (bytes_of_words words)
are_bytes [] = tt
are_bytes (word ∷ words) = IsByteList-append (low_bytes 8 word) (bytes_of_words words) (IsByteList-low_bytes 8 word) (are_bytes words)

shadow_frame_follows : (mode : Mode) (action : Action) (m : Machine) → IfOk (shadow_frame mode action m) (Follows m)
shadow_frame_follows mode action m =
    either_effect mode.shstk m _ _
    (after_ok (shadow_pushed (marked m.regs.ssp) m) _ (Follows m) (Follows m) (shadow_pushed_follows (marked m.regs.ssp) m)
    (λ n h. ok_weaker (shadow_pushed action.restorer n) (Follows n) (Follows m) (λ l k. follows_trans m n l h k) (shadow_pushed_follows action.restorer n)))
    (follows_refl m)

handler_count : (mode : Mode) (action : Action) (signo a : ℕ) (R : Regs) → length (at_handler mode action signo a R).r ≡ length R.r
handler_count mode action signo a R =
    let first = with_value R Rsp a in
    let second = with_value first Rax 0 in
    let third = with_value second Rdx 0 in
    let fourth = with_value third Rsi 0 in
    length-set fourth.r (number Rdi) signo ∙ length-set third.r (number Rsi) 0 ∙ length-set second.r (number Rdx) 0 ∙ length-set first.r (number Rax) 0 ∙ length-set R.r (number Rsp) a

deliver_follows : (mode : Mode) (action : Action) (signo : ℕ) (m : Machine) → IfOk (deliver mode action signo m) (Follows m)
unfolding deliver
deliver_follows mode action signo m =
    let a = frame_address (value m.regs Rsp) in
    let bytes = bytes_of_words (frame action signo m.regs) in
    after_ok (ok_or (stored is_write m.memory a bytes) (Page a)) _ (KeepsRegions m.memory) (Follows m)
    (ok_or_some (stored is_write m.memory a bytes) (Page a) (KeepsRegions m.memory) (λ N e. write_keeps m.memory N a bytes (are_bytes (frame action signo m.regs)) e))
    (λ N k. after_ok (shadow_frame mode action (record m { memory = N })) _ (Follows (record m { memory = N })) (Follows m)
    (shadow_frame_follows mode action (record m { memory = N }))
    (λ n h. follows_trans m (record m { memory = N }) (record n { regs = at_handler mode action signo a n.regs }) (k, refl) (h.0, handler_count mode action signo a n.regs ∙ h.1)))

pub deliver_keeps : DeliverKeeps
deliver_keeps mode action signo m n e = subst (λ (x : Effect). IfOk x (Follows m)) e (deliver_follows mode action signo m)
