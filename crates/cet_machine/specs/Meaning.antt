-- What each instruction does (SDM volume 1, 5.1 and 5.23; volume 2, the page of each), where rip already is the address of the next one.
-- `mode` says what of CET is on, and `free` has the flags that an instruction leaves undefined. A LOCK prefix (SDM volume 3, "Locked Atomic
-- Operations") changes nothing: every instruction is one step.
use Rattle.std.specs.Prelude.{ℕ}
use Rattle.cet_isa.specs.declared.instruction.Insn.{Insn}
use Rattle.cet_isa.specs.declared.instruction.Insn.TheVariants.{EndBr64, Nop, Mov, MovLoad, MovImm, MovAbs, MovZx, MovSx, MovSxd, Lea, Alu, AluLoad, AluImm, Test, TestImm, Unary, Shift, IMul2, IMul3, MulDiv, Cdq, Cdqe, Push, Pop, PushImm, PushMem, Call, CallInd, JmpInd, Jmp, Jcc, SetCc, CMov, Ret, Leave, Xchg, CmpXchg, XAdd, RdSsp, IncSsp, RstorSsp, SavePrevSsp, WrSs, Syscall, Ud2, Hlt}
use Rattle.cet_isa.specs.declared.registers.Mode.{Mode}
use Rattle.cet_machine.specs.Machine.{Machine, Effect}
use Rattle.cet_machine.specs.MoveInstructions.{mov, mov_load, mov_imm, mov_abs, mov_zx, mov_sx, mov_sxd, lea, cdq, cdqe, set_cc, cmov, xchg, cmp_xchg, xadd}
use Rattle.cet_machine.specs.ArithmeticInstructions.{alu, alu_load, alu_imm, test, test_imm, unary, shift, imul2, imul3, mul_div}
use Rattle.cet_machine.specs.StackInstructions.{push, push_imm, push_mem, pop, leave}
use Rattle.cet_machine.specs.ControlInstructions.{endbr64, jmp, jcc, jmp_ind, call, call_ind, ret}
use Rattle.cet_machine.specs.CetInstructions.{rd_ssp, inc_ssp, rstor_ssp, save_prev_ssp, wr_ss}
use Rattle.cet_machine.specs.SystemInstructions.{nop, syscall, ud2, hlt}

abbrev pub meaning : Insn → Mode → ℕ → Machine → Effect
meaning EndBr64 mode free m = endbr64 m
meaning Nop mode free m = nop m
meaning (Mov w dst src) mode free m = mov w dst src m
meaning (MovLoad w dst src) mode free m = mov_load w dst src m
meaning (MovImm w dst imm) mode free m = mov_imm w dst imm m
meaning (MovAbs w dst imm) mode free m = mov_abs w dst imm m
meaning (MovZx w dst src) mode free m = mov_zx w dst src m
meaning (MovSx w dst src) mode free m = mov_sx w dst src m
meaning (MovSxd dst src) mode free m = mov_sxd dst src m
meaning (Lea w dst mem) mode free m = lea w dst mem m
meaning (Alu op w dst src) mode free m = alu op w dst src m
meaning (AluLoad op w dst src) mode free m = alu_load op w dst src m
meaning (AluImm op w dst imm) mode free m = alu_imm op w dst imm m
meaning (Test w dst src) mode free m = test w dst src m
meaning (TestImm w dst imm) mode free m = test_imm w dst imm m
meaning (Unary op w dst) mode free m = unary op w dst m
meaning (Shift op w dst count) mode free m = shift op w dst count free m
meaning (IMul2 w dst src) mode free m = imul2 w dst src free m
meaning (IMul3 w dst src imm) mode free m = imul3 w dst src imm free m
meaning (MulDiv op w src) mode free m = mul_div op w src free m
meaning (Cdq w) mode free m = cdq w m
meaning (Cdqe w) mode free m = cdqe w m
meaning (Push src) mode free m = push src m
meaning (Pop dst) mode free m = pop dst m
meaning (PushImm imm) mode free m = push_imm imm m
meaning (PushMem mem) mode free m = push_mem mem m
meaning (Call rel) mode free m = call rel mode m
meaning (CallInd target notrack) mode free m = call_ind target notrack mode m
meaning (JmpInd target notrack) mode free m = jmp_ind target notrack mode m
meaning (Jmp rel) mode free m = jmp rel m
meaning (Jcc cond rel) mode free m = jcc cond rel m
meaning (SetCc cond dst) mode free m = set_cc cond dst m
meaning (CMov cond w dst src) mode free m = cmov cond w dst src m
meaning Ret mode free m = ret mode m
meaning Leave mode free m = leave m
meaning (Xchg w dst src) mode free m = xchg w dst src m
meaning (CmpXchg w dst src lock) mode free m = cmp_xchg w dst src m
meaning (XAdd w dst src lock) mode free m = xadd w dst src m
meaning (RdSsp dst) mode free m = rd_ssp dst mode m
meaning (IncSsp src) mode free m = inc_ssp src mode m
meaning (RstorSsp mem) mode free m = rstor_ssp mem mode m
meaning SavePrevSsp mode free m = save_prev_ssp mode m
meaning (WrSs mem src) mode free m = wr_ss mem src m
meaning Syscall mode free m = syscall m
meaning Ud2 mode free m = ud2 m
meaning Hlt mode free m = hlt m
