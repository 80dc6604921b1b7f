-- The text of an instruction value, as the assembler reads it and the listing prints it: this project's own, with the mnemonics of SDM volume 2.
use Rattle.std.specs.Prelude.{ℕ, zero, suc, Bool, if◌then◌else◌, List, [], ◌++◌, ℤ, pos, negsuc, Option, Some, None, codes}
use Rattle.std.specs.Fmt.{decimal, signed_decimal}
use Rattle.cet_isa.specs.declared.register.Reg.{Reg}
use Rattle.cet_isa.specs.declared.register.Reg.TheVariants.{Rax, Rcx, Rdx, Rbx, Rsp, Rbp, Rsi, Rdi, R8, R9, R10, R11, R12, R13, R14, R15}
use Rattle.cet_isa.specs.declared.operand.Width.{Width}
use Rattle.cet_isa.specs.declared.operand.Width.TheVariants.{B1, B4, B8}
use Rattle.cet_isa.specs.declared.operand.Rel.{Rel}
use Rattle.cet_isa.specs.declared.operand.Rel.TheVariants.{S, L}
use Rattle.cet_isa.specs.declared.operand.Mem.{Mem}
use Rattle.cet_isa.specs.declared.operand.Rm.{Rm}
use Rattle.cet_isa.specs.declared.operand.Rm.TheVariants as rm
use Rattle.cet_isa.specs.declared.operation.AluOp.{AluOp}
use Rattle.cet_isa.specs.declared.operation.AluOp.TheVariants.{Add, Or, Adc, Sbb, And, Sub, Xor, Cmp}
use Rattle.cet_isa.specs.declared.operation.UnOp.{UnOp}
use Rattle.cet_isa.specs.declared.operation.UnOp.TheVariants.{Inc, Dec, Not, Neg}
use Rattle.cet_isa.specs.declared.operation.ShiftOp.{ShiftOp}
use Rattle.cet_isa.specs.declared.operation.ShiftOp.TheVariants.{Rol, Ror, Shl, Shr, Sar}
use Rattle.cet_isa.specs.declared.operation.ShiftCount.{ShiftCount}
use Rattle.cet_isa.specs.declared.operation.ShiftCount.TheVariants as count
use Rattle.cet_isa.specs.declared.operation.MulDivOp.{MulDivOp}
use Rattle.cet_isa.specs.declared.operation.MulDivOp.TheVariants.{Mul, IMul1, Div, IDiv}
use Rattle.cet_isa.specs.declared.operation.Cond.{Cond}
use Rattle.cet_isa.specs.declared.operation.Cond.TheVariants as cond
use Rattle.cet_isa.specs.declared.instruction.Insn.{Insn}
use Rattle.cet_isa.specs.declared.instruction.Insn.TheVariants.{EndBr64, Nop, Mov, MovLoad, MovImm, MovAbs, MovZx, MovSx, MovSxd, Lea, Alu, AluLoad, AluImm, Test, TestImm, Unary, Shift, IMul2, IMul3, MulDiv, Cdq, Cdqe, Push, Pop, PushImm, PushMem, Call, CallInd, JmpInd, Jmp, Jcc, SetCc, CMov, Ret, Leave, Xchg, CmpXchg, XAdd, RdSsp, IncSsp, RstorSsp, SavePrevSsp, WrSs, Syscall, Ud2, Hlt}

-- ---- operands

-- a register has the name of its 64 bits, whatever the width
abbrev pub register_text : Reg → List ℕ
register_text Rax = codes "rax"
register_text Rcx = codes "rcx"
register_text Rdx = codes "rdx"
register_text Rbx = codes "rbx"
register_text Rsp = codes "rsp"
register_text Rbp = codes "rbp"
register_text Rsi = codes "rsi"
register_text Rdi = codes "rdi"
register_text R8 = codes "r8"
register_text R9 = codes "r9"
register_text R10 = codes "r10"
register_text R11 = codes "r11"
register_text R12 = codes "r12"
register_text R13 = codes "r13"
register_text R14 = codes "r14"
register_text R15 = codes "r15"

-- a displacement after another term, with its sign
abbrev pub added_text : ℤ → List ℕ
added_text (pos n) = codes "+" ++ decimal n
added_text (negsuc n) = codes "-" ++ decimal (suc n)

-- the same, left out where it is 0
abbrev pub added_unless_0 : ℤ → List ℕ
added_unless_0 (pos zero) = []
added_unless_0 d = added_text d

abbrev pub index_text : Reg → ℕ → List ℕ
index_text index scale = register_text index ++ codes "*" ++ decimal scale

-- the terms that are there, parted by their signs; the displacement alone where there is neither base nor index
abbrev pub terms_text : Option Reg → Option Reg → ℕ → ℤ → List ℕ
terms_text None None scale d = signed_decimal d
terms_text (Some base) None scale d = register_text base ++ added_unless_0 d
terms_text None (Some index) scale d = index_text index scale ++ added_unless_0 d
terms_text (Some base) (Some index) scale d = register_text base ++ codes "+" ++ index_text index scale ++ added_unless_0 d

-- a memory operand in brackets; behind rip the displacement is always there
abbrev pub memory_text : Mem → List ℕ
memory_text mem = codes "[" ++ (if mem.rip then codes "rip" ++ added_text mem.disp else terms_text mem.base mem.index mem.scale mem.disp) ++ codes "]"

abbrev pub operand_text : Rm → List ℕ
operand_text (rm.Reg reg) = register_text reg
operand_text (rm.Mem mem) = memory_text mem

-- a branch's displacement from the next instruction
abbrev pub displacement_text : ℤ → List ℕ
displacement_text d = codes "$" ++ signed_decimal d

abbrev pub count_text : ShiftCount → List ℕ
count_text (count.Imm n) = decimal n
count_text count.Cl = codes "cl"

-- ---- names

-- bytes of the operands
abbrev pub width_text : Width → List ℕ
width_text B1 = codes ".1"
width_text B4 = codes ".4"
width_text B8 = codes ".8"

abbrev pub alu_text : AluOp → List ℕ
alu_text Add = codes "add"
alu_text Or = codes "or"
alu_text Adc = codes "adc"
alu_text Sbb = codes "sbb"
alu_text And = codes "and"
alu_text Sub = codes "sub"
alu_text Xor = codes "xor"
alu_text Cmp = codes "cmp"

abbrev pub unary_text : UnOp → List ℕ
unary_text Inc = codes "inc"
unary_text Dec = codes "dec"
unary_text Not = codes "not"
unary_text Neg = codes "neg"

abbrev pub shift_text : ShiftOp → List ℕ
shift_text Rol = codes "rol"
shift_text Ror = codes "ror"
shift_text Shl = codes "shl"
shift_text Shr = codes "shr"
shift_text Sar = codes "sar"

-- `imul1` is the product of one operand
abbrev pub product_text : MulDivOp → List ℕ
product_text Mul = codes "mul"
product_text IMul1 = codes "imul1"
product_text Div = codes "div"
product_text IDiv = codes "idiv"

abbrev pub condition_text : Cond → List ℕ
condition_text cond.O = codes "o"
condition_text cond.No = codes "no"
condition_text cond.B = codes "b"
condition_text cond.Ae = codes "ae"
condition_text cond.E = codes "e"
condition_text cond.Ne = codes "ne"
condition_text cond.Be = codes "be"
condition_text cond.A = codes "a"
condition_text cond.S = codes "s"
condition_text cond.Ns = codes "ns"
condition_text cond.L = codes "l"
condition_text cond.Ge = codes "ge"
condition_text cond.Le = codes "le"
condition_text cond.G = codes "g"

-- ---- a name and its operands

abbrev pub with_one : List ℕ → List ℕ → List ℕ
with_one name operand = name ++ codes " " ++ operand

abbrev pub with_two : List ℕ → List ℕ → List ℕ → List ℕ
with_two name first second = with_one name (first ++ codes ", " ++ second)

abbrev pub with_three : List ℕ → List ℕ → List ℕ → List ℕ → List ℕ
with_three name first second third = with_two name first (second ++ codes ", " ++ third)

-- a word before the whole, where it is asked for
abbrev pub behind : List ℕ → Bool → List ℕ → List ℕ
behind word asked text = if asked then with_one word text else text

-- a branch of 8 bits has `.s` after its name
abbrev pub branch_text : List ℕ → Rel → List ℕ
branch_text name (S d) = with_one (name ++ codes ".s") (displacement_text d)
branch_text name (L d) = with_one name (displacement_text d)

abbrev pub text : Insn → List ℕ
text EndBr64 = codes "endbr64"
text Nop = codes "nop"
text (Mov w dst src) = with_two (codes "mov" ++ width_text w) (operand_text dst) (register_text src)
text (MovLoad w dst src) = with_two (codes "ld" ++ width_text w) (register_text dst) (operand_text src)
text (MovImm w dst imm) = with_two (codes "mov" ++ width_text w) (operand_text dst) (signed_decimal imm)
text (MovAbs w dst imm) = with_two (codes "movabs" ++ width_text w) (register_text dst) (decimal imm)
text (MovZx w dst src) = with_two (codes "movzx" ++ width_text w) (register_text dst) (operand_text src)
text (MovSx w dst src) = with_two (codes "movsx" ++ width_text w) (register_text dst) (operand_text src)
text (MovSxd dst src) = with_two (codes "movsxd") (register_text dst) (operand_text src)
text (Lea w dst mem) = with_two (codes "lea" ++ width_text w) (register_text dst) (memory_text mem)
text (Alu op w dst src) = with_two (alu_text op ++ width_text w) (operand_text dst) (register_text src)
text (AluLoad op w dst src) = with_two (alu_text op ++ codes "_ld" ++ width_text w) (register_text dst) (operand_text src)
text (AluImm op w dst imm) = with_two (alu_text op ++ width_text w) (operand_text dst) (signed_decimal imm)
text (Test w dst src) = with_two (codes "test" ++ width_text w) (operand_text dst) (register_text src)
text (TestImm w dst imm) = with_two (codes "test" ++ width_text w) (operand_text dst) (signed_decimal imm)
text (Unary op w dst) = with_one (unary_text op ++ width_text w) (operand_text dst)
text (Shift op w dst n) = with_two (shift_text op ++ width_text w) (operand_text dst) (count_text n)
text (IMul2 w dst src) = with_two (codes "imul" ++ width_text w) (register_text dst) (operand_text src)
text (IMul3 w dst src imm) = with_three (codes "imul" ++ width_text w) (register_text dst) (operand_text src) (signed_decimal imm)
text (MulDiv op w src) = with_one (product_text op ++ width_text w) (operand_text src)
text (Cdq w) = codes "cdq" ++ width_text w
text (Cdqe w) = codes "cdqe" ++ width_text w
text (Push src) = with_one (codes "push") (register_text src)
text (Pop dst) = with_one (codes "pop") (register_text dst)
text (PushImm imm) = with_one (codes "push") (signed_decimal imm)
text (PushMem mem) = with_one (codes "push") (memory_text mem)
text (Call rel) = with_one (codes "call") (displacement_text rel)
text (CallInd target notrack) = behind (codes "notrack") notrack (with_one (codes "call") (operand_text target))
text (JmpInd target notrack) = behind (codes "notrack") notrack (with_one (codes "jmp") (operand_text target))
text (Jmp rel) = branch_text (codes "jmp") rel
text (Jcc c rel) = branch_text (codes "j" ++ condition_text c) rel
text (SetCc c dst) = with_one (codes "set" ++ condition_text c) (operand_text dst)
text (CMov c w dst src) = with_two (codes "cmov" ++ condition_text c ++ width_text w) (register_text dst) (operand_text src)
text Ret = codes "ret"
text Leave = codes "leave"
text (Xchg w dst src) = with_two (codes "xchg" ++ width_text w) (operand_text dst) (register_text src)
text (CmpXchg w dst src lock) = behind (codes "lock") lock (with_two (codes "cmpxchg" ++ width_text w) (memory_text dst) (register_text src))
text (XAdd w dst src lock) = behind (codes "lock") lock (with_two (codes "xadd" ++ width_text w) (memory_text dst) (register_text src))
text (RdSsp dst) = with_one (codes "rdssp") (register_text dst)
text (IncSsp src) = with_one (codes "incssp") (register_text src)
text (RstorSsp mem) = with_one (codes "rstorssp") (memory_text mem)
text SavePrevSsp = codes "saveprevssp"
text (WrSs mem src) = with_two (codes "wrss") (memory_text mem) (register_text src)
text Syscall = codes "syscall"
text Ud2 = codes "ud2"
text Hlt = codes "hlt"
