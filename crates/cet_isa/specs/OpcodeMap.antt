-- The opcode map without prefixes: what each opcode byte asks for (SDM volume 2, appendix A.3). A row names its page of the SDM.
use Rattle.std.specs.Prelude.{ℕ, ◌/◌, ◌%◌, Bool, true, false, ◌||◌, ◌==◌, nat_lt, if◌then◌else◌, ℤ, Option, Some, None}
use Rattle.cet_isa.specs.declared.register.Reg.{Reg}
use Rattle.cet_isa.specs.declared.register.Reg.TheVariants.{Rax}
use Rattle.cet_isa.specs.declared.operand.Width.{Width}
use Rattle.cet_isa.specs.declared.operand.Width.TheVariants.{B1, B4, B8}
use Rattle.cet_isa.specs.declared.operand.Rel.TheVariants.{S, L}
use Rattle.cet_isa.specs.declared.operand.Mem.{Mem}
use Rattle.cet_isa.specs.declared.operand.Rm.{Rm}
use Rattle.cet_isa.specs.declared.operand.Rm.TheVariants as rm
use Rattle.cet_isa.specs.declared.operation.AluOp.{AluOp}
use Rattle.cet_isa.specs.declared.operation.AluOp.TheVariants.{Add, Or, Adc, Sbb, And, Sub, Xor, Cmp}
use Rattle.cet_isa.specs.declared.operation.UnOp.TheVariants.{Inc, Dec, Not, Neg}
use Rattle.cet_isa.specs.declared.operation.ShiftOp.{ShiftOp}
use Rattle.cet_isa.specs.declared.operation.ShiftOp.TheVariants.{Rol, Ror, Shl, Shr, Sar}
use Rattle.cet_isa.specs.declared.operation.ShiftCount.{ShiftCount}
use Rattle.cet_isa.specs.declared.operation.ShiftCount.TheVariants as count
use Rattle.cet_isa.specs.declared.operation.MulDivOp.TheVariants.{Mul, IMul1, Div, IDiv}
use Rattle.cet_isa.specs.declared.operation.Cond.{Cond}
use Rattle.cet_isa.specs.declared.operation.Cond.TheVariants as cond
use Rattle.cet_isa.specs.declared.instruction.Insn.{Insn}
use Rattle.cet_isa.specs.declared.instruction.Insn.TheVariants.{Nop, Mov, MovLoad, MovImm, MovAbs, MovZx, MovSx, MovSxd, Lea, Alu, AluLoad, AluImm, Test, TestImm, Unary, Shift, IMul2, IMul3, MulDiv, Cdq, Cdqe, Push, Pop, PushImm, PushMem, Call, CallInd, JmpInd, Jmp, Jcc, SetCc, CMov, Ret, Leave, Xchg, CmpXchg, XAdd, WrSs, Syscall, Ud2, Hlt}
use Rattle.cet_isa.specs.Operand.{rex_w, rex_r, rex_x, rex_b, extended, middle_field, names_register, register}
use Rattle.cet_isa.specs.Row.{End, Alone, Signed8, Signed32, Unsigned8, Operand, NoOperand, RegisterOrMemory, Memory, Row, NoRow, Ends, Constant, RegAndRm, RegAndMemory, ModRm, Escape}

-- ---- kinds of rows

-- no REX
abbrev pub plain : Option ℕ → Row → Row
plain None row = row
plain (Some byte) row = NoRow

abbrev pub per_width : Option Width → (Width → Row) → Row
per_width None row = NoRow
per_width (Some w) row = row w

-- no REX, or 48 for 64 bits
abbrev pub accumulator_width : Option ℕ → Option Width
accumulator_width None = Some B4
accumulator_width (Some byte) = if byte == 0x48 then Some B8 else None

abbrev pub accumulator : Option ℕ → (Width → End) → Row
accumulator rex end = per_width (accumulator_width rex) (λ w. Ends (end w))

-- 32 bits, with REX.W 64 bits
abbrev pub full_width : Option ℕ → Width
full_width rex = if rex_w rex then B8 else B4

-- no REX.W
abbrev pub narrow : Option ℕ → Row → Row
narrow rex row = if rex_w rex then NoRow else row

-- an even opcode is for bytes, and the odd one after it for 32 and 64 bits
abbrev pub sized_width : Option ℕ → ℕ → Option Width
sized_width rex opcode = if opcode % 2 == 0 then (if rex_w rex then None else Some B1) else Some (full_width rex)

abbrev pub sized : Option ℕ → ℕ → (Width → Row) → Row
sized rex opcode row = per_width (sized_width rex opcode) row

abbrev pub is_byte : Width → Bool
is_byte B1 = true
is_byte w = false

-- /0 to /7: the reg field belongs to the opcode, and R has no use
abbrev pub group : Option ℕ → (ℕ → Operand) → Row
group rex operand = if rex_r rex then NoRow else ModRm (λ modrm. operand (middle_field modrm))

-- one extension of the opcode alone
abbrev pub extension : Option ℕ → ℕ → Operand → Row
extension rex digit operand = group rex (λ field. if field == digit then operand else NoOperand)

-- +r: the low three bits of the opcode are a register; R and X have no use
abbrev pub in_opcode : Option ℕ → ℕ → (Reg → Row) → Row
in_opcode rex opcode row = if rex_r rex || rex_x rex then NoRow else row (register (extended (rex_b rex) (opcode % 8)))

-- ib for bytes, else id
abbrev pub immediate : Width → (ℤ → Insn) → End
immediate w f = if is_byte w then Signed8 f else Signed32 f

abbrev pub alu_op : ℕ → AluOp
alu_op n = if n == 0 then Add else if n == 1 then Or else if n == 2 then Adc else if n == 3 then Sbb else
    if n == 4 then And else if n == 5 then Sub else if n == 6 then Xor else Cmp

-- the condition of a number below 16; those on parity, 10 and 11, are none here (SDM volume 2, B.1.4.7)
abbrev pub condition : ℕ → Option Cond
condition n =
    if n == 0 then Some cond.O else if n == 1 then Some cond.No else if n == 2 then Some cond.B else if n == 3 then Some cond.Ae else
    if n == 4 then Some cond.E else if n == 5 then Some cond.Ne else if n == 6 then Some cond.Be else if n == 7 then Some cond.A else
    if n == 8 then Some cond.S else if n == 9 then Some cond.Ns else if n == 12 then Some cond.L else if n == 13 then Some cond.Ge else
    if n == 14 then Some cond.Le else if n == 15 then Some cond.G else None

abbrev pub if_condition : Option Cond → (Cond → Row) → Row
if_condition None row = NoRow
if_condition (Some c) row = row c

-- an operand that is a register or memory, and a register: the width by the opcode
abbrev pub sized_reg : Option ℕ → ℕ → (Width → Reg → Rm → Insn) → Row
sized_reg rex opcode value = sized rex opcode (λ w. RegAndRm (is_byte w) (is_byte w) (λ reg operand. Alone (value w reg operand)))

-- ---- rows without 0F

-- ADD, OR, ADC, SBB, AND, SUB, XOR, CMP: op*8 to op*8+5
abbrev pub alu_row : Option ℕ → AluOp → ℕ → Row
alu_row rex op low =
    if nat_lt low 2 then sized_reg rex low (λ w reg dst. Alu op w dst reg) else
    if nat_lt low 4 then sized_reg rex low (λ w reg src. AluLoad op w reg src) else
    if low == 4 then plain rex (Ends (Signed8 (λ z. AluImm op B1 (rm.Reg Rax) z))) else
    if low == 5 then accumulator rex (λ w. Signed32 (λ z. AluImm op w (rm.Reg Rax) z)) else
    NoRow

-- PUSH, 50+r, and POP, 58+r
abbrev pub push_row : Option ℕ → ℕ → Row
push_row rex opcode = narrow rex (in_opcode rex opcode (λ reg. Ends (Alone (Push reg))))

abbrev pub pop_row : Option ℕ → ℕ → Row
pop_row rex opcode = narrow rex (in_opcode rex opcode (λ reg. Ends (Alone (Pop reg))))

-- MOVSXD, 63 with REX.W
abbrev pub movsxd_row : Option ℕ → Row
movsxd_row rex = if rex_w rex then RegAndRm false false (λ dst src. Alone (MovSxd dst src)) else NoRow

-- PUSH, 68 and 6A
abbrev pub push_immediate_row : Option ℕ → ((ℤ → Insn) → End) → Row
push_immediate_row rex end = plain rex (Ends (end (λ z. PushImm z)))

-- IMUL, 69 and 6B
abbrev pub multiply_immediate_row : Option ℕ → ((ℤ → Insn) → End) → Row
multiply_immediate_row rex end = RegAndRm false false (λ dst src. end (λ z. IMul3 (full_width rex) dst src z))

-- Jcc, 70 to 7F
abbrev pub short_branch_row : Option ℕ → ℕ → Row
short_branch_row rex opcode = if_condition (condition (opcode % 16)) (λ c. plain rex (Ends (Signed8 (λ z. Jcc c (S z)))))

-- ADD to CMP, 80, 81 and 83 /0 to /7
abbrev pub alu_group : Option ℕ → Width → ((ℤ → Insn) → End) → Row
alu_group rex w end = group rex (λ field. RegisterOrMemory (is_byte w) (λ dst. end (λ z. AluImm (alu_op field) w dst z)))

-- LEA, 8D
abbrev pub lea_row : Option ℕ → Row
lea_row rex = RegAndMemory false (λ dst mem. Alone (Lea (full_width rex) dst mem))

-- MOV of a constant, B0+r and B8+r
abbrev pub constant_row : Option ℕ → ℕ → Row
constant_row rex opcode = in_opcode rex opcode (λ reg.
    if nat_lt opcode 0xB8 then narrow rex (if names_register rex true (opcode % 8) then Constant B1 (λ n. MovAbs B1 reg n) else NoRow) else
    if rex_w rex then Constant B8 (λ n. MovAbs B8 reg n) else Constant B4 (λ n. MovAbs B4 reg n))

-- ROL /0, ROR /1, SHL /4, SHR /5, SAR /7: C0 and C1, D0 and D1, D2 and D3
abbrev pub shift_op : ℕ → Option ShiftOp
shift_op n = if n == 0 then Some Rol else if n == 1 then Some Ror else if n == 4 then Some Shl else if n == 5 then Some Shr else if n == 7 then Some Sar else None

abbrev pub shift_operand : Width → ((ShiftCount → Insn) → End) → Option ShiftOp → Operand
shift_operand w end None = NoOperand
shift_operand w end (Some op) = RegisterOrMemory (is_byte w) (λ dst. end (λ n. Shift op w dst n))

abbrev pub shift_group : Option ℕ → ℕ → ((ShiftCount → Insn) → End) → Row
shift_group rex opcode end = sized rex opcode (λ w. group rex (λ field. shift_operand w end (shift_op field)))

-- MOV, C6 and C7 /0
abbrev pub move_immediate_row : Option ℕ → ℕ → Row
move_immediate_row rex opcode = sized rex opcode (λ w. extension rex 0 (RegisterOrMemory (is_byte w) (λ dst. immediate w (λ z. MovImm w dst z))))

-- TEST /0, NOT /2, NEG /3; of 32 and 64 bits also MUL /4, IMUL /5, DIV /6, IDIV /7: F6 and F7
abbrev pub f6_operand : Width → ℕ → Operand
f6_operand w field =
    if field == 0 then RegisterOrMemory (is_byte w) (λ dst. immediate w (λ z. TestImm w dst z)) else
    if field == 2 then RegisterOrMemory (is_byte w) (λ dst. Alone (Unary Not w dst)) else
    if field == 3 then RegisterOrMemory (is_byte w) (λ dst. Alone (Unary Neg w dst)) else
    if is_byte w then NoOperand else
    if field == 4 then RegisterOrMemory false (λ src. Alone (MulDiv Mul w src)) else
    if field == 5 then RegisterOrMemory false (λ src. Alone (MulDiv IMul1 w src)) else
    if field == 6 then RegisterOrMemory false (λ src. Alone (MulDiv Div w src)) else
    if field == 7 then RegisterOrMemory false (λ src. Alone (MulDiv IDiv w src)) else
    NoOperand

abbrev pub f6_group : Option ℕ → ℕ → Row
f6_group rex opcode = sized rex opcode (λ w. group rex (f6_operand w))

-- INC /0, DEC /1
abbrev pub inc_dec : Width → ℕ → Operand
inc_dec w field =
    if field == 0 then RegisterOrMemory (is_byte w) (λ dst. Alone (Unary Inc w dst)) else
    if field == 1 then RegisterOrMemory (is_byte w) (λ dst. Alone (Unary Dec w dst)) else
    NoOperand

-- CALL /2, JMP /4
abbrev pub indirect_branch : Bool → ℕ → Operand
indirect_branch notrack field =
    if field == 2 then RegisterOrMemory false (λ target. Alone (CallInd target notrack)) else
    if field == 4 then RegisterOrMemory false (λ target. Alone (JmpInd target notrack)) else
    NoOperand

-- FE: INC and DEC of bytes
abbrev pub fe_group : Option ℕ → Row
fe_group rex = narrow rex (group rex (inc_dec B1))

-- FF: INC and DEC, and without REX.W CALL, JMP and PUSH /6 of memory
abbrev pub ff_operand : Option ℕ → ℕ → Operand
ff_operand rex field =
    if nat_lt field 2 then inc_dec (full_width rex) field else
    if rex_w rex then NoOperand else
    if field == 6 then Memory (λ mem. Alone (PushMem mem)) else
    indirect_branch false field

abbrev pub ff_group : Option ℕ → Row
ff_group rex = group rex (ff_operand rex)

-- ---- rows behind 0F

-- NOP, 0F 1F /0
abbrev pub long_nop : Option ℕ → Row
long_nop rex = plain rex (extension rex 0 (RegisterOrMemory false (λ operand. Alone Nop)))

-- CMOVcc, 0F 40 to 0F 4F
abbrev pub conditional_move_row : Option ℕ → ℕ → Row
conditional_move_row rex opcode = if_condition (condition (opcode % 16)) (λ c. RegAndRm false false (λ dst src. Alone (CMov c (full_width rex) dst src)))

-- Jcc, 0F 80 to 0F 8F
abbrev pub long_branch_row : Option ℕ → ℕ → Row
long_branch_row rex opcode = if_condition (condition (opcode % 16)) (λ c. plain rex (Ends (Signed32 (λ z. Jcc c (L z)))))

-- SETcc, 0F 90 to 0F 9F /0
abbrev pub set_row : Option ℕ → ℕ → Row
set_row rex opcode = if_condition (condition (opcode % 16)) (λ c. narrow rex (extension rex 0 (RegisterOrMemory true (λ dst. Alone (SetCc c dst)))))

-- CMPXCHG, 0F B0 and 0F B1, and XADD, 0F C0 and 0F C1, of memory
abbrev pub exchange_row : Option ℕ → ℕ → (Width → Mem → Reg → Insn) → Row
exchange_row rex opcode value = sized rex opcode (λ w. RegAndMemory (is_byte w) (λ src dst. Alone (value w dst src)))

-- ---- the three maps

-- behind 0F 38: F6, WRSSQ
abbrev pub three_byte : Option ℕ → ℕ → Row
three_byte rex opcode = if opcode == 0xF6 then RegAndMemory false (λ src mem. Alone (WrSs mem src)) else NoRow

-- behind 0F (table A-3), by the opcode's high four bits; 38 leads to the three-byte opcodes, which all want REX.W
abbrev pub two_byte_0 : Option ℕ → ℕ → Row
two_byte_0 rex opcode =
    if opcode == 0x05 then plain rex (Ends (Alone Syscall)) else
    if opcode == 0x0B then plain rex (Ends (Alone Ud2)) else
    NoRow

abbrev pub wide_escape : Option ℕ → Row
wide_escape rex = if rex_w rex then Escape (three_byte rex) else NoRow

abbrev pub two_byte_b : Option ℕ → ℕ → Row
two_byte_b rex opcode =
    if nat_lt opcode 0xB2 then exchange_row rex opcode (λ w dst src. CmpXchg w dst src false) else
    if opcode == 0xB6 then RegAndRm false true (λ dst src. Alone (MovZx (full_width rex) dst src)) else
    if opcode == 0xBE then RegAndRm false true (λ dst src. Alone (MovSx (full_width rex) dst src)) else
    NoRow

abbrev pub multiply_row : Option ℕ → Row
multiply_row rex = RegAndRm false false (λ dst src. Alone (IMul2 (full_width rex) dst src))

abbrev pub two_byte : Option ℕ → ℕ → Row
two_byte rex opcode =
    if opcode / 16 == 0x0 then two_byte_0 rex opcode else
    if opcode == 0x1F then long_nop rex else
    if opcode == 0x38 then wide_escape rex else
    if opcode / 16 == 0x4 then conditional_move_row rex opcode else
    if opcode / 16 == 0x8 then long_branch_row rex opcode else
    if opcode / 16 == 0x9 then set_row rex opcode else
    if opcode == 0xAF then multiply_row rex else
    if opcode / 16 == 0xB then two_byte_b rex opcode else
    if opcode / 2 == 0x60 then exchange_row rex opcode (λ w dst src. XAdd w dst src false) else
    NoRow

-- ---- one-byte opcodes (table A-2), by the high four bits

-- 0F leads to the two-byte opcodes
abbrev pub one_byte_0_to_3 : Option ℕ → ℕ → Row
one_byte_0_to_3 rex opcode = if opcode == 0x0F then Escape (two_byte rex) else alu_row rex (alu_op (opcode / 8)) (opcode % 8)

abbrev pub one_byte_5 : Option ℕ → ℕ → Row
one_byte_5 rex opcode = if nat_lt opcode 0x58 then push_row rex opcode else pop_row rex opcode

abbrev pub one_byte_6 : Option ℕ → ℕ → Row
one_byte_6 rex opcode =
    if opcode == 0x63 then movsxd_row rex else
    if opcode == 0x68 then push_immediate_row rex Signed32 else
    if opcode == 0x69 then multiply_immediate_row rex Signed32 else
    if opcode == 0x6A then push_immediate_row rex Signed8 else
    if opcode == 0x6B then multiply_immediate_row rex Signed8 else
    NoRow

-- 84 TEST, 86 XCHG, 88 and 8A MOV
abbrev pub one_byte_8 : Option ℕ → ℕ → Row
one_byte_8 rex opcode =
    if opcode == 0x80 then narrow rex (alu_group rex B1 Signed8) else
    if opcode == 0x81 then alu_group rex (full_width rex) Signed32 else
    if opcode == 0x83 then alu_group rex (full_width rex) Signed8 else
    if opcode / 2 == 0x42 then sized_reg rex opcode (λ w src dst. Test w dst src) else
    if opcode / 2 == 0x43 then sized_reg rex opcode (λ w src dst. Xchg w dst src) else
    if opcode / 2 == 0x44 then sized_reg rex opcode (λ w src dst. Mov w dst src) else
    if opcode / 2 == 0x45 then sized_reg rex opcode (λ w dst src. MovLoad w dst src) else
    if opcode == 0x8D then lea_row rex else
    NoRow

-- 98 CWDE and CDQE, 99 CDQ and CQO
abbrev pub one_byte_9 : Option ℕ → ℕ → Row
one_byte_9 rex opcode =
    if opcode == 0x90 then plain rex (Ends (Alone Nop)) else
    if opcode == 0x98 then accumulator rex (λ w. Alone (Cdqe w)) else
    if opcode == 0x99 then accumulator rex (λ w. Alone (Cdq w)) else
    NoRow

-- TEST
abbrev pub one_byte_a : Option ℕ → ℕ → Row
one_byte_a rex opcode =
    if opcode == 0xA8 then plain rex (Ends (Signed8 (λ z. TestImm B1 (rm.Reg Rax) z))) else
    if opcode == 0xA9 then accumulator rex (λ w. Signed32 (λ z. TestImm w (rm.Reg Rax) z)) else
    NoRow

-- C3 RET, C9 LEAVE
abbrev pub one_byte_c : Option ℕ → ℕ → Row
one_byte_c rex opcode =
    if nat_lt opcode 0xC2 then shift_group rex opcode (λ f. Unsigned8 (λ n. f (count.Imm n))) else
    if opcode == 0xC3 then plain rex (Ends (Alone Ret)) else
    if opcode / 2 == 0x63 then move_immediate_row rex opcode else
    if opcode == 0xC9 then plain rex (Ends (Alone Leave)) else
    NoRow

abbrev pub one_byte_d : Option ℕ → ℕ → Row
one_byte_d rex opcode =
    if nat_lt opcode 0xD2 then shift_group rex opcode (λ f. Alone (f (count.Imm 1))) else
    if nat_lt opcode 0xD4 then shift_group rex opcode (λ f. Alone (f count.Cl)) else
    NoRow

-- CALL and JMP
abbrev pub one_byte_e : Option ℕ → ℕ → Row
one_byte_e rex opcode =
    if opcode == 0xE8 then plain rex (Ends (Signed32 (λ z. Call z))) else
    if opcode == 0xE9 then plain rex (Ends (Signed32 (λ z. Jmp (L z)))) else
    if opcode == 0xEB then plain rex (Ends (Signed8 (λ z. Jmp (S z)))) else
    NoRow

-- F4 HLT
abbrev pub one_byte_f : Option ℕ → ℕ → Row
one_byte_f rex opcode =
    if opcode == 0xF4 then plain rex (Ends (Alone Hlt)) else
    if opcode / 2 == 0x7B then f6_group rex opcode else
    if opcode == 0xFE then fe_group rex else
    if opcode == 0xFF then ff_group rex else
    NoRow

abbrev pub one_byte : Option ℕ → ℕ → Row
one_byte rex opcode =
    if nat_lt opcode 0x40 then one_byte_0_to_3 rex opcode else
    if opcode / 16 == 0x5 then one_byte_5 rex opcode else
    if opcode / 16 == 0x6 then one_byte_6 rex opcode else
    if opcode / 16 == 0x7 then short_branch_row rex opcode else
    if opcode / 16 == 0x8 then one_byte_8 rex opcode else
    if opcode / 16 == 0x9 then one_byte_9 rex opcode else
    if opcode / 16 == 0xA then one_byte_a rex opcode else
    if opcode / 16 == 0xB then constant_row rex opcode else
    if opcode / 16 == 0xC then one_byte_c rex opcode else
    if opcode / 16 == 0xD then one_byte_d rex opcode else
    if opcode / 16 == 0xE then one_byte_e rex opcode else
    if opcode / 16 == 0xF then one_byte_f rex opcode else
    NoRow
