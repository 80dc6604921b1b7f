-- The canonical form of a value is a form of it: value by value, by the row that its opcode leads to.
use Rattle.std.proofs.Common.{◌≡◌, ℕ, zero, suc, ◌+◌, ◌*◌, ◌<◌, Bool, true, false, ◌||◌, List, [], ◌∷◌, ℤ, Option, Some, None, refl, sym, ap, subst, ◌∙◌, append-nil, arith, inl, inr}
use Rattle.std.specs.Prelude.{if◌then◌else◌, ◌==◌, nat_lt}
use Rattle.std.specs.Int.{w8, w32}
use Rattle.std.proofs.Math.Pow.{are_bytes}
use Rattle.std.proofs.lemmas.Bool.{eqb-true, ne_eqb, lt-ltb}
use Rattle.std.proofs.lemmas.Option.{same_Some}
use Rattle.cet_isa.specs.declared.register.Reg.{Reg}
use Rattle.cet_isa.specs.declared.operand.Width.{Width}
use Rattle.cet_isa.specs.declared.operand.Width.TheVariants.{B1, B4, B8}
use Rattle.cet_isa.specs.declared.operand.Rel.{Rel}
use Rattle.cet_isa.specs.declared.operand.Rel.TheVariants.{S, L}
use Rattle.cet_isa.specs.declared.operand.Mem.{Mem}
use Rattle.cet_isa.specs.declared.operand.Rm.{Rm}
use Rattle.cet_isa.specs.declared.operand.Rm.TheVariants as rm
use Rattle.cet_isa.specs.declared.operation.AluOp.{AluOp}
use Rattle.cet_isa.specs.declared.operation.AluOp.TheVariants.{Add, Or, Adc, Sbb, And, Sub, Xor, Cmp}
use Rattle.cet_isa.specs.declared.operation.UnOp.{UnOp}
use Rattle.cet_isa.specs.declared.operation.UnOp.TheVariants.{Inc, Dec, Not, Neg}
use Rattle.cet_isa.specs.declared.operation.ShiftOp.{ShiftOp}
use Rattle.cet_isa.specs.declared.operation.ShiftOp.TheVariants.{Rol, Ror, Shl, Shr, Sar}
use Rattle.cet_isa.specs.declared.operation.ShiftCount.{ShiftCount}
use Rattle.cet_isa.specs.declared.operation.ShiftCount.TheVariants as count
use Rattle.cet_isa.specs.declared.operation.MulDivOp.{MulDivOp}
use Rattle.cet_isa.specs.declared.operation.MulDivOp.TheVariants.{Mul, IMul1, Div, IDiv}
use Rattle.cet_isa.specs.declared.operation.Cond.{Cond}
use Rattle.cet_isa.specs.declared.operation.Cond.TheVariants as cond
use Rattle.cet_isa.specs.declared.instruction.Insn.{Insn}
use Rattle.cet_isa.specs.declared.instruction.Insn.TheVariants.{EndBr64, Nop, Mov, MovLoad, MovImm, MovAbs, MovZx, MovSx, MovSxd, Lea, Alu, AluLoad, AluImm, Test, TestImm, Unary, Shift, IMul2, IMul3, MulDiv, Cdq, Cdqe, Push, Pop, PushImm, PushMem, Call, CallInd, JmpInd, Jmp, Jcc, SetCc, CMov, Ret, Leave, Xchg, CmpXchg, XAdd, RdSsp, IncSsp, RstorSsp, SavePrevSsp, WrSs, Syscall, Ud2, Hlt}
use Rattle.cet_isa.specs.Operand.{number_width, register, extended, rex_w, rex_r, rex_x, rex_b, low_field, middle_field, names_register}
use Rattle.cet_isa.specs.Row.{End, Alone, Signed8, Signed32, Unsigned8, Operand, NoOperand, NoMore, RegisterOrMemory, Memory, Register, Row, NoRow, Ends, Constant, RegAndRm, RegAndMemory, ModRm, Escape, RowBytes}
use Rattle.cet_isa.specs.OpcodeMap.{is_byte, alu_op, alu_row, condition, shift_op, shift_operand, f6_operand, inc_dec, ff_operand, indirect_branch}
use Rattle.cet_isa.specs.OpcodeMap as map
use Rattle.cet_isa.specs.PrefixedMap.{none, mandatory, lock, notrack, row}
use Rattle.cet_isa.specs.Form.{IsBytes, Form}
use Rattle.cet_isa.specs.Canonical.{fits, signed, unsigned, immediate, no_immediate, number, is_extended, fields, reg_field, register_or_memory, plain, in_opcode, with_modrm, is_wide, sized, no_bytes, accumulator, reg_and_rm, extension, short_or_long, alu_number, condition_number, shift_number, product_number, unary, shift, jump, conditional_jump, indirect, exchange, shadow_register, canonical}
use Rattle.cet_isa.proofs.Joins.{cons_bytes}
use Rattle.cet_isa.proofs.Fields.{low_small, number_register, unsigned_says, fields_middle}
use Rattle.cet_isa.proofs.Places.{choice}
use Rattle.cet_isa.proofs.Shapes.{row_of, walk, tested_bytes, IsEnd, ends_alone, ends_signed8, ends_signed32, ends_unsigned8, ends_immediate, IsOpcode, reg_rm_form, reg_memory_form, digit_form, digit_memory_form, digit_register_form, plain_form, in_opcode_form}

-- ---- rows with a register

-- the row of an opcode without prefix, where W is that
record IsRow (w : Bool) (opcode : List ℕ) (r : Row) : Type 0 where
  known : are_bytes opcode ≡ true
  at : (rex : Option ℕ) → rex_w rex ≡ w → row_of none rex opcode ≡ r

opcode_known : (opcode : List ℕ) → are_bytes opcode ≡ true → IsOpcode none opcode
opcode_known opcode known = record { is_prefix = tt; prefix_ok = refl; opcode_ok = known }

reg_rm : (w : Width) (opcode : List ℕ) (reg : Reg) (operand : Rm) (value : Reg → Rm → Insn) → IsRow (is_wide w) opcode (RegAndRm (is_byte w) (is_byte w) (λ x y. Alone (value x y)))
    → (b : List ℕ) → reg_and_rm w opcode reg operand ≡ Some b → Form (value reg operand) b
reg_rm w opcode reg operand value r b e =
    reg_rm_form none (is_wide w) opcode (opcode_known opcode r.known) (is_byte w) (is_byte w) reg operand no_immediate (value reg operand) (λ x y. Alone (value x y)) (λ rex. refl) r.at (ends_alone (value reg operand)) b e

mov : (w : Width) → IsRow (is_wide w) (sized 0x88 w ∷ []) (RegAndRm (is_byte w) (is_byte w) (λ src dst. Alone (Mov w dst src)))
mov B1 = record { known = refl; at = λ rex e. rw e refl }
mov B4 = record { known = refl; at = λ rex e. rw e refl }
mov B8 = record { known = refl; at = λ rex e. rw e refl }

mov_load : (w : Width) → IsRow (is_wide w) (sized 0x8A w ∷ []) (RegAndRm (is_byte w) (is_byte w) (λ dst src. Alone (MovLoad w dst src)))
mov_load B1 = record { known = refl; at = λ rex e. rw e refl }
mov_load B4 = record { known = refl; at = λ rex e. rw e refl }
mov_load B8 = record { known = refl; at = λ rex e. rw e refl }

test : (w : Width) → IsRow (is_wide w) (sized 0x84 w ∷ []) (RegAndRm (is_byte w) (is_byte w) (λ src dst. Alone (Test w dst src)))
test B1 = record { known = refl; at = λ rex e. rw e refl }
test B4 = record { known = refl; at = λ rex e. rw e refl }
test B8 = record { known = refl; at = λ rex e. rw e refl }

xchg : (w : Width) → IsRow (is_wide w) (sized 0x86 w ∷ []) (RegAndRm (is_byte w) (is_byte w) (λ src dst. Alone (Xchg w dst src)))
xchg B1 = record { known = refl; at = λ rex e. rw e refl }
xchg B4 = record { known = refl; at = λ rex e. rw e refl }
xchg B8 = record { known = refl; at = λ rex e. rw e refl }

movsxd : IsRow true (0x63 ∷ []) (RegAndRm false false (λ dst src. Alone (MovSxd dst src)))
movsxd = record { known = refl; at = λ rex e. rw e refl }

imul2 : (w : Width) → is_byte w ≡ false → IsRow (is_wide w) (0x0F ∷ 0xAF ∷ []) (RegAndRm (is_byte w) (is_byte w) (λ dst src. Alone (IMul2 w dst src)))
imul2 B1 f = absurd cc
imul2 B4 f = record { known = refl; at = λ rex e. rw e refl }
imul2 B8 f = record { known = refl; at = λ rex e. rw e refl }

movzx : (w : Width) → is_byte w ≡ false → IsRow (is_wide w) (0x0F ∷ 0xB6 ∷ []) (RegAndRm false true (λ dst src. Alone (MovZx w dst src)))
movzx B1 f = absurd cc
movzx B4 f = record { known = refl; at = λ rex e. rw e refl }
movzx B8 f = record { known = refl; at = λ rex e. rw e refl }

movsx : (w : Width) → is_byte w ≡ false → IsRow (is_wide w) (0x0F ∷ 0xBE ∷ []) (RegAndRm false true (λ dst src. Alone (MovSx w dst src)))
movsx B1 f = absurd cc
movsx B4 f = record { known = refl; at = λ rex e. rw e refl }
movsx B8 f = record { known = refl; at = λ rex e. rw e refl }

-- ADD to CMP: the four rows of an operation
record AluRows (op : AluOp) : Type 0 where
  known : (are_bytes (alu_number op * 8 ∷ []) ≡ true) × (are_bytes ((alu_number op * 8 + 1) ∷ []) ≡ true) × (are_bytes ((alu_number op * 8 + 2) ∷ []) ≡ true) × (are_bytes ((alu_number op * 8 + 2 + 1) ∷ []) ≡ true)
  store_byte : (rex : Option ℕ) → row none rex (alu_number op * 8) ≡ alu_row rex op 0
  store : (rex : Option ℕ) → row none rex (alu_number op * 8 + 1) ≡ alu_row rex op 1
  load_byte : (rex : Option ℕ) → row none rex (alu_number op * 8 + 2) ≡ alu_row rex op 2
  load : (rex : Option ℕ) → row none rex (alu_number op * 8 + 2 + 1) ≡ alu_row rex op 3
  below : alu_number op < 8
  plain : is_extended (alu_number op) ≡ false
  back : alu_op (alu_number op) ≡ op

alu_rows : (op : AluOp) → AluRows op
alu_rows Add = record { known = (refl, refl, refl, refl); store_byte = λ rex. refl; store = λ rex. refl; load_byte = λ rex. refl; load = λ rex. refl; below = omega arith; plain = refl; back = refl }
alu_rows Or = record { known = (refl, refl, refl, refl); store_byte = λ rex. refl; store = λ rex. refl; load_byte = λ rex. refl; load = λ rex. refl; below = omega arith; plain = refl; back = refl }
alu_rows Adc = record { known = (refl, refl, refl, refl); store_byte = λ rex. refl; store = λ rex. refl; load_byte = λ rex. refl; load = λ rex. refl; below = omega arith; plain = refl; back = refl }
alu_rows Sbb = record { known = (refl, refl, refl, refl); store_byte = λ rex. refl; store = λ rex. refl; load_byte = λ rex. refl; load = λ rex. refl; below = omega arith; plain = refl; back = refl }
alu_rows And = record { known = (refl, refl, refl, refl); store_byte = λ rex. refl; store = λ rex. refl; load_byte = λ rex. refl; load = λ rex. refl; below = omega arith; plain = refl; back = refl }
alu_rows Sub = record { known = (refl, refl, refl, refl); store_byte = λ rex. refl; store = λ rex. refl; load_byte = λ rex. refl; load = λ rex. refl; below = omega arith; plain = refl; back = refl }
alu_rows Xor = record { known = (refl, refl, refl, refl); store_byte = λ rex. refl; store = λ rex. refl; load_byte = λ rex. refl; load = λ rex. refl; below = omega arith; plain = refl; back = refl }
alu_rows Cmp = record { known = (refl, refl, refl, refl); store_byte = λ rex. refl; store = λ rex. refl; load_byte = λ rex. refl; load = λ rex. refl; below = omega arith; plain = refl; back = refl }

alu : (op : AluOp) (w : Width) → IsRow (is_wide w) (sized (alu_number op * 8) w ∷ []) (RegAndRm (is_byte w) (is_byte w) (λ src dst. Alone (Alu op w dst src)))
alu op B1 = record { known = (alu_rows op).known.0; at = λ rex e. (alu_rows op).store_byte rex ∙ rw e refl }
alu op B4 = record { known = (alu_rows op).known.1; at = λ rex e. (alu_rows op).store rex ∙ rw e refl }
alu op B8 = record { known = (alu_rows op).known.1; at = λ rex e. (alu_rows op).store rex ∙ rw e refl }

alu_load : (op : AluOp) (w : Width) → IsRow (is_wide w) (sized (alu_number op * 8 + 2) w ∷ []) (RegAndRm (is_byte w) (is_byte w) (λ dst src. Alone (AluLoad op w dst src)))
alu_load op B1 = record { known = (alu_rows op).known.2; at = λ rex e. (alu_rows op).load_byte rex ∙ rw e refl }
alu_load op B4 = record { known = (alu_rows op).known.3; at = λ rex e. (alu_rows op).load rex ∙ rw e refl }
alu_load op B8 = record { known = (alu_rows op).known.3; at = λ rex e. (alu_rows op).load rex ∙ rw e refl }

lea : (w : Width) → is_byte w ≡ false → IsRow (is_wide w) (0x8D ∷ []) (RegAndMemory (is_byte w) (λ dst mem. Alone (Lea w dst mem)))
lea B1 f = absurd cc
lea B4 f = record { known = refl; at = λ rex e. rw e refl }
lea B8 f = record { known = refl; at = λ rex e. rw e refl }

wrss : IsRow true (0x0F ∷ 0x38 ∷ 0xF6 ∷ []) (RegAndMemory false (λ src mem. Alone (WrSs mem src)))
wrss = record { known = refl; at = λ rex e. ap (λ (t : Bool). walk (if t then Escape (map.three_byte rex) else NoRow) (0xF6 ∷ [])) e }

imul3_short : (w : Width) → is_byte w ≡ false → IsRow (is_wide w) (0x6B ∷ []) (RegAndRm false false (λ dst src. Signed8 (λ z. IMul3 w dst src z)))
imul3_short B1 f = absurd cc
imul3_short B4 f = record { known = refl; at = λ rex e. rw e refl }
imul3_short B8 f = record { known = refl; at = λ rex e. rw e refl }

imul3_long : (w : Width) → is_byte w ≡ false → IsRow (is_wide w) (0x69 ∷ []) (RegAndRm false false (λ dst src. Signed32 (λ z. IMul3 w dst src z)))
imul3_long B1 f = absurd cc
imul3_long B4 f = record { known = refl; at = λ rex e. rw e refl }
imul3_long B8 f = record { known = refl; at = λ rex e. rw e refl }

-- ---- rows with an extension of the opcode

-- where R is 0 too
record IsGroup (w : Bool) (opcode : List ℕ) (f : ℕ → Operand) : Type 0 where
  known : are_bytes opcode ≡ true
  at : (rex : Option ℕ) → rex_w rex ≡ w → rex_r rex ≡ false → row_of none rex opcode ≡ ModRm (λ modrm. f (middle_field modrm))

record IsDigit (n : ℕ) : Type 0 where
  below : n < 8
  plain : is_extended n ≡ false

extended_by : (w : Width) (opcode : List ℕ) (n : ℕ) (operand : Rm) (bytes : Option (List ℕ)) (i : Insn) (f : ℕ → Operand) (end : Rm → End) → IsDigit n → IsGroup (is_wide w) opcode f → f n ≡ RegisterOrMemory (is_byte w) end → IsEnd bytes (end operand) i
    → (b : List ℕ) → extension w opcode n operand bytes ≡ Some b → Form i b
extended_by w opcode n operand bytes i f end d g is_operand ends b e =
    digit_form none (is_wide w) opcode (opcode_known opcode g.known) n (is_byte w) operand bytes i f end d.below d.plain (λ rex x y. refl) g.at is_operand ends b e

only_digit : (n : ℕ) → n < 8 → is_extended n ≡ false → IsDigit n
only_digit n below plain = record { below = below; plain = plain }

mov_imm : (w : Width) → IsGroup (is_wide w) (sized 0xC6 w ∷ []) (λ field. if field == 0 then RegisterOrMemory (is_byte w) (λ dst. map.immediate w (λ z. MovImm w dst z)) else NoOperand)
mov_imm B1 = record { known = refl; at = λ rex e r. rw (e, r) refl }
mov_imm B4 = record { known = refl; at = λ rex e r. rw (e, r) refl }
mov_imm B8 = record { known = refl; at = λ rex e r. rw (e, r) refl }

f6 : (w : Width) → IsGroup (is_wide w) (sized 0xF6 w ∷ []) (f6_operand w)
f6 B1 = record { known = refl; at = λ rex e r. rw (e, r) refl }
f6 B4 = record { known = refl; at = λ rex e r. rw (e, r) refl }
f6 B8 = record { known = refl; at = λ rex e r. rw (e, r) refl }

f7 : (w : Width) → is_byte w ≡ false → IsGroup (is_wide w) (0xF7 ∷ []) (f6_operand w)
f7 B1 f = absurd cc
f7 B4 f = f6 B4
f7 B8 f = f6 B8

-- FE and FF have INC and DEC as /0 and /1
inc_or_dec : (w : Width) → (f : ℕ → Operand) × IsGroup (is_wide w) (sized 0xFE w ∷ []) f × (f 0 ≡ inc_dec w 0) × (f 1 ≡ inc_dec w 1)
inc_or_dec B1 = (inc_dec B1, record { known = refl; at = λ rex e r. rw (e, r) refl }, refl, refl)
inc_or_dec B4 = ((λ field. ff_operand None field), record { known = refl; at = λ rex e r. rw (r, e) refl }, refl, refl)
inc_or_dec B8 = ((λ field. if nat_lt field 2 then inc_dec B8 field else NoOperand), record { known = refl; at = λ rex e r. rw (r, e) refl }, refl, refl)

alu_byte : IsGroup false (0x80 ∷ []) (λ field. RegisterOrMemory true (λ dst. Signed8 (λ z. AluImm (alu_op field) B1 dst z)))
alu_byte = record { known = refl; at = λ rex e r. rw (e, r) refl }

alu_short : (w : Width) → is_byte w ≡ false → IsGroup (is_wide w) (0x83 ∷ []) (λ field. RegisterOrMemory (is_byte w) (λ dst. Signed8 (λ z. AluImm (alu_op field) w dst z)))
alu_short B1 f = absurd cc
alu_short B4 f = record { known = refl; at = λ rex e r. rw (r, e) refl }
alu_short B8 f = record { known = refl; at = λ rex e r. rw (r, e) refl }

alu_long : (w : Width) → is_byte w ≡ false → IsGroup (is_wide w) (0x81 ∷ []) (λ field. RegisterOrMemory (is_byte w) (λ dst. Signed32 (λ z. AluImm (alu_op field) w dst z)))
alu_long B1 f = absurd cc
alu_long B4 f = record { known = refl; at = λ rex e r. rw (r, e) refl }
alu_long B8 f = record { known = refl; at = λ rex e r. rw (r, e) refl }

-- SHL and so on: C0, D0 and D2
shift_constant : (w : Width) → IsGroup (is_wide w) (sized 0xC0 w ∷ []) (λ field. shift_operand w (λ f. Unsigned8 (λ n. f (count.Imm n))) (shift_op field))
shift_constant B1 = record { known = refl; at = λ rex e r. rw (e, r) refl }
shift_constant B4 = record { known = refl; at = λ rex e r. rw (e, r) refl }
shift_constant B8 = record { known = refl; at = λ rex e r. rw (e, r) refl }

shift_one : (w : Width) → IsGroup (is_wide w) (sized 0xD0 w ∷ []) (λ field. shift_operand w (λ f. Alone (f (count.Imm 1))) (shift_op field))
shift_one B1 = record { known = refl; at = λ rex e r. rw (e, r) refl }
shift_one B4 = record { known = refl; at = λ rex e r. rw (e, r) refl }
shift_one B8 = record { known = refl; at = λ rex e r. rw (e, r) refl }

shift_by_cl : (w : Width) → IsGroup (is_wide w) (sized 0xD2 w ∷ []) (λ field. shift_operand w (λ f. Alone (f count.Cl)) (shift_op field))
shift_by_cl B1 = record { known = refl; at = λ rex e r. rw (e, r) refl }
shift_by_cl B4 = record { known = refl; at = λ rex e r. rw (e, r) refl }
shift_by_cl B8 = record { known = refl; at = λ rex e r. rw (e, r) refl }

record IsShift (op : ShiftOp) : Type 0 where
  digit : IsDigit (shift_number op)
  back : shift_op (shift_number op) ≡ Some op

shifts : (op : ShiftOp) → IsShift op
shifts Rol = record { digit = only_digit 0 (omega arith) refl; back = refl }
shifts Ror = record { digit = only_digit 1 (omega arith) refl; back = refl }
shifts Shl = record { digit = only_digit 4 (omega arith) refl; back = refl }
shifts Shr = record { digit = only_digit 5 (omega arith) refl; back = refl }
shifts Sar = record { digit = only_digit 7 (omega arith) refl; back = refl }

record IsProduct (op : MulDivOp) : Type 0 where
  digit : IsDigit (product_number op)
  operand : (w : Width) → is_byte w ≡ false → f6_operand w (product_number op) ≡ RegisterOrMemory (is_byte w) (λ src. Alone (MulDiv op w src))

not_a_byte : (P : Width → Type 0) → P B4 → P B8 → (w : Width) → is_byte w ≡ false → P w
not_a_byte P p q B4 f = p
not_a_byte P p q B8 f = q
not_a_byte P p q B1 f = absurd cc

products : (op : MulDivOp) → IsProduct op
products Mul = record { digit = only_digit 4 (omega arith) refl; operand = not_a_byte (λ w. f6_operand w 4 ≡ RegisterOrMemory (is_byte w) (λ src. Alone (MulDiv Mul w src))) refl refl }
products IMul1 = record { digit = only_digit 5 (omega arith) refl; operand = not_a_byte (λ w. f6_operand w 5 ≡ RegisterOrMemory (is_byte w) (λ src. Alone (MulDiv IMul1 w src))) refl refl }
products Div = record { digit = only_digit 6 (omega arith) refl; operand = not_a_byte (λ w. f6_operand w 6 ≡ RegisterOrMemory (is_byte w) (λ src. Alone (MulDiv Div w src))) refl refl }
products IDiv = record { digit = only_digit 7 (omega arith) refl; operand = not_a_byte (λ w. f6_operand w 7 ≡ RegisterOrMemory (is_byte w) (λ src. Alone (MulDiv IDiv w src))) refl refl }

-- ---- conditions

record ConditionRows (c : Cond) : Type 0 where
  known : (are_bytes ((0x70 + condition_number c) ∷ []) ≡ true) × (are_bytes (0x0F ∷ (0x80 + condition_number c) ∷ []) ≡ true) × (are_bytes (0x0F ∷ (0x90 + condition_number c) ∷ []) ≡ true) × (are_bytes (0x0F ∷ (0x40 + condition_number c) ∷ []) ≡ true)
  short : row_of none None ((0x70 + condition_number c) ∷ []) ≡ Ends (Signed8 (λ z. Jcc c (S z)))
  long : row_of none None (0x0F ∷ (0x80 + condition_number c) ∷ []) ≡ Ends (Signed32 (λ z. Jcc c (L z)))
  set : (rex : Option ℕ) → row_of none rex (0x0F ∷ (0x90 + condition_number c) ∷ []) ≡ map.narrow rex (map.extension rex 0 (RegisterOrMemory true (λ dst. Alone (SetCc c dst))))
  move : (rex : Option ℕ) → row_of none rex (0x0F ∷ (0x40 + condition_number c) ∷ []) ≡ RegAndRm false false (λ dst src. Alone (CMov c (map.full_width rex) dst src))

condition_rows : (c : Cond) → ConditionRows c
condition_rows cond.O = record { known = (refl, refl, refl, refl); short = refl; long = refl; set = λ rex. refl; move = λ rex. refl }
condition_rows cond.No = record { known = (refl, refl, refl, refl); short = refl; long = refl; set = λ rex. refl; move = λ rex. refl }
condition_rows cond.B = record { known = (refl, refl, refl, refl); short = refl; long = refl; set = λ rex. refl; move = λ rex. refl }
condition_rows cond.Ae = record { known = (refl, refl, refl, refl); short = refl; long = refl; set = λ rex. refl; move = λ rex. refl }
condition_rows cond.E = record { known = (refl, refl, refl, refl); short = refl; long = refl; set = λ rex. refl; move = λ rex. refl }
condition_rows cond.Ne = record { known = (refl, refl, refl, refl); short = refl; long = refl; set = λ rex. refl; move = λ rex. refl }
condition_rows cond.Be = record { known = (refl, refl, refl, refl); short = refl; long = refl; set = λ rex. refl; move = λ rex. refl }
condition_rows cond.A = record { known = (refl, refl, refl, refl); short = refl; long = refl; set = λ rex. refl; move = λ rex. refl }
condition_rows cond.S = record { known = (refl, refl, refl, refl); short = refl; long = refl; set = λ rex. refl; move = λ rex. refl }
condition_rows cond.Ns = record { known = (refl, refl, refl, refl); short = refl; long = refl; set = λ rex. refl; move = λ rex. refl }
condition_rows cond.L = record { known = (refl, refl, refl, refl); short = refl; long = refl; set = λ rex. refl; move = λ rex. refl }
condition_rows cond.Ge = record { known = (refl, refl, refl, refl); short = refl; long = refl; set = λ rex. refl; move = λ rex. refl }
condition_rows cond.Le = record { known = (refl, refl, refl, refl); short = refl; long = refl; set = λ rex. refl; move = λ rex. refl }
condition_rows cond.G = record { known = (refl, refl, refl, refl); short = refl; long = refl; set = λ rex. refl; move = λ rex. refl }

set : (c : Cond) → IsGroup false (0x0F ∷ (0x90 + condition_number c) ∷ []) (λ field. if field == 0 then RegisterOrMemory true (λ dst. Alone (SetCc c dst)) else NoOperand)
set c = record { known = (condition_rows c).known.2; at = λ rex e r. (condition_rows c).set rex ∙ rw (e, r) refl }

cmov : (c : Cond) (w : Width) → is_byte w ≡ false → IsRow (is_wide w) (0x0F ∷ (0x40 + condition_number c) ∷ []) (RegAndRm (is_byte w) (is_byte w) (λ dst src. Alone (CMov c w dst src)))
cmov c B1 f = absurd cc
cmov c B4 f = record { known = (condition_rows c).known.3; at = λ rex e. (condition_rows c).move rex ∙ rw e refl }
cmov c B8 f = record { known = (condition_rows c).known.3; at = λ rex e. (condition_rows c).move rex ∙ rw e refl }

-- ---- registers in the opcode

each_field : (P : ℕ → Type 0) → P 0 → P 1 → P 2 → P 3 → P 4 → P 5 → P 6 → P 7 → (n : ℕ) → n < 8 → P n
each_field P a b c d e f g h zero lt = a
each_field P a b c d e f g h (suc zero) lt = b
each_field P a b c d e f g h (suc (suc zero)) lt = c
each_field P a b c d e f g h (suc (suc (suc zero))) lt = d
each_field P a b c d e f g h (suc (suc (suc (suc zero)))) lt = e
each_field P a b c d e f g h (suc (suc (suc (suc (suc zero))))) lt = f
each_field P a b c d e f g h (suc (suc (suc (suc (suc (suc zero)))))) lt = g
each_field P a b c d e f g h (suc (suc (suc (suc (suc (suc (suc zero))))))) lt = h
each_field P a b c d e f g h (suc (suc (suc (suc (suc (suc (suc (suc n)))))))) lt = absurd (omega arith)

-- a register of this field and bit B
abbrev named : Option ℕ → ℕ → Reg
named rex field = register (extended (rex_b rex) field)

-- what `in_opcode` of the map comes to, where R and X have no bit
abbrev unless_used : Option ℕ → Row → Row
unless_used rex r = if rex_r rex || rex_x rex then NoRow else r

push_row : (rex : Option ℕ) (field : ℕ) → field < 8 → row none rex (0x50 + field) ≡ map.narrow rex (unless_used rex (Ends (Alone (Push (named rex field)))))
push_row rex = each_field (λ field. row none rex (0x50 + field) ≡ map.narrow rex (unless_used rex (Ends (Alone (Push (named rex field)))))) refl refl refl refl refl refl refl refl

pop_row : (rex : Option ℕ) (field : ℕ) → field < 8 → row none rex (0x58 + field) ≡ map.narrow rex (unless_used rex (Ends (Alone (Pop (named rex field)))))
pop_row rex = each_field (λ field. row none rex (0x58 + field) ≡ map.narrow rex (unless_used rex (Ends (Alone (Pop (named rex field)))))) refl refl refl refl refl refl refl refl

constant_byte_row : (rex : Option ℕ) (field : ℕ) → field < 8
    → row none rex (0xB0 + field) ≡ unless_used rex (map.narrow rex (if names_register rex true field then Constant B1 (λ n. MovAbs B1 (named rex field) n) else NoRow))
constant_byte_row rex = each_field (λ field. row none rex (0xB0 + field) ≡ unless_used rex (map.narrow rex (if names_register rex true field then Constant B1 (λ n. MovAbs B1 (named rex field) n) else NoRow)))
    refl refl refl refl refl refl refl refl

constant_row : (rex : Option ℕ) (field : ℕ) → field < 8
    → row none rex (0xB8 + field) ≡ unless_used rex (if rex_w rex then Constant B8 (λ n. MovAbs B8 (named rex field) n) else Constant B4 (λ n. MovAbs B4 (named rex field) n))
constant_row rex = each_field (λ field. row none rex (0xB8 + field) ≡ unless_used rex (if rex_w rex then Constant B8 (λ n. MovAbs B8 (named rex field) n) else Constant B4 (λ n. MovAbs B4 (named rex field) n)))
    refl refl refl refl refl refl refl refl

small_opcode : (opcode field : ℕ) → opcode + field < 256 → are_bytes ((opcode + field) ∷ []) ≡ true
small_opcode opcode field lt = rw (lt-ltb _ _ lt) refl

push_form : (src : Reg) (b : List ℕ) → in_opcode false 0x50 false src no_immediate ≡ Some b → Form (Push src) b
push_form src b e =
    let field = low_field (number src) in
    let small = low_small (number src) in
    in_opcode_form false 0x50 false src no_immediate (Push src) (Ends (Alone (Push src))) (small_opcode 0x50 field (omega arith))
    (λ rex w r x bit is. push_row rex field small ∙ rw (w, r, x, bit, number_register src) refl) (λ rex c h. (ends_alone (Push src)).at c h) b e

pop_form : (dst : Reg) (b : List ℕ) → in_opcode false 0x58 false dst no_immediate ≡ Some b → Form (Pop dst) b
pop_form dst b e =
    let field = low_field (number dst) in
    let small = low_small (number dst) in
    in_opcode_form false 0x58 false dst no_immediate (Pop dst) (Ends (Alone (Pop dst))) (small_opcode 0x58 field (omega arith))
    (λ rex w r x bit is. pop_row rex field small ∙ rw (w, r, x, bit, number_register dst) refl) (λ rex c h. (ends_alone (Pop dst)).at c h) b e

-- the constant of that width
constant_bytes : (w : Width) (dst : Reg) (n : ℕ) (rex : Option ℕ) (b : List ℕ) → unsigned (number_width w) n ≡ Some b → IsBytes b × RowBytes rex (Constant w (λ n. MovAbs w dst n)) (MovAbs w dst n) b
constant_bytes w dst n rex b e = let s = unsigned_says w n b e in (s.is_bytes, (n, s.says, refl))

constant_form : (w : Width) (dst : Reg) (n : ℕ) (b : List ℕ) → in_opcode (is_wide w) (if is_byte w then 0xB0 else 0xB8) (is_byte w) dst (unsigned (number_width w) n) ≡ Some b → Form (MovAbs w dst n) b
constant_form B1 dst n b e =
    let field = low_field (number dst) in
    let small = low_small (number dst) in
    in_opcode_form false 0xB0 true dst (unsigned (number_width B1) n) (MovAbs B1 dst n) (Constant B1 (λ n. MovAbs B1 dst n)) (small_opcode 0xB0 field (omega arith))
    (λ rex w r x bit is. constant_byte_row rex field small ∙ rw (w, r, x, is, bit, number_register dst) refl) (λ rex c h. constant_bytes B1 dst n rex c h) b e
constant_form B4 dst n b e =
    let field = low_field (number dst) in
    let small = low_small (number dst) in
    in_opcode_form false 0xB8 false dst (unsigned (number_width B4) n) (MovAbs B4 dst n) (Constant B4 (λ n. MovAbs B4 dst n)) (small_opcode 0xB8 field (omega arith))
    (λ rex w r x bit is. constant_row rex field small ∙ rw (w, r, x, bit, number_register dst) refl) (λ rex c h. constant_bytes B4 dst n rex c h) b e
constant_form B8 dst n b e =
    let field = low_field (number dst) in
    let small = low_small (number dst) in
    in_opcode_form true 0xB8 false dst (unsigned (number_width B8) n) (MovAbs B8 dst n) (Constant B8 (λ n. MovAbs B8 dst n)) (small_opcode 0xB8 field (omega arith))
    (λ rex w r x bit is. constant_row rex field small ∙ rw (w, r, x, bit, number_register dst) refl) (λ rex c h. constant_bytes B8 dst n rex c h) b e

-- ---- behind a prefix

-- CMPXCHG and XADD
record IsExchange (is_lock : Bool) (w : Width) (opcode : ℕ) (value : Reg → Mem → Insn) : Type 0 where
  known : are_bytes (0x0F ∷ sized opcode w ∷ []) ≡ true
  at : (rex : Option ℕ) → rex_w rex ≡ is_wide w → row_of (if is_lock then lock else none) rex (0x0F ∷ sized opcode w ∷ []) ≡ RegAndMemory (is_byte w) (λ src dst. Alone (value src dst))

cmpxchg : (is_lock : Bool) (w : Width) → IsExchange is_lock w 0xB0 (λ src dst. CmpXchg w dst src is_lock)
cmpxchg true B1 = record { known = refl; at = λ rex e. rw e refl }
cmpxchg true B4 = record { known = refl; at = λ rex e. rw e refl }
cmpxchg true B8 = record { known = refl; at = λ rex e. rw e refl }
cmpxchg false B1 = record { known = refl; at = λ rex e. rw e refl }
cmpxchg false B4 = record { known = refl; at = λ rex e. rw e refl }
cmpxchg false B8 = record { known = refl; at = λ rex e. rw e refl }

xadd : (is_lock : Bool) (w : Width) → IsExchange is_lock w 0xC0 (λ src dst. XAdd w dst src is_lock)
xadd true B1 = record { known = refl; at = λ rex e. rw e refl }
xadd true B4 = record { known = refl; at = λ rex e. rw e refl }
xadd true B8 = record { known = refl; at = λ rex e. rw e refl }
xadd false B1 = record { known = refl; at = λ rex e. rw e refl }
xadd false B4 = record { known = refl; at = λ rex e. rw e refl }
xadd false B8 = record { known = refl; at = λ rex e. rw e refl }

exchange_form : (is_lock : Bool) (w : Width) (opcode : ℕ) (dst : Mem) (src : Reg) (value : Reg → Mem → Insn) → IsExchange is_lock w opcode value → (b : List ℕ) → exchange is_lock w opcode dst src ≡ Some b → Form (value src dst) b
exchange_form true w opcode dst src value x b e =
    reg_memory_form lock (is_wide w) (0x0F ∷ sized opcode w ∷ []) (record { is_prefix = tt; prefix_ok = refl; opcode_ok = x.known }) (is_byte w) src dst no_immediate (value src dst) (λ y z. Alone (value y z)) (λ rex. refl) x.at (ends_alone (value src dst)) b e
exchange_form false w opcode dst src value x b e =
    reg_memory_form none (is_wide w) (0x0F ∷ sized opcode w ∷ []) (opcode_known _ x.known) (is_byte w) src dst no_immediate (value src dst) (λ y z. Alone (value y z)) (λ rex. refl) x.at (ends_alone (value src dst)) b e

-- CALL and JMP: the operand of a digit, with NOTRACK or without
record IsIndirect (is_notrack : Bool) (n : ℕ) (value : Rm → Insn) : Type 0 where
  digit : IsDigit n
  tracked : is_notrack ≡ false → ff_operand None n ≡ RegisterOrMemory false (λ target. Alone (value target))
  untracked : is_notrack ≡ true → indirect_branch true n ≡ RegisterOrMemory false (λ target. Alone (value target))

indirect_form : (is_notrack : Bool) (n : ℕ) (target : Rm) (value : Rm → Insn) → IsIndirect is_notrack n value → (b : List ℕ) → indirect is_notrack n target ≡ Some b → Form (value target) b
indirect_form true n target value x b e =
    digit_form notrack false (0xFF ∷ []) (record { is_prefix = tt; prefix_ok = refl; opcode_ok = refl }) n false target no_immediate (value target) (indirect_branch true) (λ target. Alone (value target)) x.digit.below x.digit.plain
    (λ rex w r. rw (r, w) refl) (λ rex w r. rw (w, r) refl) (x.untracked refl) (ends_alone (value target)) b e
indirect_form false n target value x b e =
    digit_form none false (0xFF ∷ []) (opcode_known (0xFF ∷ []) refl) n false target no_immediate (value target) (ff_operand None) (λ target. Alone (value target)) x.digit.below x.digit.plain
    (λ rex w r. refl) (λ rex w r. rw (r, w) refl) (x.tracked refl) (ends_alone (value target)) b e

shadow_form : (opcode n : ℕ) (reg : Reg) (value : Reg → Insn) → IsDigit n → are_bytes (0x0F ∷ opcode ∷ []) ≡ true
    → ((rex : Option ℕ) → rex_w rex ≡ true → rex_r rex ≡ false → row_of mandatory rex (0x0F ∷ opcode ∷ []) ≡ ModRm (λ modrm. if middle_field modrm == n then Register (λ x. Alone (value x)) else NoOperand))
    → (n == n) ≡ true → (b : List ℕ) → shadow_register opcode n reg ≡ Some b → Form (value reg) b
shadow_form opcode n reg value d known is_row same b e =
    digit_register_form mandatory true (0x0F ∷ opcode ∷ []) (record { is_prefix = tt; prefix_ok = refl; opcode_ok = known }) n reg no_immediate (value reg) (λ field. if field == n then Register (λ x. Alone (value x)) else NoOperand)
    (λ x. Alone (value x)) d.below d.plain (λ rex w r x. rw (r, w, x) refl) is_row (rw same refl) (ends_alone (value reg)) b e

-- RDSSPQ stands behind REX.W, so behind a REX
read_row : (rex : Option ℕ) → rex_w rex ≡ true → rex_r rex ≡ false → row_of mandatory rex (0x0F ∷ 0x1E ∷ []) ≡ ModRm (λ modrm. if middle_field modrm == 1 then Register (λ x. Alone (RdSsp x)) else NoOperand)
read_row None w r = absurd cc
read_row (Some byte) w r = rw (w, r) refl

increment_row : (rex : Option ℕ) → rex_w rex ≡ true → rex_r rex ≡ false → row_of mandatory rex (0x0F ∷ 0xAE ∷ []) ≡ ModRm (λ modrm. if middle_field modrm == 5 then Register (λ x. Alone (IncSsp x)) else NoOperand)
increment_row rex w r = rw (w, r) refl

-- RSTORSSP: memory's mod is not 3, so its ModRM byte is not that of SAVEPREVSSP
restore_row : (rex : Option ℕ) → rex_w rex ≡ false → rex_r rex ≡ false
    → (f : ℕ → Operand) × (row_of mandatory rex (0x0F ∷ 0x01 ∷ []) ≡ ModRm f) × ((mode low : ℕ) → mode < 3 → low < 8 → f (fields mode 5 low) ≡ Memory (λ mem. Alone (RstorSsp mem)))
restore_row None w r = (
  (λ modrm. if modrm == 0xEA then NoMore SavePrevSsp else if middle_field modrm == 5 then Memory (λ mem. Alone (RstorSsp mem)) else NoOperand),
  refl,
  (λ mode low p q. rw (ne_eqb (fields mode 5 low) 0xEA (omega arith), fields_middle mode 5 low (omega arith) q) refl),
)
restore_row (Some byte) w r = (
  (λ modrm. if middle_field modrm == 5 then Memory (λ mem. Alone (RstorSsp mem)) else NoOperand),
  rw (w, r) refl,
  (λ mode low p q. rw (fields_middle mode 5 low (omega arith) q) refl),
)

push_memory_row : (rex : Option ℕ) → rex_w rex ≡ false → rex_r rex ≡ false
    → (f : ℕ → Operand) × (row_of none rex (0xFF ∷ []) ≡ ModRm f) × ((mode low : ℕ) → mode < 3 → low < 8 → f (fields mode 6 low) ≡ Memory (λ mem. Alone (PushMem mem)))
push_memory_row rex w r = ((λ modrm. ff_operand None (middle_field modrm)), rw (r, w) refl, (λ mode low p q. rw (fields_middle mode 6 low (omega arith) q) refl))

-- ---- value by value

-- a value of 32 and 64 bits alone
full : (w : Width) (o : Option (List ℕ)) (b : List ℕ) → no_bytes w o ≡ Some b → (is_byte w ≡ false) × (o ≡ Some b)
full B1 o b e = absurd cc
full B4 o b e = (refl, e)
full B8 o b e = (refl, e)

-- the encoding that was taken
taken : (z : ℤ) (short long : ℕ) (encoding : List ℕ → Option (List ℕ) → Option (List ℕ)) (b : List ℕ) (C : Type 0)
    → (encoding (short ∷ []) (signed w8 z) ≡ Some b → C) → (encoding (long ∷ []) (signed w32 z) ≡ Some b → C) → short_or_long short long z encoding ≡ Some b → C
taken z short long encoding b C p q e = elim (choice (fits w8 z) _ _ (Some b) e) [ inl c ↦ p c.1 | inr c ↦ q c.1 ]

literal : (i : Insn) (opcode : List ℕ) (b : List ℕ) → are_bytes opcode ≡ true → row_of none None opcode ≡ Ends (Alone i) → Some opcode ≡ Some b → Form i b
literal i opcode b known is_row e = plain_form opcode no_immediate i (Alone i) known is_row (ends_alone i) b (ap Some (append-nil opcode) ∙ e)

-- behind F3
mandatory_literal : (i : Insn) (opcode : ℕ) (operands b : List ℕ) → are_bytes (0xF3 ∷ opcode ∷ operands) ≡ true → RowBytes None (row mandatory None opcode) i operands → ◌≡◌ {A = Option (List ℕ)} (Some (0xF3 ∷ opcode ∷ operands)) (Some b) → Form i b
mandatory_literal i opcode operands b known r e =
    subst (λ (l : List ℕ). Form i l) (same_Some (0xF3 ∷ opcode ∷ operands) b e)
    (record { prefix = mandatory; rex = None; opcode = opcode; operands = operands; whole = refl; is_bytes = tested_bytes (0xF3 ∷ opcode ∷ operands) known; is_prefix = tt; is_rex = tt; row_bytes = r })

accumulator_form : (w : Width) (opcode : ℕ) (value : Width → Insn) (b : List ℕ) → are_bytes (opcode ∷ []) ≡ true → ((rex : Option ℕ) → row none rex opcode ≡ map.accumulator rex (λ w. Alone (value w))) → accumulator w opcode ≡ Some b → Form (value w) b
accumulator_form B1 opcode value b known is_row e = absurd cc
accumulator_form B4 opcode value b known is_row e = plain_form (opcode ∷ []) no_immediate (value B4) (Alone (value B4)) known (is_row None) (ends_alone (value B4)) b e
accumulator_form B8 opcode value b known is_row e =
    let r : RowBytes (Some 0x48) (row none (Some 0x48) opcode) (value B8) [] = subst (λ (r : Row). RowBytes (Some 0x48) r (value B8) []) (sym (is_row (Some 0x48))) (refl, refl) in
    subst (λ (l : List ℕ). Form (value B8) l) (same_Some (0x48 ∷ opcode ∷ []) b e)
    (record { prefix = none; rex = Some 0x48; opcode = opcode; operands = []; whole = refl; is_bytes = cons_bytes 0x48 (opcode ∷ []) (omega arith) (tested_bytes (opcode ∷ []) known); is_prefix = tt; is_rex = (refl, refl); row_bytes = r })

unary_form : (op : UnOp) (w : Width) (dst : Rm) (b : List ℕ) → unary op w dst ≡ Some b → Form (Unary op w dst) b
unary_form Inc w dst b e = let g = inc_or_dec w in extended_by w (sized 0xFE w ∷ []) 0 dst no_immediate (Unary Inc w dst) g.0 (λ dst. Alone (Unary Inc w dst)) (only_digit 0 (omega arith) refl) g.1 g.2 (ends_alone (Unary Inc w dst)) b e
unary_form Dec w dst b e = let g = inc_or_dec w in extended_by w (sized 0xFE w ∷ []) 1 dst no_immediate (Unary Dec w dst) g.0 (λ dst. Alone (Unary Dec w dst)) (only_digit 1 (omega arith) refl) g.1 g.3 (ends_alone (Unary Dec w dst)) b e
unary_form Not w dst b e = extended_by w (sized 0xF6 w ∷ []) 2 dst no_immediate (Unary Not w dst) (f6_operand w) (λ dst. Alone (Unary Not w dst)) (only_digit 2 (omega arith) refl) (f6 w) refl (ends_alone (Unary Not w dst)) b e
unary_form Neg w dst b e = extended_by w (sized 0xF6 w ∷ []) 3 dst no_immediate (Unary Neg w dst) (f6_operand w) (λ dst. Alone (Unary Neg w dst)) (only_digit 3 (omega arith) refl) (f6 w) refl (ends_alone (Unary Neg w dst)) b e

shift_digit : (op : ShiftOp) (w : Width) (dst : Rm) (n : ShiftCount) (opcode : ℕ) (bytes : Option (List ℕ)) (end : (ShiftCount → Insn) → End) → IsGroup (is_wide w) (sized opcode w ∷ []) (λ field. shift_operand w end (shift_op field))
    → IsEnd bytes (end (λ n. Shift op w dst n)) (Shift op w dst n) → (b : List ℕ) → extension w (sized opcode w ∷ []) (shift_number op) dst bytes ≡ Some b → Form (Shift op w dst n) b
shift_digit op w dst n opcode bytes end g ends b e =
    extended_by w (sized opcode w ∷ []) (shift_number op) dst bytes (Shift op w dst n) (λ field. shift_operand w end (shift_op field)) (λ dst. end (λ n. Shift op w dst n)) (shifts op).digit g (ap (shift_operand w end) (shifts op).back) ends b e

shift_form : (op : ShiftOp) (w : Width) (dst : Rm) (n : ShiftCount) (b : List ℕ) → shift op w dst n ≡ Some b → Form (Shift op w dst n) b
shift_form op w dst count.Cl b e = shift_digit op w dst count.Cl 0xD2 no_immediate (λ f. Alone (f count.Cl)) (shift_by_cl w) (ends_alone (Shift op w dst count.Cl)) b e
shift_form op w dst (count.Imm n) b e =
    elim (choice (n == 1) _ _ (Some b) e) [
      | inl c ↦
          let one : IsEnd no_immediate (Alone (Shift op w dst (count.Imm 1))) (Shift op w dst (count.Imm n)) =
          subst (λ (m : ℕ). IsEnd no_immediate (Alone (Shift op w dst (count.Imm 1))) (Shift op w dst (count.Imm m))) (sym (eqb-true n 1 c.0)) (ends_alone (Shift op w dst (count.Imm 1))) in
          shift_digit op w dst (count.Imm n) 0xD0 no_immediate (λ f. Alone (f (count.Imm 1))) (shift_one w) one b c.1
      | inr c ↦ shift_digit op w dst (count.Imm n) 0xC0 (unsigned w8 n) (λ f. Unsigned8 (λ n. f (count.Imm n))) (shift_constant w) (ends_unsigned8 (λ n. Shift op w dst (count.Imm n)) n) b c.1
    ]

jump_form : (rel : Rel) (b : List ℕ) → jump rel ≡ Some b → Form (Jmp rel) b
jump_form (S z) b e = plain_form (0xEB ∷ []) (signed w8 z) (Jmp (S z)) (Signed8 (λ z. Jmp (S z))) refl refl (ends_signed8 (λ z. Jmp (S z)) z) b e
jump_form (L z) b e = plain_form (0xE9 ∷ []) (signed w32 z) (Jmp (L z)) (Signed32 (λ z. Jmp (L z))) refl refl (ends_signed32 (λ z. Jmp (L z)) z) b e

conditional_jump_form : (c : Cond) (rel : Rel) (b : List ℕ) → conditional_jump c rel ≡ Some b → Form (Jcc c rel) b
conditional_jump_form c (S z) b e = let rows = condition_rows c in plain_form ((0x70 + condition_number c) ∷ []) (signed w8 z) (Jcc c (S z)) (Signed8 (λ z. Jcc c (S z))) rows.known.0 rows.short (ends_signed8 (λ z. Jcc c (S z)) z) b e
conditional_jump_form c (L z) b e =
    let rows = condition_rows c in plain_form (0x0F ∷ (0x80 + condition_number c) ∷ []) (signed w32 z) (Jcc c (L z)) (Signed32 (λ z. Jcc c (L z))) rows.known.1 rows.long (ends_signed32 (λ z. Jcc c (L z)) z) b e

alu_immediate_digit : (op : AluOp) (w : Width) (dst : Rm) (z : ℤ) (opcode : ℕ) (bytes : Option (List ℕ)) (end : (ℤ → Insn) → End) → IsGroup (is_wide w) (opcode ∷ []) (λ field. RegisterOrMemory (is_byte w) (λ dst. end (λ z. AluImm (alu_op field) w dst z)))
    → IsEnd bytes (end (λ z. AluImm op w dst z)) (AluImm op w dst z) → (b : List ℕ) → extension w (opcode ∷ []) (alu_number op) dst bytes ≡ Some b → Form (AluImm op w dst z) b
alu_immediate_digit op w dst z opcode bytes end g ends b e =
    let rows = alu_rows op in
    extended_by w (opcode ∷ []) (alu_number op) dst bytes (AluImm op w dst z) (λ field. RegisterOrMemory (is_byte w) (λ dst. end (λ z. AluImm (alu_op field) w dst z))) (λ dst. end (λ z. AluImm op w dst z))
    (only_digit (alu_number op) rows.below rows.plain) g (ap (λ (op : AluOp). RegisterOrMemory (is_byte w) (λ dst. end (λ z. AluImm op w dst z))) rows.back) ends b e

alu_immediate_form : (op : AluOp) (w : Width) (dst : Rm) (z : ℤ) (b : List ℕ)
    → (if is_byte w then extension w (0x80 ∷ []) (alu_number op) dst (signed w8 z) else short_or_long 0x83 0x81 z (λ opcode end. extension w opcode (alu_number op) dst end)) ≡ Some b → Form (AluImm op w dst z) b
alu_immediate_form op B1 dst z b e = alu_immediate_digit op B1 dst z 0x80 (signed w8 z) (λ f. Signed8 f) alu_byte (ends_signed8 (λ z. AluImm op B1 dst z) z) b e
alu_immediate_form op B4 dst z b e =
    taken z 0x83 0x81 (λ opcode end. extension B4 opcode (alu_number op) dst end) b (Form (AluImm op B4 dst z) b)
    (λ h. alu_immediate_digit op B4 dst z 0x83 (signed w8 z) (λ f. Signed8 f) (alu_short B4 refl) (ends_signed8 (λ z. AluImm op B4 dst z) z) b h)
    (λ h. alu_immediate_digit op B4 dst z 0x81 (signed w32 z) (λ f. Signed32 f) (alu_long B4 refl) (ends_signed32 (λ z. AluImm op B4 dst z) z) b h) e
alu_immediate_form op B8 dst z b e =
    taken z 0x83 0x81 (λ opcode end. extension B8 opcode (alu_number op) dst end) b (Form (AluImm op B8 dst z) b)
    (λ h. alu_immediate_digit op B8 dst z 0x83 (signed w8 z) (λ f. Signed8 f) (alu_short B8 refl) (ends_signed8 (λ z. AluImm op B8 dst z) z) b h)
    (λ h. alu_immediate_digit op B8 dst z 0x81 (signed w32 z) (λ f. Signed32 f) (alu_long B8 refl) (ends_signed32 (λ z. AluImm op B8 dst z) z) b h) e

-- a register, and a register or memory with byteness of its own
mixed_form : (w : Width) (opcode : List ℕ) (byte_rm : Bool) (reg : Reg) (operand : Rm) (bytes : Option (List ℕ)) (i : Insn) (end : Reg → Rm → End) → IsRow (is_wide w) opcode (RegAndRm false byte_rm end) → IsEnd bytes (end reg operand) i
    → (b : List ℕ) → with_modrm none (is_wide w) opcode (reg_field false reg) (register_or_memory byte_rm operand) bytes ≡ Some b → Form i b
mixed_form w opcode byte_rm reg operand bytes i end r ends b e = reg_rm_form none (is_wide w) opcode (opcode_known opcode r.known) false byte_rm reg operand bytes i end (λ rex. refl) r.at ends b e

imul3_form : (w : Width) (dst : Reg) (src : Rm) (z : ℤ) (b : List ℕ)
    → no_bytes w (short_or_long 0x6B 0x69 z (λ opcode end. with_modrm none (is_wide w) opcode (reg_field false dst) (register_or_memory false src) end)) ≡ Some b → Form (IMul3 w dst src z) b
imul3_form w dst src z b e =
    let f = full w _ b e in
    taken z 0x6B 0x69 (λ opcode end. with_modrm none (is_wide w) opcode (reg_field false dst) (register_or_memory false src) end) b (Form (IMul3 w dst src z) b)
    (λ h. mixed_form w (0x6B ∷ []) false dst src (signed w8 z) (IMul3 w dst src z) (λ dst src. Signed8 (λ z. IMul3 w dst src z)) (imul3_short w f.0) (ends_signed8 (λ z. IMul3 w dst src z) z) b h)
    (λ h. mixed_form w (0x69 ∷ []) false dst src (signed w32 z) (IMul3 w dst src z) (λ dst src. Signed32 (λ z. IMul3 w dst src z)) (imul3_long w f.0) (ends_signed32 (λ z. IMul3 w dst src z) z) b h) f.1

lea_form : (w : Width) (dst : Reg) (mem : Mem) (b : List ℕ) → no_bytes w (reg_and_rm w (0x8D ∷ []) dst (rm.Mem mem)) ≡ Some b → Form (Lea w dst mem) b
lea_form w dst mem b e =
    let f = full w _ b e in
    let r = lea w f.0 in
    reg_memory_form none (is_wide w) (0x8D ∷ []) (opcode_known (0x8D ∷ []) r.known) (is_byte w) dst mem no_immediate (Lea w dst mem) (λ dst mem. Alone (Lea w dst mem)) (λ rex. refl) r.at (ends_alone (Lea w dst mem)) b f.1

indirect_call : (is_notrack : Bool) → IsIndirect is_notrack 2 (λ target. CallInd target is_notrack)
indirect_call true = record { digit = only_digit 2 (omega arith) refl; tracked = λ e. absurd cc; untracked = λ e. refl }
indirect_call false = record { digit = only_digit 2 (omega arith) refl; tracked = λ e. refl; untracked = λ e. absurd cc }

indirect_jump : (is_notrack : Bool) → IsIndirect is_notrack 4 (λ target. JmpInd target is_notrack)
indirect_jump true = record { digit = only_digit 4 (omega arith) refl; tracked = λ e. absurd cc; untracked = λ e. refl }
indirect_jump false = record { digit = only_digit 4 (omega arith) refl; tracked = λ e. refl; untracked = λ e. absurd cc }

pub canonical_is_form : (i : Insn) (b : List ℕ) → canonical i ≡ Some b → Form i b
unfolding canonical
canonical_is_form EndBr64 b e = mandatory_literal EndBr64 0x0F (0x1E ∷ 0xFA ∷ []) b refl (0x1E, 0xFA ∷ [], (0xFA, [], (refl, refl), refl), refl) e
canonical_is_form Nop b e = literal Nop (0x90 ∷ []) b refl refl e
canonical_is_form (Mov w dst src) b e = reg_rm w (sized 0x88 w ∷ []) src dst (λ src dst. Mov w dst src) (mov w) b e
canonical_is_form (MovLoad w dst src) b e = reg_rm w (sized 0x8A w ∷ []) dst src (λ dst src. MovLoad w dst src) (mov_load w) b e
canonical_is_form (MovImm w dst z) b e = extended_by w (sized 0xC6 w ∷ []) 0 dst (immediate w z) (MovImm w dst z) _ (λ dst. map.immediate w (λ z. MovImm w dst z)) (only_digit 0 (omega arith) refl) (mov_imm w) refl (ends_immediate w (λ z. MovImm w dst z) z) b e
canonical_is_form (MovAbs w dst n) b e = constant_form w dst n b e
canonical_is_form (MovZx w dst src) b e = let f = full w _ b e in mixed_form w (0x0F ∷ 0xB6 ∷ []) true dst src no_immediate (MovZx w dst src) (λ dst src. Alone (MovZx w dst src)) (movzx w f.0) (ends_alone (MovZx w dst src)) b f.1
canonical_is_form (MovSx w dst src) b e = let f = full w _ b e in mixed_form w (0x0F ∷ 0xBE ∷ []) true dst src no_immediate (MovSx w dst src) (λ dst src. Alone (MovSx w dst src)) (movsx w f.0) (ends_alone (MovSx w dst src)) b f.1
canonical_is_form (MovSxd dst src) b e = reg_rm B8 (0x63 ∷ []) dst src (λ dst src. MovSxd dst src) movsxd b e
canonical_is_form (Lea w dst mem) b e = lea_form w dst mem b e
canonical_is_form (Alu op w dst src) b e = reg_rm w (sized (alu_number op * 8) w ∷ []) src dst (λ src dst. Alu op w dst src) (alu op w) b e
canonical_is_form (AluLoad op w dst src) b e = reg_rm w (sized (alu_number op * 8 + 2) w ∷ []) dst src (λ dst src. AluLoad op w dst src) (alu_load op w) b e
canonical_is_form (AluImm op w dst z) b e = alu_immediate_form op w dst z b e
canonical_is_form (Test w dst src) b e = reg_rm w (sized 0x84 w ∷ []) src dst (λ src dst. Test w dst src) (test w) b e
canonical_is_form (TestImm w dst z) b e = extended_by w (sized 0xF6 w ∷ []) 0 dst (immediate w z) (TestImm w dst z) (f6_operand w) (λ dst. map.immediate w (λ z. TestImm w dst z)) (only_digit 0 (omega arith) refl) (f6 w) refl (ends_immediate w (λ z. TestImm w dst z) z) b e
canonical_is_form (Unary op w dst) b e = unary_form op w dst b e
canonical_is_form (Shift op w dst n) b e = shift_form op w dst n b e
canonical_is_form (IMul2 w dst src) b e = let f = full w _ b e in reg_rm w (0x0F ∷ 0xAF ∷ []) dst src (λ dst src. IMul2 w dst src) (imul2 w f.0) b f.1
canonical_is_form (IMul3 w dst src z) b e = imul3_form w dst src z b e
canonical_is_form (MulDiv op w src) b e =
    let f = full w _ b e in
    extended_by w (0xF7 ∷ []) (product_number op) src no_immediate (MulDiv op w src) (f6_operand w) (λ src. Alone (MulDiv op w src)) (products op).digit (f7 w f.0) ((products op).operand w f.0) (ends_alone (MulDiv op w src)) b f.1
canonical_is_form (Cdq w) b e = accumulator_form w 0x99 (λ w. Cdq w) b refl (λ rex. refl) e
canonical_is_form (Cdqe w) b e = accumulator_form w 0x98 (λ w. Cdqe w) b refl (λ rex. refl) e
canonical_is_form (Push src) b e = push_form src b e
canonical_is_form (Pop dst) b e = pop_form dst b e
canonical_is_form (PushImm z) b e =
    taken z 0x6A 0x68 plain b (Form (PushImm z) b) (λ h. plain_form (0x6A ∷ []) (signed w8 z) (PushImm z) (Signed8 (λ z. PushImm z)) refl refl (ends_signed8 (λ z. PushImm z) z) b h)
    (λ h. plain_form (0x68 ∷ []) (signed w32 z) (PushImm z) (Signed32 (λ z. PushImm z)) refl refl (ends_signed32 (λ z. PushImm z) z) b h) e
canonical_is_form (PushMem mem) b e =
    digit_memory_form none false (0xFF ∷ []) (opcode_known (0xFF ∷ []) refl) 6 mem no_immediate (PushMem mem) (λ mem. Alone (PushMem mem)) (omega arith) refl (λ rex w r. refl) push_memory_row (ends_alone (PushMem mem)) b e
canonical_is_form (Call z) b e = plain_form (0xE8 ∷ []) (signed w32 z) (Call z) (Signed32 (λ z. Call z)) refl refl (ends_signed32 (λ z. Call z) z) b e
canonical_is_form (CallInd target is_notrack) b e = indirect_form is_notrack 2 target (λ target. CallInd target is_notrack) (indirect_call is_notrack) b e
canonical_is_form (JmpInd target is_notrack) b e = indirect_form is_notrack 4 target (λ target. JmpInd target is_notrack) (indirect_jump is_notrack) b e
canonical_is_form (Jmp rel) b e = jump_form rel b e
canonical_is_form (Jcc c rel) b e = conditional_jump_form c rel b e
canonical_is_form (SetCc c dst) b e =
    let g = set c in
    digit_form none false (0x0F ∷ (0x90 + condition_number c) ∷ []) (opcode_known _ g.known) 0 true dst no_immediate (SetCc c dst) (λ field. if field == 0 then RegisterOrMemory true (λ dst. Alone (SetCc c dst)) else NoOperand) (λ dst. Alone (SetCc c dst)) (omega arith) refl (λ rex w r. refl) g.at refl (ends_alone (SetCc c dst)) b e
canonical_is_form (CMov c w dst src) b e = let f = full w _ b e in reg_rm w (0x0F ∷ (0x40 + condition_number c) ∷ []) dst src (λ dst src. CMov c w dst src) (cmov c w f.0) b f.1
canonical_is_form Ret b e = literal Ret (0xC3 ∷ []) b refl refl e
canonical_is_form Leave b e = literal Leave (0xC9 ∷ []) b refl refl e
canonical_is_form (Xchg w dst src) b e = reg_rm w (sized 0x86 w ∷ []) src dst (λ src dst. Xchg w dst src) (xchg w) b e
canonical_is_form (CmpXchg w dst src is_lock) b e = exchange_form is_lock w 0xB0 dst src (λ src dst. CmpXchg w dst src is_lock) (cmpxchg is_lock w) b e
canonical_is_form (XAdd w dst src is_lock) b e = exchange_form is_lock w 0xC0 dst src (λ src dst. XAdd w dst src is_lock) (xadd is_lock w) b e
canonical_is_form (RdSsp dst) b e = shadow_form 0x1E 1 dst (λ x. RdSsp x) (only_digit 1 (omega arith) refl) refl read_row refl b e
canonical_is_form (IncSsp src) b e = shadow_form 0xAE 5 src (λ x. IncSsp x) (only_digit 5 (omega arith) refl) refl increment_row refl b e
canonical_is_form (RstorSsp mem) b e =
    digit_memory_form mandatory false (0x0F ∷ 0x01 ∷ []) (record { is_prefix = tt; prefix_ok = refl; opcode_ok = refl }) 5 mem no_immediate (RstorSsp mem) (λ mem. Alone (RstorSsp mem)) (omega arith) refl (λ rex w r. rw (r, w) refl) restore_row (ends_alone (RstorSsp mem)) b e
canonical_is_form SavePrevSsp b e = mandatory_literal SavePrevSsp 0x0F (0x01 ∷ 0xEA ∷ []) b refl (0x01, 0xEA ∷ [], (0xEA, [], (refl, refl), refl), refl) e
canonical_is_form (WrSs mem src) b e =
    reg_memory_form none true (0x0F ∷ 0x38 ∷ 0xF6 ∷ []) (opcode_known _ wrss.known) false src mem no_immediate (WrSs mem src) (λ src mem. Alone (WrSs mem src)) (λ rex. refl) wrss.at (ends_alone (WrSs mem src)) b e
canonical_is_form Syscall b e = literal Syscall (0x0F ∷ 0x05 ∷ []) b refl refl e
canonical_is_form Ud2 b e = literal Ud2 (0x0F ∷ 0x0B ∷ []) b refl refl e
canonical_is_form Hlt b e = literal Hlt (0xF4 ∷ []) b refl refl e
