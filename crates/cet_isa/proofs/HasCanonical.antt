-- A value that has a form has a canonical form: in each row of the opcode map, what the bytes say of the operands is all that the
-- canonical form asks for.
use Rattle.std.proofs.Common.{◌≡◌, ℕ, zero, suc, Bool, true, false, List, [], ◌∷◌, ◌++◌, ℤ, Option, Some, None, refl, sym, ap, subst}
use Rattle.std.specs.Prelude.{if◌then◌else◌, ◌==◌}
use Rattle.std.specs.Int.{w8, w32}
use Rattle.cet_isa.specs.declared.register.Reg.{Reg}
use Rattle.cet_isa.specs.declared.operand.Width.{Width}
use Rattle.cet_isa.specs.declared.operand.Width.TheVariants.{B1, B4, B8}
use Rattle.cet_isa.specs.declared.operand.Rel.TheVariants.{S, L}
use Rattle.cet_isa.specs.declared.operand.Mem.{Mem}
use Rattle.cet_isa.specs.declared.operand.Rm.{Rm}
use Rattle.cet_isa.specs.declared.operation.AluOp.{AluOp}
use Rattle.cet_isa.specs.declared.operation.UnOp.{UnOp}
use Rattle.cet_isa.specs.declared.operation.UnOp.TheVariants.{Inc, Dec, Not, Neg}
use Rattle.cet_isa.specs.declared.operation.ShiftOp.{ShiftOp}
use Rattle.cet_isa.specs.declared.operation.ShiftCount.{ShiftCount}
use Rattle.cet_isa.specs.declared.operation.ShiftCount.TheVariants as count
use Rattle.cet_isa.specs.declared.operation.MulDivOp.{MulDivOp}
use Rattle.cet_isa.specs.declared.operation.Cond.{Cond}
use Rattle.cet_isa.specs.declared.instruction.Insn.{Insn}
use Rattle.cet_isa.specs.declared.instruction.Insn.TheVariants.{EndBr64, Nop, Mov, MovLoad, MovImm, MovAbs, MovZx, MovSx, MovSxd, Lea, Alu, AluLoad, AluImm, Test, TestImm, Unary, Shift, IMul2, IMul3, MulDiv, Cdq, Cdqe, Push, Pop, PushImm, PushMem, Call, CallInd, JmpInd, Jmp, Jcc, SetCc, CMov, Ret, Leave, Xchg, CmpXchg, XAdd, RdSsp, IncSsp, RstorSsp, SavePrevSsp, WrSs, Syscall, Ud2, Hlt}
use Rattle.cet_isa.specs.Row.{End, Alone, Signed8, Signed32, Unsigned8, Operand, NoOperand, NoMore, RegisterOrMemory, Memory, Register, Row, NoRow, Ends, Constant, RegAndRm, RegAndMemory, ModRm, Escape, EndBytes, OperandBytes, RowBytes}
use Rattle.cet_isa.specs.OpcodeMap as map
use Rattle.cet_isa.specs.PrefixedMap.{Prefix, none, mandatory, lock, notrack, pads, pads_segment, prefix_bytes, rex_bytes, row}
use Rattle.cet_isa.specs.Form.{IsBytes, Form}
use Rattle.cet_isa.specs.Canonical.{fits, signed, unsigned, immediate, no_immediate, RegField, RmField, register_or_memory, plain, with_modrm, is_wide, sized, reg_field, extension, short_or_long, alu_number, shift_number, canonical}
use Rattle.cet_isa.proofs.Operands.{Given, given, given_map, given_zip, IsConstant, constant_given, signed8_fits, signed32_fits, wider, signed_given, IsMem, IsRm, register_rm, rm_given, memory_operand_given, left_bytes, right_bytes, rest_bytes}

-- the value has a canonical form
pub record HasCanonical (i : Insn) : Type 0 where
  pub at : Given (canonical i)

pub record FitsByte (z : ℤ) : Type 0 where
  pub at : fits w8 z ≡ true

record FitsLong (z : ℤ) : Type 0 where
  at : fits w32 z ≡ true

-- an immediate of the operand's width
record IsImmediate (w : Width) (z : ℤ) : Type 0 where
  at : Given (immediate w z)

-- 32 or 64 bits
pub record IsWide (w : Width) : Type 0 where
  pub at : map.is_byte w ≡ false

pub wide_4 : IsWide B4
wide_4 = record { at = refl }

pub wide_8 : IsWide B8
wide_8 = record { at = refl }

pub wide_by : (t : Bool) → IsWide (if t then B8 else B4)
wide_by true = wide_8
wide_by false = wide_4

fits_long : (z : ℤ) → FitsByte z → FitsLong z
fits_long z h = record { at = wider z h.at }

byte_immediate : (z : ℤ) → FitsByte z → IsImmediate B1 z
byte_immediate z h = record { at = signed_given w8 z h.at }

long_immediate : (w : Width) (z : ℤ) → IsWide w → FitsLong z → IsImmediate w z
long_immediate B1 z k h = absurd (let e = k.at in cc)
long_immediate B4 z k h = record { at = signed_given w32 z h.at }
long_immediate B8 z k h = record { at = signed_given w32 z h.at }

-- ---- shapes

modrm_given : (prefix : Prefix) (w : Bool) (opcode : List ℕ) (reg : RegField) (place : Option RmField) (end : Option (List ℕ)) → Given place → Given end → Given (with_modrm prefix w opcode reg place end)
modrm_given prefix w opcode reg place end g h = given_map _ _ (given_zip place end g h)

rm_shape : (prefix : Prefix) (w : Bool) (opcode : List ℕ) (reg : RegField) (byte : Bool) (operand : Rm) (end : Option (List ℕ)) → IsRm operand → Given end → Given (with_modrm prefix w opcode reg (register_or_memory byte operand) end)
rm_shape prefix w opcode reg byte operand end g h = modrm_given prefix w opcode reg (register_or_memory byte operand) end (g.at byte) h

nothing_more : Given no_immediate
nothing_more = given []

either_encoding : (z : ℤ) (short long : ℕ) (encoding : List ℕ → Option (List ℕ) → Option (List ℕ)) → FitsLong z → ((opcode : List ℕ) (end : Option (List ℕ)) → Given end → Given (encoding opcode end)) → Given (short_or_long short long z encoding)
either_encoding z short long encoding h each = by_size (fits w8 z) refl
  where
    by_size : (t : Bool) → fits w8 z ≡ t → Given (if t then encoding (short ∷ []) (signed w8 z) else encoding (long ∷ []) (signed w32 z))
    by_size true e = each (short ∷ []) (signed w8 z) (signed_given w8 z e)
    by_size false e = each (long ∷ []) (signed w32 z) (signed_given w32 z h.at)

ruleset shapes = (modrm_given, rm_shape, nothing_more, given_map, given)

-- ---- values

has_endbr64 : HasCanonical EndBr64
unfolding canonical
has_endbr64 = record { at = search (shapes) }

has_nop : HasCanonical Nop
unfolding canonical
has_nop = record { at = search (shapes) }

has_mov : (w : Width) (dst : Rm) (src : Reg) → IsRm dst → HasCanonical (Mov w dst src)
unfolding canonical
has_mov w dst src h = record { at = search (shapes, h.at) }

has_mov_load : (w : Width) (dst : Reg) (src : Rm) → IsRm src → HasCanonical (MovLoad w dst src)
unfolding canonical
has_mov_load w dst src h = record { at = search (shapes, h.at) }

has_mov_imm : (w : Width) (dst : Rm) (z : ℤ) → IsRm dst → IsImmediate w z → HasCanonical (MovImm w dst z)
unfolding canonical
has_mov_imm w dst z h k = record { at = search (shapes, h.at, k.at) }

has_movsxd : (dst : Reg) (src : Rm) → IsRm src → HasCanonical (MovSxd dst src)
unfolding canonical
has_movsxd dst src h = record { at = search (shapes, h.at) }

has_alu : (op : AluOp) (w : Width) (dst : Rm) (src : Reg) → IsRm dst → HasCanonical (Alu op w dst src)
unfolding canonical
has_alu op w dst src h = record { at = search (shapes, h.at) }

has_alu_load : (op : AluOp) (w : Width) (dst : Reg) (src : Rm) → IsRm src → HasCanonical (AluLoad op w dst src)
unfolding canonical
has_alu_load op w dst src h = record { at = search (shapes, h.at) }

has_test : (w : Width) (dst : Rm) (src : Reg) → IsRm dst → HasCanonical (Test w dst src)
unfolding canonical
has_test w dst src h = record { at = search (shapes, h.at) }

has_test_imm : (w : Width) (dst : Rm) (z : ℤ) → IsRm dst → IsImmediate w z → HasCanonical (TestImm w dst z)
unfolding canonical
has_test_imm w dst z h k = record { at = search (shapes, h.at, k.at) }

has_xchg : (w : Width) (dst : Rm) (src : Reg) → IsRm dst → HasCanonical (Xchg w dst src)
unfolding canonical
has_xchg w dst src h = record { at = search (shapes, h.at) }

has_push : (src : Reg) → HasCanonical (Push src)
unfolding canonical
has_push src = record { at = search (shapes) }

has_pop : (dst : Reg) → HasCanonical (Pop dst)
unfolding canonical
has_pop dst = record { at = search (shapes) }

has_push_mem : (mem : Mem) → IsMem mem → HasCanonical (PushMem mem)
unfolding canonical
has_push_mem mem h = record { at = search (shapes, h.at) }

has_call_ind : (target : Rm) (is_notrack : Bool) → IsRm target → HasCanonical (CallInd target is_notrack)
unfolding canonical
has_call_ind target is_notrack h = record { at = search (shapes, h.at) }

has_jmp_ind : (target : Rm) (is_notrack : Bool) → IsRm target → HasCanonical (JmpInd target is_notrack)
unfolding canonical
has_jmp_ind target is_notrack h = record { at = search (shapes, h.at) }

has_set_cc : (c : Cond) (dst : Rm) → IsRm dst → HasCanonical (SetCc c dst)
unfolding canonical
has_set_cc c dst h = record { at = search (shapes, h.at) }

has_ret : HasCanonical Ret
unfolding canonical
has_ret = record { at = search (shapes) }

has_leave : HasCanonical Leave
unfolding canonical
has_leave = record { at = search (shapes) }

has_cmpxchg : (w : Width) (dst : Mem) (src : Reg) (is_lock : Bool) → IsMem dst → HasCanonical (CmpXchg w dst src is_lock)
unfolding canonical
has_cmpxchg w dst src is_lock h = record { at = search (shapes, h.at) }

has_xadd : (w : Width) (dst : Mem) (src : Reg) (is_lock : Bool) → IsMem dst → HasCanonical (XAdd w dst src is_lock)
unfolding canonical
has_xadd w dst src is_lock h = record { at = search (shapes, h.at) }

has_rdssp : (dst : Reg) → HasCanonical (RdSsp dst)
unfolding canonical
has_rdssp dst = record { at = search (shapes) }

has_incssp : (src : Reg) → HasCanonical (IncSsp src)
unfolding canonical
has_incssp src = record { at = search (shapes) }

has_rstorssp : (mem : Mem) → IsMem mem → HasCanonical (RstorSsp mem)
unfolding canonical
has_rstorssp mem h = record { at = search (shapes, h.at) }

has_saveprevssp : HasCanonical SavePrevSsp
unfolding canonical
has_saveprevssp = record { at = search (shapes) }

has_wrss : (mem : Mem) (src : Reg) → IsMem mem → HasCanonical (WrSs mem src)
unfolding canonical
has_wrss mem src h = record { at = search (shapes, h.at) }

has_syscall : HasCanonical Syscall
unfolding canonical
has_syscall = record { at = search (shapes) }

has_ud2 : HasCanonical Ud2
unfolding canonical
has_ud2 = record { at = search (shapes) }

has_hlt : HasCanonical Hlt
unfolding canonical
has_hlt = record { at = search (shapes) }

has_movabs : (w : Width) (dst : Reg) (n : ℕ) → IsConstant w n → HasCanonical (MovAbs w dst n)
unfolding canonical
has_movabs w dst n h = record { at = search (shapes, h.at) }

has_movzx : (w : Width) (dst : Reg) (src : Rm) → IsWide w → IsRm src → HasCanonical (MovZx w dst src)
unfolding canonical
has_movzx B1 dst src h k = absurd (let e = h.at in cc)
has_movzx B4 dst src h k = record { at = search (shapes, k.at) }
has_movzx B8 dst src h k = record { at = search (shapes, k.at) }

has_movsx : (w : Width) (dst : Reg) (src : Rm) → IsWide w → IsRm src → HasCanonical (MovSx w dst src)
unfolding canonical
has_movsx B1 dst src h k = absurd (let e = h.at in cc)
has_movsx B4 dst src h k = record { at = search (shapes, k.at) }
has_movsx B8 dst src h k = record { at = search (shapes, k.at) }

has_lea : (w : Width) (dst : Reg) (mem : Mem) → IsWide w → IsMem mem → HasCanonical (Lea w dst mem)
unfolding canonical
has_lea B1 dst mem h k = absurd (let e = h.at in cc)
has_lea B4 dst mem h k = record { at = search (shapes, k.at) }
has_lea B8 dst mem h k = record { at = search (shapes, k.at) }

has_imul2 : (w : Width) (dst : Reg) (src : Rm) → IsWide w → IsRm src → HasCanonical (IMul2 w dst src)
unfolding canonical
has_imul2 B1 dst src h k = absurd (let e = h.at in cc)
has_imul2 B4 dst src h k = record { at = search (shapes, k.at) }
has_imul2 B8 dst src h k = record { at = search (shapes, k.at) }

has_cmov : (c : Cond) (w : Width) (dst : Reg) (src : Rm) → IsWide w → IsRm src → HasCanonical (CMov c w dst src)
unfolding canonical
has_cmov c B1 dst src h k = absurd (let e = h.at in cc)
has_cmov c B4 dst src h k = record { at = search (shapes, k.at) }
has_cmov c B8 dst src h k = record { at = search (shapes, k.at) }

has_muldiv : (op : MulDivOp) (w : Width) (src : Rm) → IsWide w → IsRm src → HasCanonical (MulDiv op w src)
unfolding canonical
has_muldiv op B1 src h k = absurd (let e = h.at in cc)
has_muldiv op B4 src h k = record { at = search (shapes, k.at) }
has_muldiv op B8 src h k = record { at = search (shapes, k.at) }

has_cdq : (w : Width) → IsWide w → HasCanonical (Cdq w)
unfolding canonical
has_cdq B1 h = absurd (let e = h.at in cc)
has_cdq B4 h = record { at = search (shapes) }
has_cdq B8 h = record { at = search (shapes) }

has_cdqe : (w : Width) → IsWide w → HasCanonical (Cdqe w)
unfolding canonical
has_cdqe B1 h = absurd (let e = h.at in cc)
has_cdqe B4 h = record { at = search (shapes) }
has_cdqe B8 h = record { at = search (shapes) }

has_imul3 : (w : Width) (dst : Reg) (src : Rm) (z : ℤ) → IsWide w → IsRm src → FitsLong z → HasCanonical (IMul3 w dst src z)
unfolding canonical
has_imul3 B1 dst src z h k l = absurd (let e = h.at in cc)
has_imul3 B4 dst src z h k l = record { at = either_encoding z 0x6B 0x69 (λ opcode end. with_modrm none (is_wide B4) opcode (reg_field false dst) (register_or_memory false src) end) l (λ opcode end g. search (shapes, g)) }
has_imul3 B8 dst src z h k l = record { at = either_encoding z 0x6B 0x69 (λ opcode end. with_modrm none (is_wide B8) opcode (reg_field false dst) (register_or_memory false src) end) l (λ opcode end g. search (shapes, g)) }

has_alu_imm_byte : (op : AluOp) (dst : Rm) (z : ℤ) → IsRm dst → FitsByte z → HasCanonical (AluImm op B1 dst z)
unfolding canonical
has_alu_imm_byte op dst z h k = let g = signed_given w8 z k.at in record { at = search (shapes, g) }

has_alu_imm : (op : AluOp) (w : Width) (dst : Rm) (z : ℤ) → IsWide w → IsRm dst → FitsLong z → HasCanonical (AluImm op w dst z)
unfolding canonical
has_alu_imm op B1 dst z h k l = absurd (let e = h.at in cc)
has_alu_imm op B4 dst z h k l = record { at = either_encoding z 0x83 0x81 (λ opcode end. extension B4 opcode (alu_number op) dst end) l (λ opcode end g. search (shapes, g)) }
has_alu_imm op B8 dst z h k l = record { at = either_encoding z 0x83 0x81 (λ opcode end. extension B8 opcode (alu_number op) dst end) l (λ opcode end g. search (shapes, g)) }

has_unary : (op : UnOp) (w : Width) (dst : Rm) → IsRm dst → HasCanonical (Unary op w dst)
unfolding canonical
has_unary Inc w dst h = record { at = search shapes }
has_unary Dec w dst h = record { at = search shapes }
has_unary Not w dst h = record { at = search shapes }
has_unary Neg w dst h = record { at = search shapes }

has_shift_cl : (op : ShiftOp) (w : Width) (dst : Rm) → IsRm dst → HasCanonical (Shift op w dst count.Cl)
unfolding canonical
has_shift_cl op w dst h = record { at = search shapes }

either_given : {A : Type 0} (t : Bool) (o p : Option A) → Given o → Given p → Given (if t then o else p)
either_given true o p g h = g
either_given false o p g h = h

has_shift : (op : ShiftOp) (w : Width) (dst : Rm) (n : ℕ) → IsRm dst → IsConstant B1 n → HasCanonical (Shift op w dst (count.Imm n))
unfolding canonical
has_shift op w dst n h k = record {
  at = either_given (n == 1) (extension w (sized 0xD0 w ∷ []) (shift_number op) dst no_immediate) (extension w (sized 0xC0 w ∷ []) (shift_number op) dst (unsigned w8 n)) (search shapes) (search (shapes, k.at));
}

constant_one : IsConstant B1 1
constant_one = record { at = given _ }

has_push_imm : (z : ℤ) → FitsLong z → HasCanonical (PushImm z)
unfolding canonical
has_push_imm z h = record { at = either_encoding z 0x6A 0x68 plain h (λ opcode end g. given_map (λ bytes. opcode ++ bytes) end g) }

has_call : (z : ℤ) → FitsLong z → HasCanonical (Call z)
unfolding canonical
has_call z h = record { at = given_map _ _ (signed_given w32 z h.at) }

has_jmp_short : (z : ℤ) → FitsByte z → HasCanonical (Jmp (S z))
unfolding canonical
has_jmp_short z h = record { at = given_map _ _ (signed_given w8 z h.at) }

has_jmp_long : (z : ℤ) → FitsLong z → HasCanonical (Jmp (L z))
unfolding canonical
has_jmp_long z h = record { at = given_map _ _ (signed_given w32 z h.at) }

has_jcc_short : (c : Cond) (z : ℤ) → FitsByte z → HasCanonical (Jcc c (S z))
unfolding canonical
has_jcc_short c z h = record { at = given_map _ _ (signed_given w8 z h.at) }

has_jcc_long : (c : Cond) (z : ℤ) → FitsLong z → HasCanonical (Jcc c (L z))
unfolding canonical
has_jcc_long c z h = record { at = given_map _ _ (signed_given w32 z h.at) }

-- ---- rows: what the bytes of each part say is enough

record EndHas (e : End) : Type 0 where
  at : (i : Insn) (b : List ℕ) → IsBytes b → EndBytes e i b → HasCanonical i

record OperandHas (rex : Option ℕ) (modrm : ℕ) (o : Operand) : Type 0 where
  at : (i : Insn) (b : List ℕ) → IsBytes b → OperandBytes rex modrm o i b → HasCanonical i

record RowHas (rex : Option ℕ) (r : Row) : Type 0 where
  at : (i : Insn) (b : List ℕ) → IsBytes b → RowBytes rex r i b → HasCanonical i

has_same : (i j : Insn) → i ≡ j → HasCanonical j → HasCanonical i
has_same i j e h = subst (λ (k : Insn). HasCanonical k) (sym e) h

alone : (i : Insn) → HasCanonical i → EndHas (Alone i)
alone i h = record { at = λ j b y p. has_same j i p.0 h }

signed8 : (f : ℤ → Insn) → ((z : ℤ) → FitsByte z → HasCanonical (f z)) → EndHas (Signed8 f)
signed8 f h = record { at = λ i b y p. has_same i (f p.0) p.2 (h p.0 (record { at = signed8_fits p.0 b y p.1 })) }

signed32 : (f : ℤ → Insn) → ((z : ℤ) → FitsLong z → HasCanonical (f z)) → EndHas (Signed32 f)
signed32 f h = record { at = λ i b y p. has_same i (f p.0) p.2 (h p.0 (record { at = signed32_fits p.0 b y p.1 })) }

unsigned8 : (f : ℕ → Insn) → ((n : ℕ) → IsConstant B1 n → HasCanonical (f n)) → EndHas (Unsigned8 f)
unsigned8 f h = record { at = λ i b y p. has_same i (f p.0) p.2 (h p.0 (constant_given B1 p.0 b y p.1)) }

immediates : (w : Width) (f : ℤ → Insn) → ((z : ℤ) → IsImmediate w z → HasCanonical (f z)) → EndHas (map.immediate w f)
immediates B1 f h = signed8 f (λ z k. h z (record { at = signed_given w8 z k.at }))
immediates B4 f h = signed32 f (λ z k. h z (record { at = signed_given w32 z k.at }))
immediates B8 f h = signed32 f (λ z k. h z (record { at = signed_given w32 z k.at }))

-- an operand and the end behind it
split_left : (a b l : List ℕ) → l ≡ a ++ b → IsBytes l → IsBytes a
split_left a b l e y = left_bytes a b (subst (λ (x : List ℕ). IsBytes x) e y)

split_right : (a b l : List ℕ) → l ≡ a ++ b → IsBytes l → IsBytes b
split_right a b l e y = right_bytes a b (subst (λ (x : List ℕ). IsBytes x) e y)

behind_bytes : (x : ℕ) (b l : List ℕ) → l ≡ x ∷ b → IsBytes l → IsBytes b
behind_bytes x b l e y = rest_bytes x b (subst (λ (x : List ℕ). IsBytes x) e y)

module _ (rex : Option ℕ) where
  no_operand : (modrm : ℕ) → OperandHas rex modrm NoOperand
  no_operand modrm = record { at = λ i b y p. absurd p }

  no_more : (modrm : ℕ) (i : Insn) → HasCanonical i → OperandHas rex modrm (NoMore i)
  no_more modrm i h = record { at = λ j b y p. has_same j i p.0 h }

  any_operand : (modrm : ℕ) (is_byte : Bool) (end : Rm → End) → ((x : Rm) → IsRm x → EndHas (end x)) → OperandHas rex modrm (RegisterOrMemory is_byte end)
  any_operand modrm is_byte end h = record { at = λ i b y p. (h p.0 (rm_given rex is_byte modrm p.0 p.1 (split_left p.1 p.2 b p.5 y) p.3)).at i p.2 (split_right p.1 p.2 b p.5 y) p.4 }

  memory_operand : (modrm : ℕ) (end : Mem → End) → ((x : Mem) → IsMem x → EndHas (end x)) → OperandHas rex modrm (Memory end)
  memory_operand modrm end h = record { at = λ i b y p. (h p.0 (memory_operand_given rex modrm p.0 p.1 (split_left p.1 p.2 b p.5 y) p.3)).at i p.2 (split_right p.1 p.2 b p.5 y) p.4 }

  register_operand : (modrm : ℕ) (end : Reg → End) → ((x : Reg) → EndHas (end x)) → OperandHas rex modrm (Register end)
  register_operand modrm end h = record { at = λ i b y p. (h _).at i b y p.1 }

  either_operand : (modrm : ℕ) (t : Bool) (o p : Operand) → OperandHas rex modrm o → OperandHas rex modrm p → OperandHas rex modrm (if t then o else p)
  either_operand modrm true o p h k = h
  either_operand modrm false o p h k = k

  shift_operands : (modrm : ℕ) (w : Width) (end : (ShiftCount → Insn) → End) (o : Option ShiftOp) → ((op : ShiftOp) (dst : Rm) → IsRm dst → EndHas (end (λ n. Shift op w dst n))) → OperandHas rex modrm (map.shift_operand w end o)
  shift_operands modrm w end None h = no_operand modrm
  shift_operands modrm w end (Some op) h = any_operand modrm _ _ (λ dst k. h op dst k)

  no_row : RowHas rex NoRow
  no_row = record { at = λ i b y p. absurd p }

  ends : (end : End) → EndHas end → RowHas rex (Ends end)
  ends end h = record { at = λ i b y p. h.at i b y p }

  constant : (w : Width) (f : ℕ → Insn) → ((n : ℕ) → IsConstant w n → HasCanonical (f n)) → RowHas rex (Constant w f)
  constant w f h = record { at = λ i b y p. has_same i (f p.0) p.2 (h p.0 (constant_given w p.0 b y p.1)) }

  reg_rm : (byte_reg byte_rm : Bool) (end : Reg → Rm → End) → ((x : Reg) (y : Rm) → IsRm y → EndHas (end x y)) → RowHas rex (RegAndRm byte_reg byte_rm end)
  reg_rm byte_reg byte_rm end h = record {
    at = λ i b y p.
        let front = split_left p.1 p.2 b p.5 y in
        let read = p.3 in
        let operand = rm_given rex byte_rm read.0 read.2.1.0 read.1 (behind_bytes read.0 read.1 p.1 read.3 front) read.2.1.1 in
        let is : IsRm p.0.1 = subst (λ (x : Rm). IsRm x) (sym (ap (λ (t : Reg × Rm). t.1) read.2.1.2)) operand in
        (h p.0.0 p.0.1 is).at i p.2 (split_right p.1 p.2 b p.5 y) p.4;
  }

  reg_memory : (byte_reg : Bool) (end : Reg → Mem → End) → ((x : Reg) (y : Mem) → IsMem y → EndHas (end x y)) → RowHas rex (RegAndMemory byte_reg end)
  reg_memory byte_reg end h = record {
    at = λ i b y p.
        let front = split_left p.1 p.2 b p.5 y in
        let read = p.3 in
        let mem = memory_operand_given rex read.0 read.2.1.0 read.1 (behind_bytes read.0 read.1 p.1 read.3 front) read.2.1.1 in
        let is : IsMem p.0.1 = subst (λ (x : Mem). IsMem x) (sym (ap (λ (t : Reg × Mem). t.1) read.2.1.2)) mem in
        (h p.0.0 p.0.1 is).at i p.2 (split_right p.1 p.2 b p.5 y) p.4;
  }

  modrm : (f : ℕ → Operand) → ((modrm : ℕ) → OperandHas rex modrm (f modrm)) → RowHas rex (ModRm f)
  modrm f h = record { at = λ i b y p. (h p.0).at i p.1 (behind_bytes p.0 p.1 b p.3 y) p.2 }

  escape : (f : ℕ → Row) → ((opcode : ℕ) → RowHas rex (f opcode)) → RowHas rex (Escape f)
  escape f h = record { at = λ i b y p. (h p.0).at i p.1 (behind_bytes p.0 p.1 b p.3 y) p.2 }

  either : (t : Bool) (r s : Row) → RowHas rex r → RowHas rex s → RowHas rex (if t then r else s)
  either true r s h k = h
  either false r s h k = k

  in_width : (o : Option Width) (r : Width → Row) → ((w : Width) → RowHas rex (r w)) → RowHas rex (map.per_width o r)
  in_width None r h = no_row
  in_width (Some w) r h = h w

  in_condition : (o : Option Cond) (r : Cond → Row) → ((c : Cond) → RowHas rex (r c)) → RowHas rex (map.if_condition o r)
  in_condition None r h = no_row
  in_condition (Some c) r h = h c

  no_rex : (rex2 : Option ℕ) (r : Row) → RowHas rex r → RowHas rex (map.plain rex2 r)
  no_rex None r h = h
  no_rex (Some byte) r h = no_row

  -- 32 bits, or 64 behind REX 48
  accumulated : (rex2 : Option ℕ) (end : Width → End) → ((w : Width) → IsWide w → EndHas (end w)) → RowHas rex (map.accumulator rex2 end)
  accumulated None end h = ends (end B4) (h B4 wide_4)
  accumulated (Some byte) end h = by_byte (byte == 0x48)
    where
      by_byte : (t : Bool) → RowHas rex (map.per_width (if t then Some B8 else None) (λ w. Ends (end w)))
      by_byte true = ends (end B8) (h B8 wide_8)
      by_byte false = no_row

  ruleset parts = (alone, signed8, signed32, unsigned8, immediates, no_operand, no_more, any_operand, memory_operand, register_operand, shift_operands, either_operand)

  ruleset values = (has_endbr64, has_nop, has_mov, has_mov_load, has_mov_imm, has_movsxd, has_alu, has_alu_load, has_test, has_test_imm, has_xchg, has_push, has_pop, has_push_mem, has_call_ind, has_jmp_ind, has_set_cc, has_ret, has_leave, has_cmpxchg, has_xadd, has_rdssp, has_incssp, has_rstorssp, has_saveprevssp, has_wrss, has_syscall, has_ud2, has_hlt, has_movabs, has_movzx, has_movsx, has_lea, has_imul2, has_cmov, has_muldiv, has_cdq, has_cdqe, has_imul3, has_alu_imm_byte, has_alu_imm, has_unary, has_shift_cl, has_shift, has_push_imm, has_call, has_jmp_short, has_jmp_long, has_jcc_short, has_jcc_long, register_rm, byte_immediate, long_immediate, fits_long, wide_4, wide_8, wide_by, constant_one)

  f6 : (modrm : ℕ) (w : Width) (field : ℕ) → OperandHas rex modrm (map.f6_operand w field)
  f6 modrm B1 field = search (parts, values) depth 30
  f6 modrm B4 field = search (parts, values) depth 30
  f6 modrm B8 field = search (parts, values) depth 30

  ruleset kinds = (f6, parts, values, accumulated, no_row, ends, constant, reg_rm, reg_memory, modrm, escape, either, in_width, in_condition, no_rex)

  three : (opcode : ℕ) → RowHas rex (map.three_byte rex opcode)
  three opcode = search kinds depth 30

  two : (opcode : ℕ) → RowHas rex (map.two_byte rex opcode)
  two opcode = search (kinds, three) depth 40

  in_0_to_3 : (opcode : ℕ) → RowHas rex (map.one_byte_0_to_3 rex opcode)
  in_0_to_3 opcode = search (kinds, two) depth 40

  in_5 : (opcode : ℕ) → RowHas rex (map.one_byte_5 rex opcode)
  in_5 opcode = search (kinds) depth 40

  in_6 : (opcode : ℕ) → RowHas rex (map.one_byte_6 rex opcode)
  in_6 opcode = search (kinds) depth 40

  in_8 : (opcode : ℕ) → RowHas rex (map.one_byte_8 rex opcode)
  in_8 opcode = search (kinds) depth 40

  in_9 : (opcode : ℕ) → RowHas rex (map.one_byte_9 rex opcode)
  in_9 opcode = search (kinds) depth 40

  in_a : (opcode : ℕ) → RowHas rex (map.one_byte_a rex opcode)
  in_a opcode = search (kinds) depth 40

  in_c : (opcode : ℕ) → RowHas rex (map.one_byte_c rex opcode)
  in_c opcode = search (kinds) depth 40

  in_d : (opcode : ℕ) → RowHas rex (map.one_byte_d rex opcode)
  in_d opcode = search (kinds) depth 40

  in_e : (opcode : ℕ) → RowHas rex (map.one_byte_e rex opcode)
  in_e opcode = search (kinds) depth 40

  in_f : (opcode : ℕ) → RowHas rex (map.one_byte_f rex opcode)
  in_f opcode = search (kinds) depth 40

  in_one_byte : (opcode : ℕ) → RowHas rex (map.one_byte rex opcode)
  in_one_byte opcode = search (in_0_to_3, in_5, in_6, in_8, in_9, in_a, in_c, in_d, in_e, in_f, kinds) depth 40

  in_lock : (opcode : ℕ) → RowHas rex (row lock rex opcode)
  in_lock opcode = search kinds depth 40

  in_notrack : (opcode : ℕ) → RowHas rex (row notrack rex opcode)
  in_notrack opcode = search kinds depth 40

  in_pads : (n opcode : ℕ) → RowHas rex (row (pads n) rex opcode)
  in_pads zero opcode = search kinds depth 40
  in_pads (suc n) opcode = search kinds depth 40

  in_pads_segment : (n opcode : ℕ) → RowHas rex (row (pads_segment n) rex opcode)
  in_pads_segment n opcode = search kinds depth 40

in_mandatory : (rex : Option ℕ) (opcode : ℕ) → RowHas rex (row mandatory rex opcode)
in_mandatory None opcode = search kinds depth 40
in_mandatory (Some byte) opcode = search kinds depth 40

in_row : (prefix : Prefix) (rex : Option ℕ) (opcode : ℕ) → RowHas rex (row prefix rex opcode)
in_row none rex opcode = in_one_byte rex opcode
in_row mandatory rex opcode = in_mandatory rex opcode
in_row lock rex opcode = in_lock rex opcode
in_row notrack rex opcode = in_notrack rex opcode
in_row (pads n) rex opcode = in_pads rex n opcode
in_row (pads_segment n) rex opcode = in_pads_segment rex n opcode

pub form_has_canonical : (i : Insn) (b : List ℕ) → Form i b → (c : List ℕ) × (canonical i ≡ Some c)
form_has_canonical i b f =
    let behind_prefix : IsBytes (rex_bytes f.rex ++ (f.opcode ∷ f.operands)) = split_right (prefix_bytes f.prefix) (rex_bytes f.rex ++ (f.opcode ∷ f.operands)) b f.whole f.is_bytes in
    let behind_rex : IsBytes (f.opcode ∷ f.operands) = right_bytes (rex_bytes f.rex) (f.opcode ∷ f.operands) behind_prefix in
    let has = (in_row f.prefix f.rex f.opcode).at i f.operands (rest_bytes f.opcode f.operands behind_rex) f.row_bytes in
    (has.at.value, has.at.is)
