-- The one form of ENDBR64: no other row of the opcode map gives that value.
use Rattle.std.proofs.Common.{◌≡◌, ℕ, zero, suc, Bool, true, false, List, [], ◌∷◌, ℤ, Option, Some, None, refl, sym, ap, subst, ◌++◌, ◌∙◌}
use Rattle.std.specs.Prelude.{if◌then◌else◌, ◌==◌}
use Rattle.std.proofs.lemmas.Bool.{eqb-true}
use Rattle.cet_isa.specs.declared.register.Reg.{Reg}
use Rattle.cet_isa.specs.declared.operand.Mem.{Mem}
use Rattle.cet_isa.specs.declared.operand.Rm.{Rm}
use Rattle.cet_isa.specs.declared.operand.Width.{Width}
use Rattle.cet_isa.specs.declared.operation.Cond.{Cond}
use Rattle.cet_isa.specs.declared.operation.ShiftOp.{ShiftOp}
use Rattle.cet_isa.specs.declared.operation.ShiftCount.{ShiftCount}
use Rattle.cet_isa.specs.declared.instruction.Insn.{Insn}
use Rattle.cet_isa.specs.declared.instruction.Insn.TheVariants.{EndBr64, Nop}
use Rattle.cet_isa.specs.Row.{End, Alone, Signed8, Signed32, Unsigned8, Operand, NoOperand, NoMore, RegisterOrMemory, Memory, Register, Row, NoRow, Ends, Constant, RegAndRm, RegAndMemory, ModRm, Escape, EndBytes, OperandBytes, RowBytes}
use Rattle.cet_isa.specs.OpcodeMap.{plain, per_width, if_condition, shift_operand, three_byte, two_byte, one_byte_0_to_3, one_byte_5, one_byte_6, one_byte_8, one_byte_9, one_byte_a, one_byte_c, one_byte_d, one_byte_e, one_byte_f, one_byte}
use Rattle.cet_isa.specs.PrefixedMap.{Prefix, none, mandatory, lock, notrack, pads, pads_segment, prefix_bytes, rex_bytes, row, mandatory_two_byte, shadow_restore}
use Rattle.cet_isa.proofs.Whole.{Instruction, to_parts}

-- i is another value
abbrev Other : Insn → Type 0
Other EndBr64 = ⊥
Other i = Unit {0}

other_is : (i : Insn) → Other i → EndBr64 ≡ i → ⊥
other_is i other same = subst (λ (j : Insn). Other j) (sym same) other

-- what ends, an operand, a row that never gives ENDBR64
record OtherEnd (e : End) : Type 0 where
  at : (b : List ℕ) → EndBytes e EndBr64 b → ⊥

record OtherOperand (rex : Option ℕ) (modrm : ℕ) (o : Operand) : Type 0 where
  at : (b : List ℕ) → OperandBytes rex modrm o EndBr64 b → ⊥

record OtherRow (rex : Option ℕ) (r : Row) : Type 0 where
  at : (b : List ℕ) → RowBytes rex r EndBr64 b → ⊥

alone : (i : Insn) → Other i → OtherEnd (Alone i)
alone i other = record { at = λ b p. other_is i other p.0 }

signed8 : (f : ℤ → Insn) → ((z : ℤ) → Other (f z)) → OtherEnd (Signed8 f)
signed8 f other = record { at = λ b p. other_is (f p.0) (other p.0) p.2 }

signed32 : (f : ℤ → Insn) → ((z : ℤ) → Other (f z)) → OtherEnd (Signed32 f)
signed32 f other = record { at = λ b p. other_is (f p.0) (other p.0) p.2 }

unsigned8 : (f : ℕ → Insn) → ((n : ℕ) → Other (f n)) → OtherEnd (Unsigned8 f)
unsigned8 f other = record { at = λ b p. other_is (f p.0) (other p.0) p.2 }

either_end : (t : Bool) (d e : End) → OtherEnd d → OtherEnd e → OtherEnd (if t then d else e)
either_end true d e p q = p
either_end false d e p q = q

module _ (rex : Option ℕ) where
  no_operand : (modrm : ℕ) → OtherOperand rex modrm NoOperand
  no_operand modrm = record { at = λ b p. p }

  no_more : (modrm : ℕ) (i : Insn) → Other i → OtherOperand rex modrm (NoMore i)
  no_more modrm i other = record { at = λ b p. other_is i other p.0 }

  register_or_memory : (modrm : ℕ) (is_byte : Bool) (end : Rm → End) → ((x : Rm) → OtherEnd (end x)) → OtherOperand rex modrm (RegisterOrMemory is_byte end)
  register_or_memory modrm is_byte end other = record { at = λ b p. (other p.0).at p.2 p.4 }

  memory : (modrm : ℕ) (end : Mem → End) → ((x : Mem) → OtherEnd (end x)) → OtherOperand rex modrm (Memory end)
  memory modrm end other = record { at = λ b p. (other p.0).at p.2 p.4 }

  register : (modrm : ℕ) (end : Reg → End) → ((x : Reg) → OtherEnd (end x)) → OtherOperand rex modrm (Register end)
  register modrm end other = record { at = λ b p. (other _).at b p.1 }

  either_operand : (modrm : ℕ) (t : Bool) (o p : Operand) → OtherOperand rex modrm o → OtherOperand rex modrm p → OtherOperand rex modrm (if t then o else p)
  either_operand modrm true o p q r = q
  either_operand modrm false o p q r = r

  shifts : (modrm : ℕ) (w : Width) (end : (ShiftCount → Insn) → End) (o : Option ShiftOp) → ((f : ShiftCount → Insn) → ((n : ShiftCount) → Other (f n)) → OtherEnd (end f))
      → OtherOperand rex modrm (shift_operand w end o)
  shifts modrm w end None other = no_operand modrm
  shifts modrm w end (Some op) other = register_or_memory modrm _ _ (λ dst. other _ (λ n. tt))

  no_row : OtherRow rex NoRow
  no_row = record { at = λ b p. p }

  ends : (end : End) → OtherEnd end → OtherRow rex (Ends end)
  ends end other = record { at = λ b p. other.at b p }

  constant : (w : Width) (f : ℕ → Insn) → ((n : ℕ) → Other (f n)) → OtherRow rex (Constant w f)
  constant w f other = record { at = λ b p. other_is (f p.0) (other p.0) p.2 }

  reg_rm : (byte_reg byte_rm : Bool) (end : Reg → Rm → End) → ((x : Reg) (y : Rm) → OtherEnd (end x y)) → OtherRow rex (RegAndRm byte_reg byte_rm end)
  reg_rm byte_reg byte_rm end other = record { at = λ b p. (other p.0.0 p.0.1).at p.2 p.4 }

  reg_memory : (byte_reg : Bool) (end : Reg → Mem → End) → ((x : Reg) (y : Mem) → OtherEnd (end x y)) → OtherRow rex (RegAndMemory byte_reg end)
  reg_memory byte_reg end other = record { at = λ b p. (other p.0.0 p.0.1).at p.2 p.4 }

  with_modrm : (f : ℕ → Operand) → ((modrm : ℕ) → OtherOperand rex modrm (f modrm)) → OtherRow rex (ModRm f)
  with_modrm f other = record { at = λ b p. (other p.0).at p.1 p.2 }

  escape : (f : ℕ → Row) → ((opcode : ℕ) → OtherRow rex (f opcode)) → OtherRow rex (Escape f)
  escape f other = record { at = λ b p. (other p.0).at p.1 p.2 }

  either : (t : Bool) (r s : Row) → OtherRow rex r → OtherRow rex s → OtherRow rex (if t then r else s)
  either true r s p q = p
  either false r s p q = q

  in_width : (o : Option Width) (r : Width → Row) → ((w : Width) → OtherRow rex (r w)) → OtherRow rex (per_width o r)
  in_width None r p = no_row
  in_width (Some w) r p = p w

  in_condition : (o : Option Cond) (r : Cond → Row) → ((c : Cond) → OtherRow rex (r c)) → OtherRow rex (if_condition o r)
  in_condition None r p = no_row
  in_condition (Some c) r p = p c

  no_rex : (rex2 : Option ℕ) (r : Row) → OtherRow rex r → OtherRow rex (plain rex2 r)
  no_rex None r p = p
  no_rex (Some byte) r p = no_row

  ruleset kinds = (alone, signed8, signed32, unsigned8, either_end, no_operand, no_more, register_or_memory, memory, register, either_operand, shifts, no_row, ends, constant, reg_rm, reg_memory, with_modrm, escape, either, in_width, in_condition, no_rex)

  three : (opcode : ℕ) → OtherRow rex (three_byte rex opcode)
  three opcode = search kinds depth 30

  two : (opcode : ℕ) → OtherRow rex (two_byte rex opcode)
  two opcode = search (kinds, three) depth 40

  in_0_to_3 : (opcode : ℕ) → OtherRow rex (one_byte_0_to_3 rex opcode)
  in_0_to_3 opcode = search (kinds, two) depth 40

  in_5 : (opcode : ℕ) → OtherRow rex (one_byte_5 rex opcode)
  in_5 opcode = search kinds depth 40

  in_6 : (opcode : ℕ) → OtherRow rex (one_byte_6 rex opcode)
  in_6 opcode = search kinds depth 40

  in_8 : (opcode : ℕ) → OtherRow rex (one_byte_8 rex opcode)
  in_8 opcode = search kinds depth 40

  in_9 : (opcode : ℕ) → OtherRow rex (one_byte_9 rex opcode)
  in_9 opcode = search kinds depth 40

  in_a : (opcode : ℕ) → OtherRow rex (one_byte_a rex opcode)
  in_a opcode = search kinds depth 40

  in_c : (opcode : ℕ) → OtherRow rex (one_byte_c rex opcode)
  in_c opcode = search kinds depth 40

  in_d : (opcode : ℕ) → OtherRow rex (one_byte_d rex opcode)
  in_d opcode = search kinds depth 40

  in_e : (opcode : ℕ) → OtherRow rex (one_byte_e rex opcode)
  in_e opcode = search kinds depth 40

  in_f : (opcode : ℕ) → OtherRow rex (one_byte_f rex opcode)
  in_f opcode = search kinds depth 40

  in_one_byte : (opcode : ℕ) → OtherRow rex (one_byte rex opcode)
  in_one_byte opcode = search (kinds, in_0_to_3, in_5, in_6, in_8, in_9, in_a, in_c, in_d, in_e, in_f) depth 40

  in_lock : (opcode : ℕ) → OtherRow rex (row lock rex opcode)
  in_lock opcode = search kinds depth 40

  in_notrack : (opcode : ℕ) → OtherRow rex (row notrack rex opcode)
  in_notrack opcode = search kinds depth 40

  in_pads : (n opcode : ℕ) → OtherRow rex (row (pads n) rex opcode)
  in_pads zero opcode = search kinds depth 40
  in_pads (suc n) opcode = search kinds depth 40

  in_pads_segment : (n opcode : ℕ) → OtherRow rex (row (pads_segment n) rex opcode)
  in_pads_segment n opcode = search kinds depth 40

in_mandatory_rex : (byte opcode : ℕ) → OtherRow (Some byte) (row mandatory (Some byte) opcode)
in_mandatory_rex byte opcode = search kinds depth 40

-- ---- the row behind F3 that gives it

by_choice : (t : Bool) (r s : Row) (b : List ℕ) (C : Type 0) → (t ≡ true → RowBytes None r EndBr64 b → C) → (RowBytes None s EndBr64 b → C) → RowBytes None (if t then r else s) EndBr64 b → C
by_choice true r s b C p q h = p refl h
by_choice false r s b C p q h = q h

third : (x : ℕ) (b : List ℕ) → RowBytes None (if x == 0xFA then Ends (Alone EndBr64) else NoRow) EndBr64 b → x ∷ b ≡ 0xFA ∷ []
third x b h = by_choice (x == 0xFA) (Ends (Alone EndBr64)) NoRow b _ (λ e r. let is = eqb-true x 0xFA e in let rest = r.1 in cc) (λ r. absurd r) h

second : (x : ℕ) (b : List ℕ) → RowBytes None (mandatory_two_byte None x) EndBr64 b → x ∷ b ≡ 0x1E ∷ 0xFA ∷ []
second x b h =
    by_choice (x == 0x01) _ _ b _ (λ e r. absurd ((restore).at b r)) (
    by_choice (x == 0x1E) _ _ b _ (λ e r. let is = eqb-true x 0x1E e in let rest = r.3 in let last = third r.0 r.1 r.2 in cc) (
    by_choice (x == 0xAE) NoRow NoRow b _ (λ e r. absurd r) (λ r. absurd r))) h
  where
    restore : OtherRow None (shadow_restore None)
    restore = search kinds depth 40

first : (x : ℕ) (b : List ℕ) → RowBytes None (row mandatory None x) EndBr64 b → x ∷ b ≡ 0x0F ∷ 0x1E ∷ 0xFA ∷ []
first x b h =
    by_choice (x == 0x90) (Ends (Alone Nop)) _ b _ (λ e r. absurd (other_is Nop tt r.0)) (
    by_choice (x == 0x0F) _ NoRow b _ (λ e r. let is = eqb-true x 0x0F e in let rest = r.3 in let last = second r.0 r.1 r.2 in cc) (λ r. absurd r)) h

row_bytes : (prefix : Prefix) (rex : Option ℕ) (opcode : ℕ) (b : List ℕ) → RowBytes rex (row prefix rex opcode) EndBr64 b
    → prefix_bytes prefix ++ (rex_bytes rex ++ (opcode ∷ b)) ≡ 0xF3 ∷ 0x0F ∷ 0x1E ∷ 0xFA ∷ []
row_bytes none rex opcode b h = absurd ((in_one_byte rex opcode).at b h)
row_bytes mandatory None opcode b h = ap (λ (l : List ℕ). 0xF3 ∷ l) (first opcode b h)
row_bytes mandatory (Some byte) opcode b h = absurd ((in_mandatory_rex byte opcode).at b h)
row_bytes lock rex opcode b h = absurd ((in_lock rex opcode).at b h)
row_bytes notrack rex opcode b h = absurd ((in_notrack rex opcode).at b h)
row_bytes (pads n) rex opcode b h = absurd ((in_pads rex n opcode).at b h)
row_bytes (pads_segment n) rex opcode b h = absurd ((in_pads_segment rex n opcode).at b h)

-- ENDBR64 is spelled in one way
pub endbr64_bytes : (b : List ℕ) → Instruction EndBr64 b → b ≡ 0xF3 ∷ 0x0F ∷ 0x1E ∷ 0xFA ∷ []
endbr64_bytes b h = let p = to_parts EndBr64 b h in p.whole ∙ row_bytes p.prefix p.rex p.opcode p.operands p.row_bytes
