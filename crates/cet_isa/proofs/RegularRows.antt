-- Each row of the opcode map gives regular values: those whose texts are sentences of words that stand for one thing each.
use Rattle.std.proofs.Common.{◌≡◌, ℕ, zero, suc, ◌^◌, ◌<◌, Bool, true, false, List, ◌∷◌, ◌++◌, length, take, ℤ, Option, Some, None, refl, sym, ap, subst, ◌∙◌, lit<}
use Rattle.std.specs.Prelude.{unsigned_abs, if◌then◌else◌}
use Rattle.std.proofs.lemmas.List.{take_at}
use Rattle.std.proofs.lemmas.List.Prefix.{front_rest}
use Rattle.std.proofs.lemmas.List.Elements.{All-tail, All-same, All-take, All-drop}
use Rattle.cet_isa.specs.declared.register.Reg.{Reg}
use Rattle.cet_isa.specs.declared.operand.Mem.{Mem}
use Rattle.cet_isa.specs.declared.operand.Rm.{Rm}
use Rattle.cet_isa.specs.declared.operand.Width.{Width}
use Rattle.cet_isa.specs.declared.operand.Width.TheVariants.{B1}
use Rattle.cet_isa.specs.declared.operation.Cond.{Cond}
use Rattle.cet_isa.specs.declared.operation.ShiftOp.{ShiftOp}
use Rattle.cet_isa.specs.declared.operation.ShiftCount.{ShiftCount}
use Rattle.cet_isa.specs.declared.operation.ShiftCount.TheVariants as count
use Rattle.cet_isa.specs.declared.instruction.Insn.{Insn}
use Rattle.cet_isa.specs.Operand.{RegAndRmBytes, RegAndMemoryBytes}
use Rattle.cet_isa.specs.Form.{IsBytes, Form}
use Rattle.cet_isa.specs.Row.{End, Alone, Signed8, Signed32, Unsigned8, Operand, NoOperand, NoMore, RegisterOrMemory, Memory, Register, Row, NoRow, Ends, Constant, RegAndRm, RegAndMemory, ModRm, Escape, EndBytes, OperandBytes, RowBytes}
use Rattle.cet_isa.specs.OpcodeMap.{plain, per_width, if_condition, shift_operand, three_byte, two_byte, one_byte_0_to_3, one_byte_5, one_byte_6, one_byte_8, one_byte_9, one_byte_a, one_byte_c, one_byte_d, one_byte_e, one_byte_f, one_byte}
use Rattle.cet_isa.specs.PrefixedMap.{Prefix, none, mandatory, lock, notrack, pads, pads_segment, prefix_bytes, rex_bytes, row}
use Rattle.cet_isa.proofs.TextMemory.{IsMemory}
use Rattle.cet_isa.proofs.TextWords.{IsWord, IsSentence}
use Rattle.cet_isa.proofs.TextSentences.{count_word, sentence}
use Rattle.cet_isa.proofs.RegularParts.{IsOperand, signed8_fits, signed32_fits, unsigned_fits, operand_is, memory_operand_is}

abbrev pub IsRegular : Insn → Type 0
IsRegular i = IsSentence (sentence i)

-- what ends, an operand, a row that gives regular values
record RegularEnd (e : End) : Type 0 where
  at : (i : Insn) (b : List ℕ) → IsBytes b → EndBytes e i b → IsRegular i

record RegularOperand (rex : Option ℕ) (modrm : ℕ) (o : Operand) : Type 0 where
  at : (i : Insn) (b : List ℕ) → IsBytes b → OperandBytes rex modrm o i b → IsRegular i

record RegularRow (rex : Option ℕ) (r : Row) : Type 0 where
  at : (i : Insn) (b : List ℕ) → IsBytes b → RowBytes rex r i b → IsRegular i

regular_as : (i j : Insn) → i ≡ j → IsRegular j → IsRegular i
regular_as i j e h = subst IsRegular (sym e) h

-- the bytes of a part
front_bytes : (b front back : List ℕ) → IsBytes b → b ≡ front ++ back → IsBytes front
front_bytes b front back h e = subst IsBytes (ap (take (length front)) e ∙ take_at front back (length front) refl) (All-take (λ x. x < 256) (length front) b h)

back_bytes : (b front back : List ℕ) → IsBytes b → b ≡ front ++ back → IsBytes back
back_bytes b front back h e = subst IsBytes (front_rest b front back e) (All-drop (λ x. x < 256) (length front) b h)

tail_bytes : (b : List ℕ) (x : ℕ) (rest : List ℕ) → IsBytes b → b ≡ x ∷ rest → IsBytes rest
tail_bytes b x rest h e = All-tail (λ y. y < 256) x rest (All-same (λ y. y < 256) (x ∷ rest) b (sym e) h)

pair_operand : (rex : Option ℕ) (byte_reg byte_rm : Bool) (x : Reg × Rm) (b : List ℕ) → IsBytes b → RegAndRmBytes rex byte_reg byte_rm x b → IsOperand x.1
pair_operand rex byte_reg byte_rm x b h (modrm, rest, p, e) = subst (λ (y : Reg × Rm). IsOperand y.1) (sym p.1.2) (operand_is rex byte_rm modrm p.1.0 rest (tail_bytes b modrm rest h e) p.1.1)

pair_memory : (rex : Option ℕ) (byte_reg : Bool) (x : Reg × Mem) (b : List ℕ) → IsBytes b → RegAndMemoryBytes rex byte_reg x b → IsMemory x.1
pair_memory rex byte_reg x b h (modrm, rest, p, e) = subst (λ (y : Reg × Mem). IsMemory y.1) (sym p.1.2) (memory_operand_is rex modrm p.1.0 rest (tail_bytes b modrm rest h e) p.1.1)

alone : (i : Insn) → IsRegular i → RegularEnd (Alone i)
alone i is = record { at = λ j b h p. regular_as j i p.0 is }

signed8 : (f : ℤ → Insn) → ((z : ℤ) → unsigned_abs z < 2 ^ 64 → IsRegular (f z)) → RegularEnd (Signed8 f)
signed8 f is = record { at = λ j b h p. regular_as j (f p.0) p.2 (is p.0 (signed8_fits p.0 b p.1)) }

signed32 : (f : ℤ → Insn) → ((z : ℤ) → unsigned_abs z < 2 ^ 64 → IsRegular (f z)) → RegularEnd (Signed32 f)
signed32 f is = record { at = λ j b h p. regular_as j (f p.0) p.2 (is p.0 (signed32_fits p.0 b p.1)) }

unsigned8 : (f : ℕ → Insn) → ((n : ℕ) → n < 2 ^ 64 → IsRegular (f n)) → RegularEnd (Unsigned8 f)
unsigned8 f is = record { at = λ j b h p. regular_as j (f p.0) p.2 (is p.0 (unsigned_fits B1 p.0 b h p.1)) }

either_end : (t : Bool) (d e : End) → RegularEnd d → RegularEnd e → RegularEnd (if t then d else e)
either_end true d e p q = p
either_end false d e p q = q

abbrev IsCount : ShiftCount → Type 0
IsCount n = IsWord (count_word n)

one_is_count : IsCount (count.Imm 1)
one_is_count = lit< tt

module _ (rex : Option ℕ) where
  no_operand : (modrm : ℕ) → RegularOperand rex modrm NoOperand
  no_operand modrm = record { at = λ i b h p. absurd p }

  no_more : (modrm : ℕ) (i : Insn) → IsRegular i → RegularOperand rex modrm (NoMore i)
  no_more modrm i is = record { at = λ j b h p. regular_as j i p.0 is }

  register_or_memory : (modrm : ℕ) (is_byte : Bool) (end : Rm → End) → ((x : Rm) → IsOperand x → RegularEnd (end x)) → RegularOperand rex modrm (RegisterOrMemory is_byte end)
  register_or_memory modrm is_byte end is = record {
    at = λ i b h p. (is p.0 (operand_is rex is_byte modrm p.0 p.1 (front_bytes b p.1 p.2 h p.5) p.3)).at i p.2 (back_bytes b p.1 p.2 h p.5) p.4;
  }

  memory : (modrm : ℕ) (end : Mem → End) → ((x : Mem) → IsMemory x → RegularEnd (end x)) → RegularOperand rex modrm (Memory end)
  memory modrm end is = record {
    at = λ i b h p. (is p.0 (memory_operand_is rex modrm p.0 p.1 (front_bytes b p.1 p.2 h p.5) p.3)).at i p.2 (back_bytes b p.1 p.2 h p.5) p.4;
  }

  register : (modrm : ℕ) (end : Reg → End) → ((x : Reg) → RegularEnd (end x)) → RegularOperand rex modrm (Register end)
  register modrm end is = record { at = λ i b h p. (is _).at i b h p.1 }

  either_operand : (modrm : ℕ) (t : Bool) (o p : Operand) → RegularOperand rex modrm o → RegularOperand rex modrm p → RegularOperand rex modrm (if t then o else p)
  either_operand modrm true o p q r = q
  either_operand modrm false o p q r = r

  shifts : (modrm : ℕ) (w : Width) (end : (ShiftCount → Insn) → End) (o : Option ShiftOp) → ((f : ShiftCount → Insn) → ((n : ShiftCount) → IsCount n → IsRegular (f n)) → RegularEnd (end f))
      → RegularOperand rex modrm (shift_operand w end o)
  shifts modrm w end None is = no_operand modrm
  shifts modrm w end (Some op) is = register_or_memory modrm _ _ (λ dst h. is _ (λ n k. (tt, (h, (k, tt)))))

  no_row : RegularRow rex NoRow
  no_row = record { at = λ i b h p. absurd p }

  ends : (end : End) → RegularEnd end → RegularRow rex (Ends end)
  ends end is = record { at = is.at }

  constant : (w : Width) (f : ℕ → Insn) → ((n : ℕ) → n < 2 ^ 64 → IsRegular (f n)) → RegularRow rex (Constant w f)
  constant w f is = record { at = λ j b h p. regular_as j (f p.0) p.2 (is p.0 (unsigned_fits w p.0 b h p.1)) }

  reg_rm : (byte_reg byte_rm : Bool) (end : Reg → Rm → End) → ((x : Reg) (y : Rm) → IsOperand y → RegularEnd (end x y)) → RegularRow rex (RegAndRm byte_reg byte_rm end)
  reg_rm byte_reg byte_rm end is = record {
    at = λ i b h p. (is p.0.0 p.0.1 (pair_operand rex byte_reg byte_rm p.0 p.1 (front_bytes b p.1 p.2 h p.5) p.3)).at i p.2 (back_bytes b p.1 p.2 h p.5) p.4;
  }

  reg_memory : (byte_reg : Bool) (end : Reg → Mem → End) → ((x : Reg) (y : Mem) → IsMemory y → RegularEnd (end x y)) → RegularRow rex (RegAndMemory byte_reg end)
  reg_memory byte_reg end is = record {
    at = λ i b h p. (is p.0.0 p.0.1 (pair_memory rex byte_reg p.0 p.1 (front_bytes b p.1 p.2 h p.5) p.3)).at i p.2 (back_bytes b p.1 p.2 h p.5) p.4;
  }

  with_modrm : (f : ℕ → Operand) → ((modrm : ℕ) → RegularOperand rex modrm (f modrm)) → RegularRow rex (ModRm f)
  with_modrm f is = record { at = λ i b h p. (is p.0).at i p.1 (tail_bytes b p.0 p.1 h p.3) p.2 }

  escape : (f : ℕ → Row) → ((opcode : ℕ) → RegularRow rex (f opcode)) → RegularRow rex (Escape f)
  escape f is = record { at = λ i b h p. (is p.0).at i p.1 (tail_bytes b p.0 p.1 h p.3) p.2 }

  either : (t : Bool) (r s : Row) → RegularRow rex r → RegularRow rex s → RegularRow rex (if t then r else s)
  either true r s p q = p
  either false r s p q = q

  in_width : (o : Option Width) (r : Width → Row) → ((w : Width) → RegularRow rex (r w)) → RegularRow rex (per_width o r)
  in_width None r p = no_row
  in_width (Some w) r p = p w

  in_condition : (o : Option Cond) (r : Cond → Row) → ((c : Cond) → RegularRow rex (r c)) → RegularRow rex (if_condition o r)
  in_condition None r p = no_row
  in_condition (Some c) r p = p c

  no_rex : (rex2 : Option ℕ) (r : Row) → RegularRow rex r → RegularRow rex (plain rex2 r)
  no_rex None r p = p
  no_rex (Some byte) r p = no_row

  ruleset kinds = (alone, signed8, signed32, unsigned8, either_end, no_operand, no_more, register_or_memory, memory, register, either_operand, shifts, one_is_count, no_row, ends, constant, reg_rm, reg_memory, with_modrm, escape, either, in_width, in_condition, no_rex)

  three : (opcode : ℕ) → RegularRow rex (three_byte rex opcode)
  three opcode = search kinds depth 30

  two : (opcode : ℕ) → RegularRow rex (two_byte rex opcode)
  two opcode = search (kinds, three) depth 40

  in_0_to_3 : (opcode : ℕ) → RegularRow rex (one_byte_0_to_3 rex opcode)
  in_0_to_3 opcode = search (kinds, two) depth 40

  in_5 : (opcode : ℕ) → RegularRow rex (one_byte_5 rex opcode)
  in_5 opcode = search kinds depth 40

  in_6 : (opcode : ℕ) → RegularRow rex (one_byte_6 rex opcode)
  in_6 opcode = search kinds depth 40

  in_8 : (opcode : ℕ) → RegularRow rex (one_byte_8 rex opcode)
  in_8 opcode = search kinds depth 40

  in_9 : (opcode : ℕ) → RegularRow rex (one_byte_9 rex opcode)
  in_9 opcode = search kinds depth 40

  in_a : (opcode : ℕ) → RegularRow rex (one_byte_a rex opcode)
  in_a opcode = search kinds depth 40

  in_c : (opcode : ℕ) → RegularRow rex (one_byte_c rex opcode)
  in_c opcode = search kinds depth 40

  in_d : (opcode : ℕ) → RegularRow rex (one_byte_d rex opcode)
  in_d opcode = search kinds depth 40

  in_e : (opcode : ℕ) → RegularRow rex (one_byte_e rex opcode)
  in_e opcode = search kinds depth 40

  in_f : (opcode : ℕ) → RegularRow rex (one_byte_f rex opcode)
  in_f opcode = search kinds depth 40

  in_one_byte : (opcode : ℕ) → RegularRow rex (one_byte rex opcode)
  in_one_byte opcode = search (kinds, in_0_to_3, in_5, in_6, in_8, in_9, in_a, in_c, in_d, in_e, in_f) depth 40

  in_lock : (opcode : ℕ) → RegularRow rex (row lock rex opcode)
  in_lock opcode = search kinds depth 40

  in_notrack : (opcode : ℕ) → RegularRow rex (row notrack rex opcode)
  in_notrack opcode = search kinds depth 40

  in_pads : (n opcode : ℕ) → RegularRow rex (row (pads n) rex opcode)
  in_pads zero opcode = search kinds depth 40
  in_pads (suc n) opcode = search kinds depth 40

  in_pads_segment : (n opcode : ℕ) → RegularRow rex (row (pads_segment n) rex opcode)
  in_pads_segment n opcode = search kinds depth 40

in_mandatory : (rex : Option ℕ) (opcode : ℕ) → RegularRow rex (row mandatory rex opcode)
in_mandatory None opcode = search kinds depth 40
in_mandatory (Some byte) opcode = search kinds depth 40

in_row : (prefix : Prefix) (rex : Option ℕ) (opcode : ℕ) → RegularRow rex (row prefix rex opcode)
in_row none rex opcode = in_one_byte rex opcode
in_row mandatory rex opcode = in_mandatory rex opcode
in_row lock rex opcode = in_lock rex opcode
in_row notrack rex opcode = in_notrack rex opcode
in_row (pads n) rex opcode = in_pads rex n opcode
in_row (pads_segment n) rex opcode = in_pads_segment rex n opcode

pub form_is_regular : (i : Insn) (b : List ℕ) → Form i b → IsRegular i
form_is_regular i b f =
    let behind_prefix = back_bytes b (prefix_bytes f.prefix) _ f.is_bytes f.whole in
    let behind_rex = back_bytes _ (rex_bytes f.rex) (f.opcode ∷ f.operands) behind_prefix refl in
    (in_row f.prefix f.rex f.opcode).at i f.operands (All-tail (λ x. x < 256) f.opcode f.operands behind_rex) f.row_bytes
