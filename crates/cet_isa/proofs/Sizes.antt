-- How long the parts of a form are.
use Rattle.std.proofs.Common.{◌≡◌, ℕ, zero, suc, ◌+◌, ◌≤◌, Bool, true, false, List, [], ◌∷◌, ◌++◌, length, replicate, ℤ, Option, Some, None, lit≤, ap, ◌∙◌, arith}
use Rattle.std.specs.Prelude.{if◌then◌else◌, ◌==◌}
use Rattle.std.proofs.lemmas.List.{length-append, length-replicate}
use Rattle.std.specs.Int.{byte_len}
use Rattle.cet_isa.specs.declared.register.Reg.{Reg}
use Rattle.cet_isa.specs.declared.operand.Mem.{Mem}
use Rattle.cet_isa.specs.declared.operand.Rm.{Rm}
use Rattle.cet_isa.specs.declared.operand.Width.{Width}
use Rattle.cet_isa.specs.declared.operand.Width.TheVariants.{B1, B4, B8}
use Rattle.cet_isa.specs.declared.operation.Cond.{Cond}
use Rattle.cet_isa.specs.declared.instruction.Insn.{Insn}
use Rattle.cet_isa.specs.declared.instruction.Insn.TheVariants.{Nop}
use Rattle.cet_isa.specs.Operand.{Where, number_width, Displacement, nothing, disp8, disp32, Displaced, Address, Addressed, has_sib, sib_address, modrm_address, MemoryBytes, MemoryOperandBytes, RegAndRmBytes, RegAndMemoryBytes, is_register, RmBytes, middle_field}
use Rattle.cet_isa.specs.Row.{End, Alone, Signed8, Signed32, Unsigned8, Operand, NoOperand, NoMore, RegisterOrMemory, Memory, Register, Row, NoRow, Ends, Constant, RegAndRm, RegAndMemory, ModRm, Escape, EndBytes, OperandBytes, RowBytes}
use Rattle.cet_isa.specs.OpcodeMap.{plain, per_width, if_condition, long_nop, three_byte, two_byte, one_byte_0_to_3, one_byte_5, one_byte_6, one_byte_8, one_byte_9, one_byte_a, one_byte_c, one_byte_d, one_byte_e, one_byte_f, one_byte}
use Rattle.cet_isa.specs.PrefixedMap.{Prefix, none, mandatory, lock, notrack, pads, pads_segment, prefix_bytes, IsPrefix, rex_bytes, IsRex, row, mandatory_two_byte, locked_two_byte, nop_two_byte}
use Rattle.cet_isa.specs.Law.{FormLength}

by_where : (t : Bool) (P Q : Type 0) (C : Type 0) → (P → C) → (Q → C) → Where t P Q → C
by_where true P Q C p q w = p w
by_where false P Q C p q w = q w

displacement_size : (x : Displacement) (d : ℤ) (b : List ℕ) → Displaced x d b → length b ≤ 4
displacement_size nothing d b p = let e : length b ≡ 0 = ap length p.1 in omega arith
displacement_size disp8 d b p = let e : length b ≡ 1 = p.0 in omega arith
displacement_size disp32 d b p = let e : length b ≡ 4 = p.0 in omega arith

address_size : (o : Option Address) (m : Mem) (b : List ℕ) → Addressed o m b → length b ≤ 4
address_size None m b p = absurd p
address_size (Some a) m b (d, p, e) = displacement_size a.displacement d b p

memory_size : (rex : Option ℕ) (modrm : ℕ) (m : Mem) (b : List ℕ) → MemoryBytes rex modrm m b → length b ≤ 5
memory_size rex modrm m b w = by_where (has_sib modrm) _ _ (length b ≤ 5) (λ p. with_sib p.0 p.1 p.2 p.3) (λ p. let s : length b ≤ 4 = address_size (modrm_address rex modrm) m b p in omega arith) w
  where
    with_sib : (sib : ℕ) (rest : List ℕ) → Addressed (sib_address rex modrm sib) m rest → b ≡ sib ∷ rest → length b ≤ 5
    with_sib sib rest p e =
        let s : length rest ≤ 4 = address_size (sib_address rex modrm sib) m rest p in
        let k : length b ≡ suc (length rest) = ap length e in omega arith

rm_size : (rex : Option ℕ) (is_byte : Bool) (modrm : ℕ) (x : Rm) (b : List ℕ) → RmBytes rex is_byte modrm x b → length b ≤ 5
rm_size rex is_byte modrm x b w =
    by_where (is_register modrm) _ _ (length b ≤ 5) (λ p. let e : length b ≡ 0 = ap length p.1.1 in omega arith) (λ p. memory_size rex modrm p.0 b p.1) w

end_size : (end : End) (i : Insn) (b : List ℕ) → EndBytes end i b → length b ≤ 4
end_size (Alone j) i b p = let e : length b ≡ 0 = ap length p.1 in omega arith
end_size (Signed8 f) i b (z, p, e) = let k : length b ≡ 1 = p.0 in omega arith
end_size (Signed32 f) i b (z, p, e) = let k : length b ≡ 4 = p.0 in omega arith
end_size (Unsigned8 f) i b (n, p, e) = let k : length b ≡ 1 = p.0 in omega arith

joined_size : (b front back : List ℕ) (m n : ℕ) → length front ≤ m → length back ≤ n → b ≡ front ++ back → length b ≤ m + n
joined_size b front back m n p q e = let k : length b ≡ length front + length back = ap length e ∙ length-append front back in omega arith

memory_operand_size : (rex : Option ℕ) (modrm : ℕ) (m : Mem) (b : List ℕ) → MemoryOperandBytes rex modrm m b → length b ≤ 5
memory_operand_size rex modrm m b w = by_where (is_register modrm) _ _ (length b ≤ 5) (λ p. absurd p) (λ p. memory_size rex modrm m b p) w

operand_size : (rex : Option ℕ) (modrm : ℕ) (o : Operand) (i : Insn) (b : List ℕ) → OperandBytes rex modrm o i b → length b ≤ 9
operand_size rex modrm NoOperand i b p = absurd p
operand_size rex modrm (NoMore j) i b p = let e : length b ≡ 0 = ap length p.1 in omega arith
operand_size rex modrm (RegisterOrMemory is_byte end) i b (x, front, back, p, q, e) = joined_size b front back 5 4 (rm_size rex is_byte modrm x front p) (end_size (end x) i back q) e
operand_size rex modrm (Memory end) i b (x, front, back, p, q, e) = joined_size b front back 5 4 (memory_operand_size rex modrm x front p) (end_size (end x) i back q) e
operand_size rex modrm (Register end) i b p = let s : length b ≤ 4 = end_size _ i b p.1 in omega arith

reg_and_rm_size : (rex : Option ℕ) (byte_reg byte_rm : Bool) (x : Reg × Rm) (b : List ℕ) → RegAndRmBytes rex byte_reg byte_rm x b → length b ≤ 6
reg_and_rm_size rex byte_reg byte_rm x b (m, rest, p, e) = let s = rm_size rex byte_rm m p.1.0 rest p.1.1 in let k : length b ≡ suc (length rest) = ap length e in omega arith

reg_and_memory_size : (rex : Option ℕ) (byte_reg : Bool) (x : Reg × Mem) (b : List ℕ) → RegAndMemoryBytes rex byte_reg x b → length b ≤ 6
reg_and_memory_size rex byte_reg x b (m, rest, p, e) = let s = memory_operand_size rex m p.1.0 rest p.1.1 in let k : length b ≡ suc (length rest) = ap length e in omega arith

constant_size : (w : Width) → byte_len (number_width w) ≤ 8
constant_size B1 = lit≤ tt
constant_size B4 = lit≤ tt
constant_size B8 = lit≤ tt

-- the bytes of the row are n at most
pub record Within (rex : Option ℕ) (n : ℕ) (r : Row) : Type 0 where
  pub at : (i : Insn) (b : List ℕ) → RowBytes rex r i b → length b ≤ n

module _ (rex : Option ℕ) (n : ℕ) (room : 10 ≤ n) where
  no_row : Within rex n NoRow
  no_row = record { at = λ i b p. absurd p }

  ends : (end : End) → Within rex n (Ends end)
  ends end = record { at = λ i b p. let s : length b ≤ 4 = end_size end i b p in omega arith }

  constant : (w : Width) (f : ℕ → Insn) → Within rex n (Constant w f)
  constant w f = record { at = λ i b p. let s = constant_size w in let e = p.1.0 in omega arith }

  reg_rm : (byte_reg byte_rm : Bool) (end : Reg → Rm → End) → Within rex n (RegAndRm byte_reg byte_rm end)
  reg_rm byte_reg byte_rm end = record { at = λ i b p. let s = joined_size b p.1 p.2 6 4 (reg_and_rm_size rex byte_reg byte_rm p.0 p.1 p.3) (end_size (end p.0.0 p.0.1) i p.2 p.4) p.5 in omega arith }

  reg_memory : (byte_reg : Bool) (end : Reg → Mem → End) → Within rex n (RegAndMemory byte_reg end)
  reg_memory byte_reg end = record { at = λ i b p. let s = joined_size b p.1 p.2 6 4 (reg_and_memory_size rex byte_reg p.0 p.1 p.3) (end_size (end p.0.0 p.0.1) i p.2 p.4) p.5 in omega arith }

  modrm : (f : ℕ → Operand) → Within rex n (ModRm f)
  modrm f = record { at = λ i b p. let s = operand_size rex p.0 (f p.0) i p.1 p.2 in let e : length b ≡ suc (length p.1) = ap length p.3 in omega arith }

  either : (t : Bool) (r s : Row) → Within rex n r → Within rex n s → Within rex n (if t then r else s)
  either true r s p q = p
  either false r s p q = q

  in_width : (o : Option Width) (r : Width → Row) → ((w : Width) → Within rex n (r w)) → Within rex n (per_width o r)
  in_width None r p = no_row
  in_width (Some w) r p = p w

  in_condition : (o : Option Cond) (r : Cond → Row) → ((c : Cond) → Within rex n (r c)) → Within rex n (if_condition o r)
  in_condition None r p = no_row
  in_condition (Some c) r p = p c

  no_rex : (rex2 : Option ℕ) (r : Row) → Within rex n r → Within rex n (plain rex2 r)
  no_rex None r p = p
  no_rex (Some byte) r p = no_row

  ruleset kinds = (no_row, ends, constant, reg_rm, reg_memory, modrm, either, in_width, in_condition, no_rex)

  in_three_byte : (opcode : ℕ) → Within rex n (three_byte rex opcode)
  in_three_byte opcode = search kinds depth 12

  in_locked : (opcode : ℕ) → Within rex n (locked_two_byte rex opcode)
  in_locked opcode = search kinds depth 12

  in_one_byte_5 : (opcode : ℕ) → Within rex n (one_byte_5 rex opcode)
  in_one_byte_5 opcode = search kinds depth 30

  in_one_byte_6 : (opcode : ℕ) → Within rex n (one_byte_6 rex opcode)
  in_one_byte_6 opcode = search kinds depth 30

  in_one_byte_8 : (opcode : ℕ) → Within rex n (one_byte_8 rex opcode)
  in_one_byte_8 opcode = search kinds depth 30

  in_one_byte_9 : (opcode : ℕ) → Within rex n (one_byte_9 rex opcode)
  in_one_byte_9 opcode = search kinds depth 30

  in_one_byte_a : (opcode : ℕ) → Within rex n (one_byte_a rex opcode)
  in_one_byte_a opcode = search kinds depth 30

  in_one_byte_c : (opcode : ℕ) → Within rex n (one_byte_c rex opcode)
  in_one_byte_c opcode = search kinds depth 30

  in_one_byte_d : (opcode : ℕ) → Within rex n (one_byte_d rex opcode)
  in_one_byte_d opcode = search kinds depth 30

  in_one_byte_e : (opcode : ℕ) → Within rex n (one_byte_e rex opcode)
  in_one_byte_e opcode = search kinds depth 30

  in_one_byte_f : (opcode : ℕ) → Within rex n (one_byte_f rex opcode)
  in_one_byte_f opcode = search kinds depth 30

  in_notrack : (opcode : ℕ) → Within rex n (row notrack rex opcode)
  in_notrack opcode = search kinds depth 12

escape : (rex : Option ℕ) (n : ℕ) (f : ℕ → Row) → ((opcode : ℕ) → Within rex n (f opcode)) → Within rex (suc n) (Escape f)
escape rex n f each = record { at = λ i b p. let s = (each p.0).at i p.1 p.2 in let e : length b ≡ suc (length p.1) = ap length p.3 in omega arith }

wider : (rex : Option ℕ) (m n : ℕ) (r : Row) → m ≤ n → Within rex m r → Within rex n r
wider rex m n r le w = record { at = λ i b p. let s = w.at i b p in omega arith }

module _ (rex : Option ℕ) (n : ℕ) (room : 10 ≤ n) (more : 11 ≤ n) where
  three : Within rex n (Escape (three_byte rex))
  three = wider rex 11 n (Escape (three_byte rex)) more (escape rex 10 (three_byte rex) (in_three_byte rex 10 (omega arith)))

  in_two_byte : (opcode : ℕ) → Within rex n (two_byte rex opcode)
  in_two_byte opcode = search (kinds, three) depth 30

module _ (rex : Option ℕ) (n : ℕ) (room : 10 ≤ n) (more : 12 ≤ n) where
  two : Within rex n (Escape (two_byte rex))
  two = wider rex 12 n (Escape (two_byte rex)) more (escape rex 11 (two_byte rex) (in_two_byte rex 11 (omega arith) (omega arith)))

  in_one_byte_0_to_3 : (opcode : ℕ) → Within rex n (one_byte_0_to_3 rex opcode)
  in_one_byte_0_to_3 opcode = search (kinds, two) depth 30

  in_one_byte : (opcode : ℕ) → Within rex n (one_byte rex opcode)
  in_one_byte opcode = search (kinds, in_one_byte_0_to_3, in_one_byte_5, in_one_byte_6, in_one_byte_8, in_one_byte_9, in_one_byte_a, in_one_byte_c, in_one_byte_d, in_one_byte_e, in_one_byte_f) depth 30

in_mandatory_rex : (byte n : ℕ) (room : 10 ≤ n) (opcode : ℕ) → Within (Some byte) n (mandatory_two_byte (Some byte) opcode)
in_mandatory_rex byte n room opcode = search kinds depth 12

in_mandatory : (rex : Option ℕ) (opcode : ℕ) → Within rex 11 (mandatory_two_byte rex opcode)
in_mandatory None opcode =
    either None 11 (omega arith) (opcode == 0x01) _ _ (modrm None 11 (omega arith) _) (
    either None 11 (omega arith) (opcode == 0x1E) _ _ (escape None 10 _ (λ byte. either None 10 (omega arith) (byte == 0xFA) _ _ (ends None 10 (omega arith) _) (no_row None 10 (omega arith)))) (
    either None 11 (omega arith) (opcode == 0xAE) _ _ (no_row None 11 (omega arith)) (no_row None 11 (omega arith))))
in_mandatory (Some byte) opcode = in_mandatory_rex byte 11 (omega arith) opcode

-- the NOP behind 66 and 2E
nop_operand_size : (t : Bool) (modrm : ℕ) (i : Insn) (b : List ℕ) → OperandBytes None modrm (if t then RegisterOrMemory false (λ x. Alone Nop) else NoOperand) i b → length b ≤ 5
nop_operand_size true modrm i b (x, front, back, p, q, e) = joined_size b front back 5 0 (rm_size None false modrm x front p) (let k : length back ≡ 0 = ap length q.1 in omega arith) e
nop_operand_size false modrm i b p = absurd p

nop_row_size : (t : Bool) (i : Insn) (b : List ℕ) → RowBytes None (if t then long_nop None else NoRow) i b → length b ≤ 6
nop_row_size true i b (m, rest, p, e) = let s = nop_operand_size (middle_field m == 0) m i rest p in let k : length b ≡ suc (length rest) = ap length e in omega arith
nop_row_size false i b p = absurd p

nop_escape_size : (i : Insn) (b : List ℕ) → RowBytes None (Escape (nop_two_byte None)) i b → length b ≤ 7
nop_escape_size i b (o, rest, p, e) = let s = nop_row_size (o == 0x1F) i rest p in let k : length b ≡ suc (length rest) = ap length e in omega arith

by_if : (rex : Option ℕ) (n : ℕ) (t : Bool) (r s : Row) → Within rex n r → Within rex n s → Within rex n (if t then r else s)
by_if rex n true r s p q = p
by_if rex n false r s p q = q

nop_pads : Within None 7 (Escape (nop_two_byte None))
nop_pads = record { at = nop_escape_size }

none7 : Within None 7 NoRow
none7 = record { at = λ i b p. absurd p }

nop7 : Within None 7 (Ends (Alone Nop))
nop7 = record { at = λ i b p. let e : length b ≡ 0 = ap length p.1 in omega arith }

-- the longest operands of a prefix
most : Prefix → ℕ
most (pads n) = 7
most (pads_segment n) = 7
most prefix = 12

in_row : (prefix : Prefix) (rex : Option ℕ) → IsRex prefix rex → (opcode : ℕ) → Within rex (most prefix) (row prefix rex opcode)
unfolding most
in_row none rex x opcode = in_one_byte rex 12 (omega arith) (omega arith) opcode
in_row mandatory rex x opcode =
    by_if rex 12 (opcode == 0x90) _ _ (no_rex rex 12 (omega arith) rex _ (ends rex 12 (omega arith) _)) (by_if rex 12 (opcode == 0x0F) _ _ (escape rex 11 (mandatory_two_byte rex) (in_mandatory rex)) (no_row rex 12 (omega arith)))
in_row lock rex x opcode = by_if rex 12 (opcode == 0x0F) _ _ (escape rex 11 (locked_two_byte rex) (in_locked rex 11 (omega arith))) (no_row rex 12 (omega arith))
in_row notrack rex x opcode = in_notrack rex 12 (omega arith) opcode
in_row (pads n) (Some byte) x opcode = absurd (let k = x.1 in cc)
in_row (pads zero) None x opcode = by_if None 7 (opcode == 0x90) _ _ nop7 (by_if None 7 (opcode == 0x0F) _ _ nop_pads none7)
in_row (pads (suc n)) None x opcode = by_if None 7 (opcode == 0x0F) _ _ nop_pads none7
in_row (pads_segment n) (Some byte) x opcode = absurd (let k = x.1 in cc)
in_row (pads_segment n) None x opcode = by_if None 7 (opcode == 0x0F) _ _ nop_pads none7

prefix_size : (prefix : Prefix) (rex : Option ℕ) → IsPrefix prefix → IsRex prefix rex → length (prefix_bytes prefix) + length (rex_bytes rex) + most prefix ≤ 14
unfolding most
prefix_size none None q x = lit≤ tt
prefix_size none (Some byte) q x = lit≤ tt
prefix_size mandatory None q x = lit≤ tt
prefix_size mandatory (Some byte) q x = lit≤ tt
prefix_size lock None q x = lit≤ tt
prefix_size lock (Some byte) q x = lit≤ tt
prefix_size notrack None q x = lit≤ tt
prefix_size notrack (Some byte) q x = lit≤ tt
prefix_size (pads n) None q x = omega (arith, length-replicate {A = ℕ} n 0x66)
prefix_size (pads n) (Some byte) q x = absurd (let k = x.1 in cc)
prefix_size (pads_segment n) None q x = omega (arith, length-replicate {A = ℕ} n 0x66, length-append {A = ℕ} (replicate n 0x66) (0x2E ∷ []))
prefix_size (pads_segment n) (Some byte) q x = absurd (let k = x.1 in cc)

pub form_length : FormLength
form_length i b f =
    let s = (in_row f.prefix f.rex f.is_rex f.opcode).at i f.operands f.row_bytes in
    let p = prefix_size f.prefix f.rex f.is_prefix f.is_rex in
    let e : length b ≡ length (prefix_bytes f.prefix) + (length (rex_bytes f.rex) + suc (length f.operands)) =
    ap length f.whole ∙ length-append (prefix_bytes f.prefix) _ ∙ ap (λ (n : ℕ). length (prefix_bytes f.prefix) + n) (length-append (rex_bytes f.rex) _) in
    (omega arith, omega arith)
