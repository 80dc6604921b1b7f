-- No form of a value is shorter than its canonical form, but for the forms of the accumulator alone.
use Rattle.std.proofs.Common.{◌≡◌, ℕ, zero, suc, ◌+◌, ◌*◌, ◌/◌, ◌%◌, ◌≤◌, Bool, true, false, ◌&&◌, ◌||◌, List, [], ◌∷◌, ◌++◌, length, ℤ, Option, Some, None, refl, sym, ap, subst, ◌∙◌, arith, inl, inr}
use Rattle.std.specs.Prelude.{if◌then◌else◌, ◌==◌, nat_lt}
use Rattle.std.specs.Int.{w8, w32, byte_len}
use Rattle.std.proofs.lemmas.List.{length-append}
use Rattle.std.proofs.lemmas.Option.{cond_some, same_Some}
use Rattle.cet_isa.specs.declared.register.Reg.{Reg}
use Rattle.cet_isa.specs.declared.operand.Width.{Width}
use Rattle.cet_isa.specs.declared.operand.Width.TheVariants.{B1, B4, B8}
use Rattle.cet_isa.specs.declared.operand.Rel.TheVariants.{S, L}
use Rattle.cet_isa.specs.declared.operand.Mem.{Mem}
use Rattle.cet_isa.specs.declared.operand.Rm.{Rm}
use Rattle.cet_isa.specs.declared.operation.AluOp.{AluOp}
use Rattle.cet_isa.specs.declared.operation.AluOp.TheVariants.{Add, Or, Adc, Sbb, And, Sub, Xor, Cmp}
use Rattle.cet_isa.specs.declared.operation.UnOp.{UnOp}
use Rattle.cet_isa.specs.declared.operation.UnOp.TheVariants.{Inc, Dec, Not, Neg}
use Rattle.cet_isa.specs.declared.operation.ShiftOp.{ShiftOp}
use Rattle.cet_isa.specs.declared.operation.ShiftOp.TheVariants.{Rol, Ror, Shl, Shr, Sar}
use Rattle.cet_isa.specs.declared.operation.ShiftCount.{ShiftCount}
use Rattle.cet_isa.specs.declared.operation.ShiftCount.TheVariants as count
use Rattle.cet_isa.specs.declared.operation.MulDivOp.{MulDivOp}
use Rattle.cet_isa.specs.declared.operation.MulDivOp.TheVariants.{Mul, IMul1, Div, IDiv}
use Rattle.cet_isa.specs.declared.operation.Cond.{Cond}
use Rattle.cet_isa.specs.declared.instruction.Insn.{Insn}
use Rattle.cet_isa.specs.declared.instruction.Insn.TheVariants.{EndBr64, Nop, Mov, MovLoad, MovImm, MovAbs, MovZx, MovSx, MovSxd, Lea, Alu, AluLoad, AluImm, Test, TestImm, Unary, Shift, IMul2, IMul3, MulDiv, Cdq, Cdqe, Push, Pop, PushImm, PushMem, Call, CallInd, JmpInd, Jmp, Jcc, SetCc, CMov, Ret, Leave, Xchg, CmpXchg, XAdd, RdSsp, IncSsp, RstorSsp, SavePrevSsp, WrSs, Syscall, Ud2, Hlt}
use Rattle.cet_isa.specs.Operand.{number_width, rex_w, rex_b, register, extended, names_register, low_field}
use Rattle.cet_isa.specs.Row.{End, Alone, Signed8, Signed32, Unsigned8, Operand, NoOperand, NoMore, RegisterOrMemory, Memory, Register, Row, NoRow, Ends, Constant, RegAndRm, RegAndMemory, ModRm, Escape, EndBytes, OperandBytes, RowBytes}
use Rattle.cet_isa.specs.OpcodeMap as map
use Rattle.cet_isa.specs.PrefixedMap.{Prefix, none, mandatory, lock, notrack, pads, pads_segment, prefix_bytes, rex_bytes, row}
use Rattle.cet_isa.specs.Form.{IsBytes}
use Rattle.cet_isa.specs.Canonical.{fits, signed, unsigned, immediate, no_immediate, number, is_extended, needs_rex, Rex, digit, reg_field, RmField, register_field, memory, register_or_memory, form, plain, in_opcode, with_modrm, is_wide, sized, accumulator, extension, short_or_long, alu_number, condition_number, shift_number, product_number, canonical}
use Rattle.cet_isa.specs.Law.{CanonicalIsShortest, is_accumulator}
use Rattle.cet_isa.proofs.Places.{no_byte_named, choice, map_some}
use Rattle.cet_isa.proofs.Operands.{left_bytes, right_bytes, rest_bytes, signed8_fits}
use Rattle.cet_isa.proofs.HasCanonical.{FitsByte, IsWide, wide_by, wide_4, wide_8}
use Rattle.cet_isa.proofs.Shortest.{both_named, Has, has_some, not_asked, rex_cost, RegHas, reg_has, rm_has, named_reg, signed8_size, signed32_size, nothing_size, PlaceCosts, MemCosts, RmCosts, rm_costs, memory_operand_costs, form_size, modrm_cost}

-- the canonical form has m bytes at most, and a REX only where there is one
record ShortValue (rex : Option ℕ) (m : ℕ) (i : Insn) : Type 0 where
  at : (c : List ℕ) → canonical i ≡ Some c → length c ≤ m + length (rex_bytes rex)

-- ---- ends

-- the bytes are k at most
record EndCosts (end : Option (List ℕ)) (k : ℕ) : Type 0 where
  at : (b : List ℕ) → end ≡ Some b → length b ≤ k

nothing_more : EndCosts no_immediate 0
nothing_more = record { at = λ b e. let size = nothing_size b e in omega arith }

byte_end : (z : ℤ) → EndCosts (signed w8 z) 1
byte_end z = record { at = λ b e. let size = signed8_size z b e in omega arith }

long_end : (z : ℤ) → EndCosts (signed w32 z) 4
long_end z = record { at = λ b e. let size = signed32_size z b e in omega arith }

constant_end : (w : Width) (n : ℕ) → EndCosts (unsigned (number_width w) n) (byte_len (number_width w))
constant_end B1 n = record { at = λ b e. let size : 1 ≡ length b = ap length (cond_some _ _ b e).1 in omega arith }
constant_end B4 n = record { at = λ b e. let size : 4 ≡ length b = ap length (cond_some _ _ b e).1 in omega arith }
constant_end B8 n = record { at = λ b e. let size : 8 ≡ length b = ap length (cond_some _ _ b e).1 in omega arith }

abbrev immediate_size : Width → ℕ
immediate_size w = if map.is_byte w then 1 else 4

immediate_end : (w : Width) (z : ℤ) → EndCosts (immediate w z) (immediate_size w)
immediate_end B1 z = byte_end z
immediate_end B4 z = long_end z
immediate_end B8 z = long_end z

-- ---- shapes

module _ (rex : Option ℕ) (n : ℕ) where
  -- /r
  reg_rm_cost : (prefix : Prefix) (w : Bool) (opcode : List ℕ) (byte_reg byte_rm : Bool) (reg : Reg) (operand : Rm) (end : Option (List ℕ)) (k m : ℕ) (c : List ℕ)
      → Has rex w → RegHas rex byte_reg reg → RmCosts rex byte_rm operand n → EndCosts end k → length (prefix_bytes prefix) + length opcode + 1 + n + k ≤ m
      → with_modrm prefix w opcode (reg_field byte_reg reg) (register_or_memory byte_rm operand) end ≡ Some c → length c ≤ m + length (rex_bytes rex)
  reg_rm_cost prefix w opcode byte_reg byte_rm reg operand end k m c h r o last room e =
      modrm_cost prefix w opcode (reg_field byte_reg reg) (register_or_memory byte_rm operand) end rex n k m c h r.high r.needed o.at last.at room e

  reg_memory_cost : (prefix : Prefix) (w : Bool) (opcode : List ℕ) (byte_reg : Bool) (reg : Reg) (mem : Mem) (m : ℕ) (c : List ℕ)
      → Has rex w → RegHas rex byte_reg reg → MemCosts rex mem n → length (prefix_bytes prefix) + length opcode + 1 + n + 0 ≤ m
      → with_modrm prefix w opcode (reg_field byte_reg reg) (memory mem) no_immediate ≡ Some c → length c ≤ m + length (rex_bytes rex)
  reg_memory_cost prefix w opcode byte_reg reg mem m c h r o room e =
      modrm_cost prefix w opcode (reg_field byte_reg reg) (memory mem) no_immediate rex n 0 m c h r.high r.needed o.at nothing_more.at room e

  -- /0 to /7
  digit_cost : (prefix : Prefix) (w : Bool) (opcode : List ℕ) (d : ℕ) (byte_rm : Bool) (operand : Rm) (end : Option (List ℕ)) (k m : ℕ) (c : List ℕ)
      → is_extended d ≡ false → Has rex w → RmCosts rex byte_rm operand n → EndCosts end k → length (prefix_bytes prefix) + length opcode + 1 + n + k ≤ m
      → with_modrm prefix w opcode (digit d) (register_or_memory byte_rm operand) end ≡ Some c → length c ≤ m + length (rex_bytes rex)
  digit_cost prefix w opcode d byte_rm operand end k m c plain h o last room e =
      modrm_cost prefix w opcode (digit d) (register_or_memory byte_rm operand) end rex n k m c h (record { at = λ none. plain }) (not_asked rex) o.at last.at room e

  digit_memory_cost : (prefix : Prefix) (opcode : List ℕ) (d : ℕ) (mem : Mem) (m : ℕ) (c : List ℕ)
      → is_extended d ≡ false → MemCosts rex mem n → length (prefix_bytes prefix) + length opcode + 1 + n + 0 ≤ m
      → with_modrm prefix false opcode (digit d) (memory mem) no_immediate ≡ Some c → length c ≤ m + length (rex_bytes rex)
  digit_memory_cost prefix opcode d mem m c plain o room e =
      modrm_cost prefix false opcode (digit d) (memory mem) no_immediate rex n 0 m c (not_asked rex) (record { at = λ none. plain }) (not_asked rex) o.at nothing_more.at room e

-- no REX and no ModRM
plain_cost : (rex : Option ℕ) (opcode : List ℕ) (end : Option (List ℕ)) (k m : ℕ) (c : List ℕ) → EndCosts end k → length opcode + k ≤ m → plain opcode end ≡ Some c → length c ≤ m + length (rex_bytes rex)
plain_cost rex opcode end k m c last room e =
    let bytes = map_some (λ bytes. opcode ++ bytes) end c e in
    let size = last.at bytes.0 bytes.1 in
    let whole : length c ≡ length opcode + length bytes.0 = ap length (sym bytes.2) ∙ length-append opcode bytes.0 in
    omega arith

-- +r
in_opcode_cost : (rex : Option ℕ) (w : Bool) (opcode : ℕ) (byte : Bool) (reg : Reg) (end : Option (List ℕ)) (k m : ℕ) (c : List ℕ) → Has rex w → RegHas rex byte reg → EndCosts end k → 1 + k ≤ m
    → in_opcode w opcode byte reg end ≡ Some c → length c ≤ m + length (rex_bytes rex)
in_opcode_cost rex w opcode byte reg end k m c h r last room e =
    let want : Rex = record { w = w; r = false; x = false; b = is_extended (number reg); needed = needs_rex byte reg } in
    let bytes = map_some (form none want ((opcode + low_field (number reg)) ∷ [])) end c e in
    let size = last.at bytes.0 bytes.1 in
    let whole : length c ≡ length (form none want ((opcode + low_field (number reg)) ∷ []) bytes.0) = ap length (sym bytes.2) in
    let sum = form_size none want ((opcode + low_field (number reg)) ∷ []) bytes.0 in
    let cost = rex_cost want rex h (not_asked rex) (not_asked rex) r.high r.needed in
    omega arith

-- the short encoding where the number fits, else the long one
either_cost : (rex : Option ℕ) (z : ℤ) (short long : ℕ) (encoding : List ℕ → Option (List ℕ) → Option (List ℕ)) (m : ℕ) (c : List ℕ)
    → (encoding (short ∷ []) (signed w8 z) ≡ Some c → length c ≤ m + length (rex_bytes rex)) → (encoding (long ∷ []) (signed w32 z) ≡ Some c → length c ≤ m + length (rex_bytes rex))
    → short_or_long short long z encoding ≡ Some c → length c ≤ m + length (rex_bytes rex)
either_cost rex z short long encoding m c p q e = elim (choice (fits w8 z) _ _ (Some c) e) [ inl h ↦ p h.1 | inr h ↦ q h.1 ]

-- the short encoding, where the number fits
short_cost : (rex : Option ℕ) (z : ℤ) (short long : ℕ) (encoding : List ℕ → Option (List ℕ) → Option (List ℕ)) (m : ℕ) (c : List ℕ)
    → FitsByte z → (encoding (short ∷ []) (signed w8 z) ≡ Some c → length c ≤ m + length (rex_bytes rex))
    → short_or_long short long z encoding ≡ Some c → length c ≤ m + length (rex_bytes rex)
short_cost rex z short long encoding m c h p e = elim (choice (fits w8 z) _ _ (Some c) e) [ inl k ↦ p k.1 | inr k ↦ absurd (let f = k.0 in let t = h.at in cc) ]

literal_cost : (rex : Option ℕ) (bytes : List ℕ) (m : ℕ) (c : List ℕ) → length bytes ≤ m → Some bytes ≡ Some c → length c ≤ m + length (rex_bytes rex)
literal_cost rex bytes m c room e = let size = ap length (same_Some bytes c e) in omega arith

-- a register alone has no bytes behind ModRM
register_place : (rex : Option ℕ) (reg : Reg) → RegHas rex false reg → (p : RmField) → Some (register_field false reg) ≡ Some p → PlaceCosts rex p 0
register_place rex reg r p e = subst (λ (q : RmField). PlaceCosts rex q 0) (same_Some (register_field false reg) p e) (record { x = not_asked rex; b = r.high; needed = r.needed; size = omega arith })

accumulator_cost : (rex : Option ℕ) (w : Width) (opcode : ℕ) (c : List ℕ) → Has rex (is_wide w) → accumulator w opcode ≡ Some c → length c ≤ 1 + length (rex_bytes rex)
accumulator_cost rex B1 opcode c h e = absurd cc
accumulator_cost rex B4 opcode c h e = let size : 1 ≡ length c = ap length (same_Some (opcode ∷ []) c e) in omega arith
accumulator_cost (Some byte) B8 opcode c h e = let size : 2 ≡ length c = ap length (same_Some (0x48 ∷ opcode ∷ []) c e) in omega arith
accumulator_cost None B8 opcode c h e = absurd (let k = h.at refl in cc)

-- ---- values

short_mov : (rex : Option ℕ) (n : ℕ) (w : Width) (dst : Rm) (src : Reg) → Has rex (is_wide w) → RegHas rex (map.is_byte w) src → RmCosts rex (map.is_byte w) dst n → ShortValue rex (2 + n) (Mov w dst src)
unfolding canonical
short_mov rex n w dst src h r o = record { at = λ c e. reg_rm_cost rex n none (is_wide w) (sized 0x88 w ∷ []) (map.is_byte w) (map.is_byte w) src dst no_immediate 0 (2 + n) c h r o nothing_more (omega arith) e }

short_mov_load : (rex : Option ℕ) (n : ℕ) (w : Width) (dst : Reg) (src : Rm) → Has rex (is_wide w) → RegHas rex (map.is_byte w) dst → RmCosts rex (map.is_byte w) src n → ShortValue rex (2 + n) (MovLoad w dst src)
unfolding canonical
short_mov_load rex n w dst src h r o = record { at = λ c e. reg_rm_cost rex n none (is_wide w) (sized 0x8A w ∷ []) (map.is_byte w) (map.is_byte w) dst src no_immediate 0 (2 + n) c h r o nothing_more (omega arith) e }

short_alu : (rex : Option ℕ) (n : ℕ) (op : AluOp) (w : Width) (dst : Rm) (src : Reg) → Has rex (is_wide w) → RegHas rex (map.is_byte w) src → RmCosts rex (map.is_byte w) dst n → ShortValue rex (2 + n) (Alu op w dst src)
unfolding canonical
short_alu rex n op w dst src h r o = record { at = λ c e. reg_rm_cost rex n none (is_wide w) (sized (alu_number op * 8) w ∷ []) (map.is_byte w) (map.is_byte w) src dst no_immediate 0 (2 + n) c h r o nothing_more (omega arith) e }

short_alu_load : (rex : Option ℕ) (n : ℕ) (op : AluOp) (w : Width) (dst : Reg) (src : Rm) → Has rex (is_wide w) → RegHas rex (map.is_byte w) dst → RmCosts rex (map.is_byte w) src n → ShortValue rex (2 + n) (AluLoad op w dst src)
unfolding canonical
short_alu_load rex n op w dst src h r o = record { at = λ c e. reg_rm_cost rex n none (is_wide w) (sized (alu_number op * 8 + 2) w ∷ []) (map.is_byte w) (map.is_byte w) dst src no_immediate 0 (2 + n) c h r o nothing_more (omega arith) e }

short_test : (rex : Option ℕ) (n : ℕ) (w : Width) (dst : Rm) (src : Reg) → Has rex (is_wide w) → RegHas rex (map.is_byte w) src → RmCosts rex (map.is_byte w) dst n → ShortValue rex (2 + n) (Test w dst src)
unfolding canonical
short_test rex n w dst src h r o = record { at = λ c e. reg_rm_cost rex n none (is_wide w) (sized 0x84 w ∷ []) (map.is_byte w) (map.is_byte w) src dst no_immediate 0 (2 + n) c h r o nothing_more (omega arith) e }

short_xchg : (rex : Option ℕ) (n : ℕ) (w : Width) (dst : Rm) (src : Reg) → Has rex (is_wide w) → RegHas rex (map.is_byte w) src → RmCosts rex (map.is_byte w) dst n → ShortValue rex (2 + n) (Xchg w dst src)
unfolding canonical
short_xchg rex n w dst src h r o = record { at = λ c e. reg_rm_cost rex n none (is_wide w) (sized 0x86 w ∷ []) (map.is_byte w) (map.is_byte w) src dst no_immediate 0 (2 + n) c h r o nothing_more (omega arith) e }

short_movsxd : (rex : Option ℕ) (n : ℕ) (dst : Reg) (src : Rm) → Has rex true → RegHas rex false dst → RmCosts rex false src n → ShortValue rex (2 + n) (MovSxd dst src)
unfolding canonical
short_movsxd rex n dst src h r o = record { at = λ c e. reg_rm_cost rex n none true (0x63 ∷ []) false false dst src no_immediate 0 (2 + n) c h r o nothing_more (omega arith) e }

short_imul2 : (rex : Option ℕ) (n : ℕ) (w : Width) (dst : Reg) (src : Rm) → Has rex (is_wide w) → RegHas rex false dst → RmCosts rex false src n → ShortValue rex (3 + n) (IMul2 w dst src)
unfolding canonical
short_imul2 rex n B1 dst src h r o = record { at = λ c e. absurd cc }
short_imul2 rex n B4 dst src h r o = record { at = λ c e. reg_rm_cost rex n none (is_wide B4) (0x0F ∷ 0xAF ∷ []) false false dst src no_immediate 0 (3 + n) c h r o nothing_more (omega arith) e }
short_imul2 rex n B8 dst src h r o = record { at = λ c e. reg_rm_cost rex n none (is_wide B8) (0x0F ∷ 0xAF ∷ []) false false dst src no_immediate 0 (3 + n) c h r o nothing_more (omega arith) e }

short_movzx : (rex : Option ℕ) (n : ℕ) (w : Width) (dst : Reg) (src : Rm) → Has rex (is_wide w) → RegHas rex false dst → RmCosts rex true src n → ShortValue rex (3 + n) (MovZx w dst src)
unfolding canonical
short_movzx rex n B1 dst src h r o = record { at = λ c e. absurd cc }
short_movzx rex n B4 dst src h r o = record { at = λ c e. reg_rm_cost rex n none (is_wide B4) (0x0F ∷ 0xB6 ∷ []) false true dst src no_immediate 0 (3 + n) c h r o nothing_more (omega arith) e }
short_movzx rex n B8 dst src h r o = record { at = λ c e. reg_rm_cost rex n none (is_wide B8) (0x0F ∷ 0xB6 ∷ []) false true dst src no_immediate 0 (3 + n) c h r o nothing_more (omega arith) e }

short_movsx : (rex : Option ℕ) (n : ℕ) (w : Width) (dst : Reg) (src : Rm) → Has rex (is_wide w) → RegHas rex false dst → RmCosts rex true src n → ShortValue rex (3 + n) (MovSx w dst src)
unfolding canonical
short_movsx rex n B1 dst src h r o = record { at = λ c e. absurd cc }
short_movsx rex n B4 dst src h r o = record { at = λ c e. reg_rm_cost rex n none (is_wide B4) (0x0F ∷ 0xBE ∷ []) false true dst src no_immediate 0 (3 + n) c h r o nothing_more (omega arith) e }
short_movsx rex n B8 dst src h r o = record { at = λ c e. reg_rm_cost rex n none (is_wide B8) (0x0F ∷ 0xBE ∷ []) false true dst src no_immediate 0 (3 + n) c h r o nothing_more (omega arith) e }

short_cmov : (rex : Option ℕ) (n : ℕ) (k : Cond) (w : Width) (dst : Reg) (src : Rm) → Has rex (is_wide w) → RegHas rex false dst → RmCosts rex false src n → ShortValue rex (3 + n) (CMov k w dst src)
unfolding canonical
short_cmov rex n k B1 dst src h r o = record { at = λ c e. absurd cc }
short_cmov rex n k B4 dst src h r o = record { at = λ c e. reg_rm_cost rex n none (is_wide B4) (0x0F ∷ (0x40 + condition_number k) ∷ []) false false dst src no_immediate 0 (3 + n) c h r o nothing_more (omega arith) e }
short_cmov rex n k B8 dst src h r o = record { at = λ c e. reg_rm_cost rex n none (is_wide B8) (0x0F ∷ (0x40 + condition_number k) ∷ []) false false dst src no_immediate 0 (3 + n) c h r o nothing_more (omega arith) e }

short_lea : (rex : Option ℕ) (n : ℕ) (w : Width) (dst : Reg) (mem : Mem) → Has rex (is_wide w) → RegHas rex false dst → MemCosts rex mem n → ShortValue rex (2 + n) (Lea w dst mem)
unfolding canonical
short_lea rex n B1 dst mem h r o = record { at = λ c e. absurd cc }
short_lea rex n B4 dst mem h r o = record { at = λ c e. reg_memory_cost rex n none (is_wide B4) (0x8D ∷ []) false dst mem (2 + n) c h r o (omega arith) e }
short_lea rex n B8 dst mem h r o = record { at = λ c e. reg_memory_cost rex n none (is_wide B8) (0x8D ∷ []) false dst mem (2 + n) c h r o (omega arith) e }

short_wrss : (rex : Option ℕ) (n : ℕ) (mem : Mem) (src : Reg) → Has rex true → RegHas rex false src → MemCosts rex mem n → ShortValue rex (4 + n) (WrSs mem src)
unfolding canonical
short_wrss rex n mem src h r o = record { at = λ c e. reg_memory_cost rex n none true (0x0F ∷ 0x38 ∷ 0xF6 ∷ []) false src mem (4 + n) c h r o (omega arith) e }

short_cmpxchg : (rex : Option ℕ) (n : ℕ) (w : Width) (dst : Mem) (src : Reg) → Has rex (is_wide w) → RegHas rex (map.is_byte w) src → MemCosts rex dst n → ShortValue rex (3 + n) (CmpXchg w dst src false)
unfolding canonical
short_cmpxchg rex n w dst src h r o = record { at = λ c e. reg_memory_cost rex n none (is_wide w) (0x0F ∷ sized 0xB0 w ∷ []) (map.is_byte w) src dst (3 + n) c h r o (omega arith) e }

short_cmpxchg_lock : (rex : Option ℕ) (n : ℕ) (w : Width) (dst : Mem) (src : Reg) → Has rex (is_wide w) → RegHas rex (map.is_byte w) src → MemCosts rex dst n → ShortValue rex (4 + n) (CmpXchg w dst src true)
unfolding canonical
short_cmpxchg_lock rex n w dst src h r o = record { at = λ c e. reg_memory_cost rex n lock (is_wide w) (0x0F ∷ sized 0xB0 w ∷ []) (map.is_byte w) src dst (4 + n) c h r o (omega arith) e }

short_xadd : (rex : Option ℕ) (n : ℕ) (w : Width) (dst : Mem) (src : Reg) → Has rex (is_wide w) → RegHas rex (map.is_byte w) src → MemCosts rex dst n → ShortValue rex (3 + n) (XAdd w dst src false)
unfolding canonical
short_xadd rex n w dst src h r o = record { at = λ c e. reg_memory_cost rex n none (is_wide w) (0x0F ∷ sized 0xC0 w ∷ []) (map.is_byte w) src dst (3 + n) c h r o (omega arith) e }

short_xadd_lock : (rex : Option ℕ) (n : ℕ) (w : Width) (dst : Mem) (src : Reg) → Has rex (is_wide w) → RegHas rex (map.is_byte w) src → MemCosts rex dst n → ShortValue rex (4 + n) (XAdd w dst src true)
unfolding canonical
short_xadd_lock rex n w dst src h r o = record { at = λ c e. reg_memory_cost rex n lock (is_wide w) (0x0F ∷ sized 0xC0 w ∷ []) (map.is_byte w) src dst (4 + n) c h r o (omega arith) e }

short_mov_imm : (rex : Option ℕ) (n : ℕ) (w : Width) (dst : Rm) (z : ℤ) → Has rex (is_wide w) → RmCosts rex (map.is_byte w) dst n → ShortValue rex (2 + n + (immediate_size w)) (MovImm w dst z)
unfolding canonical
short_mov_imm rex n w dst z h o = record { at = λ c e. digit_cost rex n none (is_wide w) (sized 0xC6 w ∷ []) 0 (map.is_byte w) dst (immediate w z) (immediate_size w) (2 + n + (immediate_size w)) c refl h o (immediate_end w z) (omega arith) e }

short_test_imm : (rex : Option ℕ) (n : ℕ) (w : Width) (dst : Rm) (z : ℤ) → Has rex (is_wide w) → RmCosts rex (map.is_byte w) dst n → ShortValue rex (2 + n + (immediate_size w)) (TestImm w dst z)
unfolding canonical
short_test_imm rex n w dst z h o = record { at = λ c e. digit_cost rex n none (is_wide w) (sized 0xF6 w ∷ []) 0 (map.is_byte w) dst (immediate w z) (immediate_size w) (2 + n + (immediate_size w)) c refl h o (immediate_end w z) (omega arith) e }

alu_digit : (op : AluOp) → is_extended (alu_number op) ≡ false
alu_digit Add = refl
alu_digit Or = refl
alu_digit Adc = refl
alu_digit Sbb = refl
alu_digit And = refl
alu_digit Sub = refl
alu_digit Xor = refl
alu_digit Cmp = refl

shift_digit : (op : ShiftOp) → is_extended (shift_number op) ≡ false
shift_digit Rol = refl
shift_digit Ror = refl
shift_digit Shl = refl
shift_digit Shr = refl
shift_digit Sar = refl

product_digit : (op : MulDivOp) → is_extended (product_number op) ≡ false
product_digit Mul = refl
product_digit IMul1 = refl
product_digit Div = refl
product_digit IDiv = refl

short_alu_imm_byte : (rex : Option ℕ) (n : ℕ) (op : AluOp) (dst : Rm) (z : ℤ) → Has rex false → RmCosts rex true dst n → ShortValue rex (2 + n + 1) (AluImm op B1 dst z)
unfolding canonical
short_alu_imm_byte rex n op dst z h o = record { at = λ c e. digit_cost rex n none false (0x80 ∷ []) (alu_number op) true dst (signed w8 z) 1 (2 + n + 1) c (alu_digit op) h o (byte_end z) (omega arith) e }

short_alu_imm_short : (rex : Option ℕ) (n : ℕ) (op : AluOp) (w : Width) (dst : Rm) (z : ℤ) → IsWide w → Has rex (is_wide w) → RmCosts rex (map.is_byte w) dst n → FitsByte z → ShortValue rex (2 + n + 1) (AluImm op w dst z)
unfolding canonical
short_alu_imm_short rex n op B1 dst z g h o f = record { at = λ c e. absurd (let k = g.at in cc) }
short_alu_imm_short rex n op B4 dst z g h o f = record { at = λ c e. short_cost rex z 0x83 0x81 (λ opcode end. extension B4 opcode (alu_number op) dst end) (2 + n + 1) c f (λ q. digit_cost rex n none (is_wide B4) (0x83 ∷ []) (alu_number op) false dst (signed w8 z) 1 (2 + n + 1) c (alu_digit op) h o (byte_end z) (omega arith) q) e }
short_alu_imm_short rex n op B8 dst z g h o f = record { at = λ c e. short_cost rex z 0x83 0x81 (λ opcode end. extension B8 opcode (alu_number op) dst end) (2 + n + 1) c f (λ q. digit_cost rex n none (is_wide B8) (0x83 ∷ []) (alu_number op) false dst (signed w8 z) 1 (2 + n + 1) c (alu_digit op) h o (byte_end z) (omega arith) q) e }

short_alu_imm_long : (rex : Option ℕ) (n : ℕ) (op : AluOp) (w : Width) (dst : Rm) (z : ℤ) → IsWide w → Has rex (is_wide w) → RmCosts rex (map.is_byte w) dst n → ShortValue rex (2 + n + 4) (AluImm op w dst z)
unfolding canonical
short_alu_imm_long rex n op B1 dst z g h o = record { at = λ c e. absurd (let k = g.at in cc) }
short_alu_imm_long rex n op B4 dst z g h o = record { at = λ c e. either_cost rex z 0x83 0x81 (λ opcode end. extension B4 opcode (alu_number op) dst end) (2 + n + 4) c (λ q. digit_cost rex n none (is_wide B4) (0x83 ∷ []) (alu_number op) false dst (signed w8 z) 1 (2 + n + 4) c (alu_digit op) h o (byte_end z) (omega arith) q) (λ q. digit_cost rex n none (is_wide B4) (0x81 ∷ []) (alu_number op) false dst (signed w32 z) 4 (2 + n + 4) c (alu_digit op) h o (long_end z) (omega arith) q) e }
short_alu_imm_long rex n op B8 dst z g h o = record { at = λ c e. either_cost rex z 0x83 0x81 (λ opcode end. extension B8 opcode (alu_number op) dst end) (2 + n + 4) c (λ q. digit_cost rex n none (is_wide B8) (0x83 ∷ []) (alu_number op) false dst (signed w8 z) 1 (2 + n + 4) c (alu_digit op) h o (byte_end z) (omega arith) q) (λ q. digit_cost rex n none (is_wide B8) (0x81 ∷ []) (alu_number op) false dst (signed w32 z) 4 (2 + n + 4) c (alu_digit op) h o (long_end z) (omega arith) q) e }

short_imul3_short : (rex : Option ℕ) (n : ℕ) (w : Width) (dst : Reg) (src : Rm) (z : ℤ) → Has rex (is_wide w) → RegHas rex false dst → RmCosts rex false src n → FitsByte z → ShortValue rex (2 + n + 1) (IMul3 w dst src z)
unfolding canonical
short_imul3_short rex n B1 dst src z h r o f = record { at = λ c e. absurd cc }
short_imul3_short rex n B4 dst src z h r o f = record { at = λ c e. short_cost rex z 0x6B 0x69 (λ opcode end. with_modrm none (is_wide B4) opcode (reg_field false dst) (register_or_memory false src) end) (2 + n + 1) c f (λ q. reg_rm_cost rex n none (is_wide B4) (0x6B ∷ []) false false dst src (signed w8 z) 1 (2 + n + 1) c h r o (byte_end z) (omega arith) q) e }
short_imul3_short rex n B8 dst src z h r o f = record { at = λ c e. short_cost rex z 0x6B 0x69 (λ opcode end. with_modrm none (is_wide B8) opcode (reg_field false dst) (register_or_memory false src) end) (2 + n + 1) c f (λ q. reg_rm_cost rex n none (is_wide B8) (0x6B ∷ []) false false dst src (signed w8 z) 1 (2 + n + 1) c h r o (byte_end z) (omega arith) q) e }

short_imul3_long : (rex : Option ℕ) (n : ℕ) (w : Width) (dst : Reg) (src : Rm) (z : ℤ) → Has rex (is_wide w) → RegHas rex false dst → RmCosts rex false src n → ShortValue rex (2 + n + 4) (IMul3 w dst src z)
unfolding canonical
short_imul3_long rex n B1 dst src z h r o = record { at = λ c e. absurd cc }
short_imul3_long rex n B4 dst src z h r o = record { at = λ c e. either_cost rex z 0x6B 0x69 (λ opcode end. with_modrm none (is_wide B4) opcode (reg_field false dst) (register_or_memory false src) end) (2 + n + 4) c (λ q. reg_rm_cost rex n none (is_wide B4) (0x6B ∷ []) false false dst src (signed w8 z) 1 (2 + n + 4) c h r o (byte_end z) (omega arith) q) (λ q. reg_rm_cost rex n none (is_wide B4) (0x69 ∷ []) false false dst src (signed w32 z) 4 (2 + n + 4) c h r o (long_end z) (omega arith) q) e }
short_imul3_long rex n B8 dst src z h r o = record { at = λ c e. either_cost rex z 0x6B 0x69 (λ opcode end. with_modrm none (is_wide B8) opcode (reg_field false dst) (register_or_memory false src) end) (2 + n + 4) c (λ q. reg_rm_cost rex n none (is_wide B8) (0x6B ∷ []) false false dst src (signed w8 z) 1 (2 + n + 4) c h r o (byte_end z) (omega arith) q) (λ q. reg_rm_cost rex n none (is_wide B8) (0x69 ∷ []) false false dst src (signed w32 z) 4 (2 + n + 4) c h r o (long_end z) (omega arith) q) e }

short_unary : (rex : Option ℕ) (n : ℕ) (op : UnOp) (w : Width) (dst : Rm) → Has rex (is_wide w) → RmCosts rex (map.is_byte w) dst n → ShortValue rex (2 + n) (Unary op w dst)
unfolding canonical
short_unary rex n Inc w dst h o = record { at = λ c e. digit_cost rex n none (is_wide w) (sized 0xFE w ∷ []) 0 (map.is_byte w) dst no_immediate 0 (2 + n) c refl h o nothing_more (omega arith) e }
short_unary rex n Dec w dst h o = record { at = λ c e. digit_cost rex n none (is_wide w) (sized 0xFE w ∷ []) 1 (map.is_byte w) dst no_immediate 0 (2 + n) c refl h o nothing_more (omega arith) e }
short_unary rex n Not w dst h o = record { at = λ c e. digit_cost rex n none (is_wide w) (sized 0xF6 w ∷ []) 2 (map.is_byte w) dst no_immediate 0 (2 + n) c refl h o nothing_more (omega arith) e }
short_unary rex n Neg w dst h o = record { at = λ c e. digit_cost rex n none (is_wide w) (sized 0xF6 w ∷ []) 3 (map.is_byte w) dst no_immediate 0 (2 + n) c refl h o nothing_more (omega arith) e }

short_shift_cl : (rex : Option ℕ) (n : ℕ) (op : ShiftOp) (w : Width) (dst : Rm) → Has rex (is_wide w) → RmCosts rex (map.is_byte w) dst n → ShortValue rex (2 + n) (Shift op w dst count.Cl)
unfolding canonical
short_shift_cl rex n op w dst h o = record { at = λ c e. digit_cost rex n none (is_wide w) (sized 0xD2 w ∷ []) (shift_number op) (map.is_byte w) dst no_immediate 0 (2 + n) c (shift_digit op) h o nothing_more (omega arith) e }

short_shift_one : (rex : Option ℕ) (n : ℕ) (op : ShiftOp) (w : Width) (dst : Rm) → Has rex (is_wide w) → RmCosts rex (map.is_byte w) dst n → ShortValue rex (2 + n) (Shift op w dst (count.Imm 1))
unfolding canonical
short_shift_one rex n op w dst h o = record { at = λ c e. digit_cost rex n none (is_wide w) (sized 0xD0 w ∷ []) (shift_number op) (map.is_byte w) dst no_immediate 0 (2 + n) c (shift_digit op) h o nothing_more (omega arith) e }

short_shift : (rex : Option ℕ) (n : ℕ) (op : ShiftOp) (w : Width) (dst : Rm) (by : ℕ) → Has rex (is_wide w) → RmCosts rex (map.is_byte w) dst n → ShortValue rex (2 + n + 1) (Shift op w dst (count.Imm by))
unfolding canonical
short_shift rex n op w dst by h o = record { at = λ c e. elim (choice (by == 1) _ _ (Some c) e) [ inl q ↦ digit_cost rex n none (is_wide w) (sized 0xD0 w ∷ []) (shift_number op) (map.is_byte w) dst no_immediate 0 (2 + n + 1) c (shift_digit op) h o nothing_more (omega arith) q.1 | inr q ↦ digit_cost rex n none (is_wide w) (sized 0xC0 w ∷ []) (shift_number op) (map.is_byte w) dst (unsigned w8 by) 1 (2 + n + 1) c (shift_digit op) h o (constant_end B1 by) (omega arith) q.1 ] }

short_muldiv : (rex : Option ℕ) (n : ℕ) (op : MulDivOp) (w : Width) (src : Rm) → Has rex (is_wide w) → RmCosts rex false src n → ShortValue rex (2 + n) (MulDiv op w src)
unfolding canonical
short_muldiv rex n op B1 src h o = record { at = λ c e. absurd cc }
short_muldiv rex n op B4 src h o = record { at = λ c e. digit_cost rex n none (is_wide B4) (0xF7 ∷ []) (product_number op) false src no_immediate 0 (2 + n) c (product_digit op) h o nothing_more (omega arith) e }
short_muldiv rex n op B8 src h o = record { at = λ c e. digit_cost rex n none (is_wide B8) (0xF7 ∷ []) (product_number op) false src no_immediate 0 (2 + n) c (product_digit op) h o nothing_more (omega arith) e }

short_call_ind : (rex : Option ℕ) (n : ℕ) (target : Rm) → RmCosts rex false target n → ShortValue rex (2 + n) (CallInd target false)
unfolding canonical
short_call_ind rex n target o = record { at = λ c e. digit_cost rex n none false (0xFF ∷ []) 2 false target no_immediate 0 (2 + n) c refl (not_asked rex) o nothing_more (omega arith) e }

short_call_ind_notrack : (rex : Option ℕ) (n : ℕ) (target : Rm) → RmCosts rex false target n → ShortValue rex (3 + n) (CallInd target true)
unfolding canonical
short_call_ind_notrack rex n target o = record { at = λ c e. digit_cost rex n notrack false (0xFF ∷ []) 2 false target no_immediate 0 (3 + n) c refl (not_asked rex) o nothing_more (omega arith) e }

short_jmp_ind : (rex : Option ℕ) (n : ℕ) (target : Rm) → RmCosts rex false target n → ShortValue rex (2 + n) (JmpInd target false)
unfolding canonical
short_jmp_ind rex n target o = record { at = λ c e. digit_cost rex n none false (0xFF ∷ []) 4 false target no_immediate 0 (2 + n) c refl (not_asked rex) o nothing_more (omega arith) e }

short_jmp_ind_notrack : (rex : Option ℕ) (n : ℕ) (target : Rm) → RmCosts rex false target n → ShortValue rex (3 + n) (JmpInd target true)
unfolding canonical
short_jmp_ind_notrack rex n target o = record { at = λ c e. digit_cost rex n notrack false (0xFF ∷ []) 4 false target no_immediate 0 (3 + n) c refl (not_asked rex) o nothing_more (omega arith) e }

short_set_cc : (rex : Option ℕ) (n : ℕ) (k : Cond) (dst : Rm) → RmCosts rex true dst n → ShortValue rex (3 + n) (SetCc k dst)
unfolding canonical
short_set_cc rex n k dst o = record { at = λ c e. digit_cost rex n none false (0x0F ∷ (0x90 + condition_number k) ∷ []) 0 true dst no_immediate 0 (3 + n) c refl (not_asked rex) o nothing_more (omega arith) e }

short_push_mem : (rex : Option ℕ) (n : ℕ) (mem : Mem) → MemCosts rex mem n → ShortValue rex (2 + n) (PushMem mem)
unfolding canonical
short_push_mem rex n mem o = record { at = λ c e. digit_memory_cost rex n none (0xFF ∷ []) 6 mem (2 + n) c refl o (omega arith) e }

short_rstorssp : (rex : Option ℕ) (n : ℕ) (mem : Mem) → MemCosts rex mem n → ShortValue rex (4 + n) (RstorSsp mem)
unfolding canonical
short_rstorssp rex n mem o = record { at = λ c e. digit_memory_cost rex n mandatory (0x0F ∷ 0x01 ∷ []) 5 mem (4 + n) c refl o (omega arith) e }

short_rdssp : (rex : Option ℕ) (reg : Reg) → Has rex true → RegHas rex false reg → ShortValue rex (4) (RdSsp reg)
unfolding canonical
short_rdssp rex reg h r = record { at = λ c e. modrm_cost mandatory true (0x0F ∷ 0x1E ∷ []) (digit 1) (Some (register_field false reg)) no_immediate rex 0 0 4 c h (record { at = λ none. refl }) (not_asked rex) (λ p q. register_place rex reg r p q) nothing_more.at (omega arith) e }

short_incssp : (rex : Option ℕ) (reg : Reg) → Has rex true → RegHas rex false reg → ShortValue rex (4) (IncSsp reg)
unfolding canonical
short_incssp rex reg h r = record { at = λ c e. modrm_cost mandatory true (0x0F ∷ 0xAE ∷ []) (digit 5) (Some (register_field false reg)) no_immediate rex 0 0 4 c h (record { at = λ none. refl }) (not_asked rex) (λ p q. register_place rex reg r p q) nothing_more.at (omega arith) e }

short_push : (rex : Option ℕ) (src : Reg) → RegHas rex false src → ShortValue rex (1) (Push src)
unfolding canonical
short_push rex src r = record { at = λ c e. in_opcode_cost rex false 0x50 false src no_immediate 0 1 c (not_asked rex) r nothing_more (omega arith) e }

short_pop : (rex : Option ℕ) (dst : Reg) → RegHas rex false dst → ShortValue rex (1) (Pop dst)
unfolding canonical
short_pop rex dst r = record { at = λ c e. in_opcode_cost rex false 0x58 false dst no_immediate 0 1 c (not_asked rex) r nothing_more (omega arith) e }

short_movabs : (rex : Option ℕ) (w : Width) (dst : Reg) (by : ℕ) → Has rex (is_wide w) → RegHas rex (map.is_byte w) dst → ShortValue rex (1 + byte_len (number_width w)) (MovAbs w dst by)
unfolding canonical
short_movabs rex w dst by h r = record { at = λ c e. in_opcode_cost rex (is_wide w) (if map.is_byte w then 0xB0 else 0xB8) (map.is_byte w) dst (unsigned (number_width w) by) (byte_len (number_width w)) (1 + byte_len (number_width w)) c h r (constant_end w by) (omega arith) e }

short_call : (rex : Option ℕ) (z : ℤ) → ShortValue rex (5) (Call z)
unfolding canonical
short_call rex z = record { at = λ c e. plain_cost rex (0xE8 ∷ []) (signed w32 z) 4 5 c (long_end z) (omega arith) e }

short_jmp_short : (rex : Option ℕ) (z : ℤ) → ShortValue rex (2) (Jmp (S z))
unfolding canonical
short_jmp_short rex z = record { at = λ c e. plain_cost rex (0xEB ∷ []) (signed w8 z) 1 2 c (byte_end z) (omega arith) e }

short_jmp_long : (rex : Option ℕ) (z : ℤ) → ShortValue rex (5) (Jmp (L z))
unfolding canonical
short_jmp_long rex z = record { at = λ c e. plain_cost rex (0xE9 ∷ []) (signed w32 z) 4 5 c (long_end z) (omega arith) e }

short_jcc_short : (rex : Option ℕ) (k : Cond) (z : ℤ) → ShortValue rex (2) (Jcc k (S z))
unfolding canonical
short_jcc_short rex k z = record { at = λ c e. plain_cost rex ((0x70 + condition_number k) ∷ []) (signed w8 z) 1 2 c (byte_end z) (omega arith) e }

short_jcc_long : (rex : Option ℕ) (k : Cond) (z : ℤ) → ShortValue rex (6) (Jcc k (L z))
unfolding canonical
short_jcc_long rex k z = record { at = λ c e. plain_cost rex (0x0F ∷ (0x80 + condition_number k) ∷ []) (signed w32 z) 4 6 c (long_end z) (omega arith) e }

short_push_imm_short : (rex : Option ℕ) (z : ℤ) → FitsByte z → ShortValue rex (2) (PushImm z)
unfolding canonical
short_push_imm_short rex z f = record { at = λ c e. short_cost rex z 0x6A 0x68 plain 2 c f (λ q. plain_cost rex (0x6A ∷ []) (signed w8 z) 1 2 c (byte_end z) (omega arith) q) e }

short_push_imm_long : (rex : Option ℕ) (z : ℤ) → ShortValue rex (5) (PushImm z)
unfolding canonical
short_push_imm_long rex z = record { at = λ c e. either_cost rex z 0x6A 0x68 plain 5 c (λ q. plain_cost rex (0x6A ∷ []) (signed w8 z) 1 5 c (byte_end z) (omega arith) q) (λ q. plain_cost rex (0x68 ∷ []) (signed w32 z) 4 5 c (long_end z) (omega arith) q) e }

short_ret : (rex : Option ℕ) → ShortValue rex (1) (Ret)
unfolding canonical
short_ret rex = record { at = λ c e. literal_cost rex (0xC3 ∷ []) 1 c (omega arith) e }

short_leave : (rex : Option ℕ) → ShortValue rex (1) (Leave)
unfolding canonical
short_leave rex = record { at = λ c e. literal_cost rex (0xC9 ∷ []) 1 c (omega arith) e }

short_hlt : (rex : Option ℕ) → ShortValue rex (1) (Hlt)
unfolding canonical
short_hlt rex = record { at = λ c e. literal_cost rex (0xF4 ∷ []) 1 c (omega arith) e }

short_syscall : (rex : Option ℕ) → ShortValue rex (2) (Syscall)
unfolding canonical
short_syscall rex = record { at = λ c e. literal_cost rex (0x0F ∷ 0x05 ∷ []) 2 c (omega arith) e }

short_ud2 : (rex : Option ℕ) → ShortValue rex (2) (Ud2)
unfolding canonical
short_ud2 rex = record { at = λ c e. literal_cost rex (0x0F ∷ 0x0B ∷ []) 2 c (omega arith) e }

short_endbr64 : (rex : Option ℕ) → ShortValue rex (4) (EndBr64)
unfolding canonical
short_endbr64 rex = record { at = λ c e. literal_cost rex (0xF3 ∷ 0x0F ∷ 0x1E ∷ 0xFA ∷ []) 4 c (omega arith) e }

short_saveprevssp : (rex : Option ℕ) → ShortValue rex (4) (SavePrevSsp)
unfolding canonical
short_saveprevssp rex = record { at = λ c e. literal_cost rex (0xF3 ∷ 0x0F ∷ 0x01 ∷ 0xEA ∷ []) 4 c (omega arith) e }

short_nop : (rex : Option ℕ) → ShortValue rex (1) (Nop)
unfolding canonical
short_nop rex = record { at = λ c e. literal_cost rex (0x90 ∷ []) 1 c (omega arith) e }

short_nop_pause : (rex : Option ℕ) → ShortValue rex (2) (Nop)
unfolding canonical
short_nop_pause rex = record { at = λ c e. literal_cost rex (0x90 ∷ []) 2 c (omega arith) e }

short_nop_long : (rex : Option ℕ) (n : ℕ) → ShortValue rex (3 + n) (Nop)
unfolding canonical
short_nop_long rex n = record { at = λ c e. literal_cost rex (0x90 ∷ []) (3 + n) c (omega arith) e }

short_cdq : (rex : Option ℕ) (w : Width) → Has rex (is_wide w) → ShortValue rex (1) (Cdq w)
unfolding canonical
short_cdq rex w h = record { at = λ c e. accumulator_cost rex w 0x99 c h e }

short_cdqe : (rex : Option ℕ) (w : Width) → Has rex (is_wide w) → ShortValue rex (1) (Cdqe w)
unfolding canonical
short_cdqe rex w h = record { at = λ c e. accumulator_cost rex w 0x98 c h e }

-- ---- rows: what the bytes of each part cost

more : (rex : Option ℕ) (m k : ℕ) (i j : Insn) → i ≡ j → m ≤ k → ShortValue rex m j → ShortValue rex k i
more rex m k i j e le h = subst (λ (x : Insn). ShortValue rex k x) (sym e) (record { at = λ c f. let cost = h.at c f in omega arith })

record ShortEnd (rex : Option ℕ) (m : ℕ) (e : End) : Type 0 where
  at : (i : Insn) (b : List ℕ) → IsBytes b → EndBytes e i b → ShortValue rex (m + length b) i

record ShortOperand (rex : Option ℕ) (m modrm : ℕ) (o : Operand) : Type 0 where
  at : (i : Insn) (b : List ℕ) → IsBytes b → OperandBytes rex modrm o i b → ShortValue rex (m + length b) i

record ShortRow (rex : Option ℕ) (m : ℕ) (r : Row) : Type 0 where
  at : (i : Insn) (b : List ℕ) → IsBytes b → RowBytes rex r i b → ShortValue rex (m + length b) i

module _ (rex : Option ℕ) (m : ℕ) where
  alone : (i : Insn) → ShortValue rex m i → ShortEnd rex m (Alone i)
  alone i h = record { at = λ j b y p. more rex m (m + length b) j i p.0 (omega arith) h }

  signed8 : (f : ℤ → Insn) → ((z : ℤ) → FitsByte z → ShortValue rex (m + 1) (f z)) → ShortEnd rex m (Signed8 f)
  signed8 f h = record { at = λ i b y p. let size : length b ≡ 1 = p.1.0 in more rex (m + 1) (m + length b) i (f p.0) p.2 (omega arith) (h p.0 (record { at = signed8_fits p.0 b y p.1 })) }

  signed32 : (f : ℤ → Insn) → ((z : ℤ) → ShortValue rex (m + 4) (f z)) → ShortEnd rex m (Signed32 f)
  signed32 f h = record { at = λ i b y p. let size : length b ≡ 4 = p.1.0 in more rex (m + 4) (m + length b) i (f p.0) p.2 (omega arith) (h p.0) }

  unsigned8 : (f : ℕ → Insn) → ((n : ℕ) → ShortValue rex (m + 1) (f n)) → ShortEnd rex m (Unsigned8 f)
  unsigned8 f h = record { at = λ i b y p. let size : length b ≡ 1 = p.1.0 in more rex (m + 1) (m + length b) i (f p.0) p.2 (omega arith) (h p.0) }

  immediates : (w : Width) (f : ℤ → Insn) → ((z : ℤ) → ShortValue rex (m + immediate_size w) (f z)) → ShortEnd rex m (map.immediate w f)
  immediates B1 f h = signed8 f (λ z k. h z)
  immediates B4 f h = signed32 f h
  immediates B8 f h = signed32 f h

  no_operand : (modrm : ℕ) → ShortOperand rex m modrm NoOperand
  no_operand modrm = record { at = λ i b y p. absurd p }

  no_more : (modrm : ℕ) (i : Insn) → ShortValue rex m i → ShortOperand rex m modrm (NoMore i)
  no_more modrm i h = record { at = λ j b y p. more rex m (m + length b) j i p.0 (omega arith) h }

  register_operand : (modrm : ℕ) (end : Reg → End) → ((x : Reg) → RegHas rex false x → ShortEnd rex m (end x)) → ShortOperand rex m modrm (Register end)
  register_operand modrm end h = record { at = λ i b y p. (h _ (rm_has rex false modrm (both_named _ _ p.0))).at i b y p.1 }

  either_operand : (modrm : ℕ) (t : Bool) (o p : Operand) → ShortOperand rex m modrm o → ShortOperand rex m modrm p → ShortOperand rex m modrm (if t then o else p)
  either_operand modrm true o p h k = h
  either_operand modrm false o p h k = k

  no_row : ShortRow rex m NoRow
  no_row = record { at = λ i b y p. absurd p }

  ends : (end : End) → ShortEnd rex m end → ShortRow rex m (Ends end)
  ends end h = record { at = λ i b y p. h.at i b y p }

  constant : (w : Width) (f : ℕ → Insn) → ((n : ℕ) → ShortValue rex (m + byte_len (number_width w)) (f n)) → ShortRow rex m (Constant w f)
  constant w f h = record { at = λ i b y p. let size : length b ≡ byte_len (number_width w) = p.1.0 in more rex (m + byte_len (number_width w)) (m + length b) i (f p.0) p.2 (omega arith) (h p.0) }

  -- the test holds on the one side, and fails on the other
  either : (t : Bool) (r s : Row) → (t ≡ true → ShortRow rex m r) → (t ≡ false → ShortRow rex m s) → ShortRow rex m (if t then r else s)
  either true r s h k = h refl
  either false r s h k = k refl

  in_condition : (o : Option Cond) (r : Cond → Row) → ((c : Cond) → ShortRow rex m (r c)) → ShortRow rex m (map.if_condition o r)
  in_condition None r h = no_row
  in_condition (Some c) r h = h c

  no_rex : (rex2 : Option ℕ) (r : Row) → ShortRow rex m r → ShortRow rex m (map.plain rex2 r)
  no_rex None r h = h
  no_rex (Some byte) r h = no_row

-- an operand, and the end behind it
module _ (rex : Option ℕ) (m : ℕ) where
  behind : (n : ℕ) (end : End) (i : Insn) (front back b : List ℕ) → n ≡ length front → b ≡ front ++ back → IsBytes b → EndBytes end i back → ShortEnd rex (m + n) end → ShortValue rex (m + length b) i
  behind n end i front back b size e y p h =
      let whole : length b ≡ length front + length back = ap length e ∙ length-append front back in
      more rex (m + n + length back) (m + length b) i i refl (omega arith) (h.at i back (right_bytes front back (subst (λ (l : List ℕ). IsBytes l) e y)) p)

  any_operand : (modrm : ℕ) (is_byte : Bool) (end : Rm → End) → ((x : Rm) (n : ℕ) → RmCosts rex is_byte x n → ShortEnd rex (m + n) (end x)) → ShortOperand rex m modrm (RegisterOrMemory is_byte end)
  any_operand modrm is_byte end h = record {
    at = λ i b y p.
        let front = left_bytes p.1 p.2 (subst (λ (l : List ℕ). IsBytes l) p.5 y) in
        behind (length p.1) (end p.0) i p.1 p.2 b refl p.5 y p.4 (h p.0 (length p.1) (rm_costs rex is_byte modrm p.0 p.1 front p.3));
  }

  memory_operand : (modrm : ℕ) (end : Mem → End) → ((x : Mem) (n : ℕ) → MemCosts rex x n → ShortEnd rex (m + n) (end x)) → ShortOperand rex m modrm (Memory end)
  memory_operand modrm end h = record {
    at = λ i b y p.
        let front = left_bytes p.1 p.2 (subst (λ (l : List ℕ). IsBytes l) p.5 y) in
        behind (length p.1) (end p.0) i p.1 p.2 b refl p.5 y p.4 (h p.0 (length p.1) (memory_operand_costs rex modrm p.0 p.1 front p.3));
  }

  shift_operands : (modrm : ℕ) (w : Width) (end : (ShiftCount → Insn) → End) (o : Option ShiftOp)
      → ((op : ShiftOp) (dst : Rm) (n : ℕ) → RmCosts rex (map.is_byte w) dst n → ShortEnd rex (m + n) (end (λ by. Shift op w dst by))) → ShortOperand rex m modrm (map.shift_operand w end o)
  shift_operands modrm w end None h = no_operand rex m modrm
  shift_operands modrm w end (Some op) h = any_operand modrm _ _ (λ dst n k. h op dst n k)

  reg_rm : (byte_reg byte_rm : Bool) (end : Reg → Rm → End) → ((x : Reg) (y : Rm) (n : ℕ) → RegHas rex byte_reg x → RmCosts rex byte_rm y n → ShortEnd rex (m + 1 + n) (end x y)) → ShortRow rex m (RegAndRm byte_reg byte_rm end)
  reg_rm byte_reg byte_rm end h = record {
    at = λ i b y p.
        let read = p.3 in
        let front : IsBytes (read.0 ∷ read.1) = subst (λ (l : List ℕ). IsBytes l) read.3 (left_bytes p.1 p.2 (subst (λ (l : List ℕ). IsBytes l) p.5 y)) in
        let same = read.2.1.2 in
        let reg : RegHas rex byte_reg p.0.0 = subst (λ (x : Reg). RegHas rex byte_reg x) (sym (ap (λ (t : Reg × Rm). t.0) same)) (reg_has rex byte_reg read.0 read.2.0) in
        let operand : RmCosts rex byte_rm p.0.1 (length read.1) = subst (λ (x : Rm). RmCosts rex byte_rm x (length read.1)) (sym (ap (λ (t : Reg × Rm). t.1) same)) (rm_costs rex byte_rm read.0 read.2.1.0 read.1 (rest_bytes read.0 read.1 front) read.2.1.1) in
        let size : length p.1 ≡ suc (length read.1) = ap length read.3 in
        behind (1 + length read.1) (end p.0.0 p.0.1) i p.1 p.2 b (omega arith) p.5 y p.4 (subst (λ (k : ℕ). ShortEnd rex k (end p.0.0 p.0.1)) (omega arith) (h p.0.0 p.0.1 (length read.1) reg operand));
  }

  reg_memory : (byte_reg : Bool) (end : Reg → Mem → End) → ((x : Reg) (y : Mem) (n : ℕ) → RegHas rex byte_reg x → MemCosts rex y n → ShortEnd rex (m + 1 + n) (end x y)) → ShortRow rex m (RegAndMemory byte_reg end)
  reg_memory byte_reg end h = record {
    at = λ i b y p.
        let read = p.3 in
        let front : IsBytes (read.0 ∷ read.1) = subst (λ (l : List ℕ). IsBytes l) read.3 (left_bytes p.1 p.2 (subst (λ (l : List ℕ). IsBytes l) p.5 y)) in
        let same = read.2.1.2 in
        let reg : RegHas rex byte_reg p.0.0 = subst (λ (x : Reg). RegHas rex byte_reg x) (sym (ap (λ (t : Reg × Mem). t.0) same)) (reg_has rex byte_reg read.0 read.2.0) in
        let mem : MemCosts rex p.0.1 (length read.1) = subst (λ (x : Mem). MemCosts rex x (length read.1)) (sym (ap (λ (t : Reg × Mem). t.1) same)) (memory_operand_costs rex read.0 read.2.1.0 read.1 (rest_bytes read.0 read.1 front) read.2.1.1) in
        let size : length p.1 ≡ suc (length read.1) = ap length read.3 in
        behind (1 + length read.1) (end p.0.0 p.0.1) i p.1 p.2 b (omega arith) p.5 y p.4 (subst (λ (k : ℕ). ShortEnd rex k (end p.0.0 p.0.1)) (omega arith) (h p.0.0 p.0.1 (length read.1) reg mem));
  }

  with_modrm_byte : (f : ℕ → Operand) → ((modrm : ℕ) → ShortOperand rex (m + 1) modrm (f modrm)) → ShortRow rex m (ModRm f)
  with_modrm_byte f h = record {
    at = λ i b y p.
        let size : length b ≡ suc (length p.1) = ap length p.3 in
        more rex (m + 1 + length p.1) (m + length b) i i refl (omega arith) ((h p.0).at i p.1 (rest_bytes p.0 p.1 (subst (λ (l : List ℕ). IsBytes l) p.3 y)) p.2);
  }

  escape : (f : ℕ → Row) → ((opcode : ℕ) → ShortRow rex (m + 1) (f opcode)) → ShortRow rex m (Escape f)
  escape f h = record {
    at = λ i b y p.
        let size : length b ≡ suc (length p.1) = ap length p.3 in
        more rex (m + 1 + length p.1) (m + length b) i i refl (omega arith) ((h p.0).at i p.1 (rest_bytes p.0 p.1 (subst (λ (l : List ℕ). IsBytes l) p.3 y)) p.2);
  }

-- W is set in a REX byte
w_has : (rex : Option ℕ) → rex_w rex ≡ true → Has rex true
w_has (Some byte) e = has_some byte true
w_has None e = absurd cc

full_has : (rex : Option ℕ) → Has rex (is_wide (if rex_w rex then B8 else B4))
full_has (Some byte) = has_some byte _
full_has None = record { at = λ e. refl }

in_sized : (rex : Option ℕ) (m opcode : ℕ) (r : Width → Row) → ((w : Width) → Has rex (is_wide w) → ShortRow rex m (r w)) → ShortRow rex m (map.sized rex opcode r)
in_sized rex m opcode r h = by_opcode (opcode % 2 == 0) (rex_w rex) refl
  where
    by_opcode : (s t : Bool) → rex_w rex ≡ t → ShortRow rex m (map.per_width (if s then (if t then None else Some B1) else Some (if t then B8 else B4)) r)
    by_opcode true true e = no_row rex m
    by_opcode true false e = h B1 (not_asked rex)
    by_opcode false true e = h B8 (w_has rex e)
    by_opcode false false e = h B4 (not_asked rex)

accumulated : (rex : Option ℕ) (m : ℕ) (end : Width → End) → ((w : Width) → Has rex (is_wide w) → ShortEnd rex m (end w)) → ShortRow rex m (map.accumulator rex end)
accumulated None m end h = ends None m (end B4) (h B4 (not_asked None))
accumulated (Some byte) m end h = by_byte (byte == 0x48)
  where
    by_byte : (t : Bool) → ShortRow (Some byte) m (map.per_width (if t then Some B8 else None) (λ w. Ends (end w)))
    by_byte true = ends (Some byte) m (end B8) (h B8 (has_some byte _))
    by_byte false = no_row (Some byte) m

-- the register of the opcode's low three bits
opcode_has : (rex : Option ℕ) (opcode : ℕ) → RegHas rex false (register (extended (rex_b rex) (opcode % 8)))
opcode_has rex opcode = named_reg rex rex_b false (opcode % 8) (omega arith) refl (no_byte_named rex (opcode % 8))

opcode_byte_has : (rex : Option ℕ) (opcode : ℕ) → names_register rex true (opcode % 8) ≡ true → RegHas rex true (register (extended (rex_b rex) (opcode % 8)))
opcode_byte_has rex opcode e = named_reg rex rex_b true (opcode % 8) (omega arith) refl e

ruleset parts = (alone, signed8, signed32, unsigned8, immediates, no_operand, no_more, any_operand, memory_operand, register_operand, shift_operands, either_operand)

ruleset values = (short_mov, short_mov_load, short_alu, short_alu_load, short_test, short_xchg, short_movsxd, short_imul2, short_movzx, short_movsx, short_cmov, short_lea, short_wrss, short_cmpxchg, short_cmpxchg_lock, short_xadd, short_xadd_lock, short_mov_imm, short_test_imm, short_alu_imm_byte, short_alu_imm_short, short_alu_imm_long, short_imul3_short, short_imul3_long, short_unary, short_shift_cl, short_shift_one, short_shift, short_muldiv, short_call_ind, short_call_ind_notrack, short_jmp_ind, short_jmp_ind_notrack, short_set_cc, short_push_mem, short_rstorssp, short_rdssp, short_incssp, short_push, short_pop, short_movabs, short_call, short_jmp_short, short_jmp_long, short_jcc_short, short_jcc_long, short_push_imm_short, short_push_imm_long, short_ret, short_leave, short_hlt, short_syscall, short_ud2, short_endbr64, short_saveprevssp, short_nop, short_nop_pause, short_nop_long, short_cdq, short_cdqe, not_asked, w_has, full_has, wide_by, wide_4, wide_8, opcode_has, opcode_byte_has)

either_fails : (s t : Bool) → (s || t) ≡ false → (s ≡ false) × (t ≡ false)
either_fails false t e = (refl, e)
either_fails true t e = absurd cc

others : (low four five first second : Bool) → ((low && (four || five)) || first || second) ≡ false → (low ≡ true → (four ≡ false) × (five ≡ false)) × (first ≡ false) × (second ≡ false)
others true four five first second e = let last = either_fails ((four || five) || first) second e in let both = either_fails (four || five) first last.0 in ((λ k. either_fails four five both.0), both.1, last.1)
others false four five first second e = let rest = either_fails first second e in ((λ k. absurd cc), rest.0, rest.1)

module _ (rex : Option ℕ) where
  f6 : (modrm : ℕ) (w : Width) (field : ℕ) → Has rex (is_wide w) → ShortOperand rex 2 modrm (map.f6_operand w field)
  f6 modrm B1 field h = search (parts, values) depth 30
  f6 modrm B4 field h = search (parts, values) depth 30
  f6 modrm B8 field h = search (parts, values) depth 30

  ruleset kinds = (f6, parts, values, accumulated, in_sized, no_row, ends, constant, reg_rm, reg_memory, with_modrm_byte, escape, either, in_condition, no_rex)

  three : (opcode : ℕ) → rex_w rex ≡ true → ShortRow rex 3 (map.three_byte rex opcode)
  three opcode e = search kinds depth 30

  two : (opcode : ℕ) → ShortRow rex 2 (map.two_byte rex opcode)
  two opcode = search (three, kinds) depth 40

  -- op*8 to op*8+3
  alu_not_accumulator : (op : AluOp) (low : ℕ) → (low == 4) ≡ false → (low == 5) ≡ false → ShortRow rex 1 (map.alu_row rex op low)
  alu_not_accumulator op low four five =
      either rex 1 (nat_lt low 2) _ _ (λ e. search kinds depth 30) (λ e. either rex 1 (nat_lt low 4) _ _ (λ f. search kinds depth 30) (λ f. rw (four, five) (no_row rex 1)))

  in_0_to_3 : (opcode : ℕ) → (opcode % 8 == 4) ≡ false → (opcode % 8 == 5) ≡ false → ShortRow rex 1 (map.one_byte_0_to_3 rex opcode)
  in_0_to_3 opcode four five = either rex 1 (opcode == 0x0F) _ _ (λ e. escape rex 1 (map.two_byte rex) two) (λ e. alu_not_accumulator (map.alu_op (opcode / 8)) (opcode % 8) four five)

  in_5 : (opcode : ℕ) → ShortRow rex 1 (map.one_byte_5 rex opcode)
  in_5 opcode = search kinds depth 40

  in_6 : (opcode : ℕ) → ShortRow rex 1 (map.one_byte_6 rex opcode)
  in_6 opcode = search kinds depth 40

  in_8 : (opcode : ℕ) → ShortRow rex 1 (map.one_byte_8 rex opcode)
  in_8 opcode = search kinds depth 40

  in_9 : (opcode : ℕ) → ShortRow rex 1 (map.one_byte_9 rex opcode)
  in_9 opcode = search kinds depth 40

  in_c : (opcode : ℕ) → ShortRow rex 1 (map.one_byte_c rex opcode)
  in_c opcode = search kinds depth 40

  in_d : (opcode : ℕ) → ShortRow rex 1 (map.one_byte_d rex opcode)
  in_d opcode = search kinds depth 40

  in_e : (opcode : ℕ) → ShortRow rex 1 (map.one_byte_e rex opcode)
  in_e opcode = search kinds depth 40

  in_f : (opcode : ℕ) → ShortRow rex 1 (map.one_byte_f rex opcode)
  in_f opcode = search kinds depth 40

  in_a : (opcode : ℕ) → (opcode == 0xA8) ≡ false → (opcode == 0xA9) ≡ false → ShortRow rex 1 (map.one_byte_a rex opcode)
  in_a opcode first second = rw (first, second) (no_row rex 1)

  in_one_byte : (opcode : ℕ) → is_accumulator opcode ≡ false → ShortRow rex 1 (map.one_byte rex opcode)
  in_one_byte opcode other =
      let none = others (nat_lt opcode 0x40) (opcode % 8 == 4) (opcode % 8 == 5) (opcode == 0xA8) (opcode == 0xA9) other in
      let first : (opcode == 0xA8) ≡ false = none.1 in
      let second : (opcode == 0xA9) ≡ false = none.2 in
      either rex 1 (nat_lt opcode 0x40) _ _ (λ e. in_0_to_3 opcode (none.0 e).0 (none.0 e).1) (λ e. search (in_5, in_6, in_8, in_9, in_a, in_c, in_d, in_e, in_f, kinds) depth 40)

  in_lock : (opcode : ℕ) → ShortRow rex 2 (row lock rex opcode)
  in_lock opcode = search kinds depth 40

  in_notrack : (opcode : ℕ) → ShortRow rex 2 (row notrack rex opcode)
  in_notrack opcode = search kinds depth 40

  in_pads : (n opcode : ℕ) → ShortRow rex 1 (row (pads n) rex opcode)
  in_pads zero opcode = search kinds depth 40
  in_pads (suc n) opcode = search kinds depth 40

  in_pads_segment : (n opcode : ℕ) → ShortRow rex 1 (row (pads_segment n) rex opcode)
  in_pads_segment n opcode = search kinds depth 40

in_mandatory : (rex : Option ℕ) (opcode : ℕ) → ShortRow rex 2 (row mandatory rex opcode)
in_mandatory None opcode = search kinds depth 40
in_mandatory (Some byte) opcode = search kinds depth 40

in_row : (prefix : Prefix) (rex : Option ℕ) (opcode : ℕ) → is_accumulator opcode ≡ false → (m : ℕ) × ShortRow rex m (row prefix rex opcode) × (m ≤ length (prefix_bytes prefix) + 1)
in_row none rex opcode other = (1, in_one_byte rex opcode other, omega arith)
in_row mandatory rex opcode other = (2, in_mandatory rex opcode, omega arith)
in_row lock rex opcode other = (2, in_lock rex opcode, omega arith)
in_row notrack rex opcode other = (2, in_notrack rex opcode, omega arith)
in_row (pads n) rex opcode other = (1, in_pads rex n opcode, omega arith)
in_row (pads_segment n) rex opcode other = (1, in_pads_segment rex n opcode, omega arith)

pub canonical_is_shortest : CanonicalIsShortest
canonical_is_shortest i b c f other e =
    let behind_prefix : IsBytes (rex_bytes f.rex ++ (f.opcode ∷ f.operands)) = right_bytes (prefix_bytes f.prefix) (rex_bytes f.rex ++ (f.opcode ∷ f.operands)) (subst (λ (l : List ℕ). IsBytes l) f.whole f.is_bytes) in
    let behind_rex : IsBytes (f.opcode ∷ f.operands) = right_bytes (rex_bytes f.rex) (f.opcode ∷ f.operands) behind_prefix in
    let r = in_row f.prefix f.rex f.opcode other in
    let cost = (r.1.at i f.operands (rest_bytes f.opcode f.operands behind_rex) f.row_bytes).at c e in
    let whole : length b ≡ length (prefix_bytes f.prefix) + (length (rex_bytes f.rex) + suc (length f.operands)) =
    ap length f.whole ∙ length-append (prefix_bytes f.prefix) _ ∙ ap (λ (n : ℕ). length (prefix_bytes f.prefix) + n) (length-append (rex_bytes f.rex) (f.opcode ∷ f.operands)) in
    let room = r.2 in
    omega arith
