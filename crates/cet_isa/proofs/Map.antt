-- In each row of the opcode map, bytes that are short can be completed.
use Rattle.std.proofs.Common.{◌≡◌, ℕ, ◌<◌, Bool, true, false, not, ◌&&◌, ℤ, Option, Some, None, refl, arith, ◌⊎◌, inl, inr, zero, suc}
use Rattle.std.specs.Prelude.{if◌then◌else◌, ◌==◌}
use Rattle.cet_isa.specs.declared.register.Reg.{Reg}
use Rattle.cet_isa.specs.declared.operand.Mem.{Mem}
use Rattle.cet_isa.specs.declared.operand.Rm.{Rm}
use Rattle.cet_isa.specs.declared.operand.Width.{Width}
use Rattle.cet_isa.specs.declared.operation.AluOp.{AluOp}
use Rattle.cet_isa.specs.declared.operation.ShiftCount.{ShiftCount}
use Rattle.cet_isa.specs.declared.operation.Cond.{Cond}
use Rattle.cet_isa.specs.declared.instruction.Insn.{Insn}
use Rattle.cet_isa.specs.declared.instruction.Insn.TheVariants.{EndBr64, Nop, SavePrevSsp, RstorSsp}
use Rattle.cet_isa.specs.Operand.{is_rex, rex_w, rex_r, rex_x, is_register, middle_field}
use Rattle.cet_isa.specs.Row.{RegAndRm, RegAndMemory, End, Operand, NoOperand, NoMore, Alone, RegisterOrMemory, Memory, Register, Row, NoRow, Ends, ModRm, Escape}
use Rattle.cet_isa.specs.OpcodeMap.{plain, per_width, accumulator, narrow, group, extension, in_opcode, if_condition, alu_row, alu_group, shift_group, f6_group, indirect_branch, ff_group, constant_row, exchange_row, long_nop, three_byte, two_byte, one_byte_0_to_3, one_byte_5, one_byte_6, one_byte_8, one_byte_9, one_byte_a, one_byte_c, one_byte_d, one_byte_e, one_byte_f, one_byte}
use Rattle.cet_isa.specs.PrefixedMap.{Prefix, none, mandatory, lock, notrack, pads, pads_segment, row, takes_rex, mandatory_two_byte, locked_two_byte, nop_two_byte, shadow_read, shadow_restore, shadow_increment}
use Rattle.cet_isa.proofs.Parts.{Extendable, LiveRow, LiveOperand, extends_no_row, extends_ends, live_ends, extends_constant, extends_reg_rm, live_reg_rm, extends_reg_memory, live_reg_memory, extends_modrm, extends_escape, live_modrm, live_escape, live_any, live_memory, live_register}

plain_row : (rex rex2 : Option ℕ) (r : Row) → Extendable rex r → Extendable rex (plain rex2 r)
plain_row rex None r p = p
plain_row rex (Some byte) r p = extends_no_row rex

live_where : (rex : Option ℕ) (modrm : ℕ) (t : Bool) (o p : Operand) → t ≡ true → LiveOperand rex modrm o → LiveOperand rex modrm (if t then o else p)
live_where rex modrm true o p h i = i
live_where rex modrm false o p h i = absurd cc

module _ (rex : Option ℕ) where
  either : (t : Bool) (r s : Row) → Extendable rex r → Extendable rex s → Extendable rex (if t then r else s)
  either true r s p q = p
  either false r s p q = q

  in_width : (o : Option Width) (r : Width → Row) → ((w : Width) → Extendable rex (r w)) → Extendable rex (per_width o r)
  in_width None r p = extends_no_row rex
  in_width (Some w) r p = p w

  in_condition : (o : Option Cond) (r : Cond → Row) → ((c : Cond) → Extendable rex (r c)) → Extendable rex (if_condition o r)
  in_condition None r p = extends_no_row rex
  in_condition (Some c) r p = p c

  no_rex : (r : Row) → Extendable rex r → Extendable rex (plain rex r)
  no_rex r p = plain_row rex rex r p

  is_narrow : (r : Row) → Extendable rex r → Extendable rex (narrow rex r)
  is_narrow r p = either (rex_w rex) NoRow r (extends_no_row rex) p

  ends_alone : (end : End) → Extendable rex (plain rex (Ends end))
  ends_alone end = no_rex (Ends end) (extends_ends rex end)

  accumulated : (end : Width → End) → Extendable rex (accumulator rex end)
  accumulated end = in_width _ _ (λ w. extends_ends rex (end w))

  any_reg : (byte_reg byte_rm : Bool) (end : Reg → Rm → End) → Extendable rex (RegAndRm byte_reg byte_rm end)
  any_reg byte_reg byte_rm end = extends_reg_rm rex byte_reg byte_rm end

  memory_reg : (byte_reg : Bool) (end : Reg → Mem → End) → Extendable rex (RegAndMemory byte_reg end)
  memory_reg byte_reg end = extends_reg_memory rex byte_reg end

  four : (is_byte : Bool) (end : Rm → End) → LiveOperand rex 4 (RegisterOrMemory is_byte end)
  four is_byte end = live_any rex 4 is_byte end refl refl

  in_group : (f : ℕ → Operand) (modrm : ℕ) → modrm < 256 → LiveOperand rex modrm (f (middle_field modrm)) → Extendable rex (group rex f)
  in_group f modrm lt i = either (rex_r rex) NoRow (ModRm (λ m. f (middle_field m))) (extends_no_row rex) (extends_modrm rex (λ m. f (middle_field m)) modrm lt i)

  -- /0 is in the group
  first_of_group : (f : ℕ → Operand) → LiveOperand rex 4 (f 0) → Extendable rex (group rex f)
  first_of_group f i = in_group f 4 (omega arith) i

  in_the_opcode : (opcode : ℕ) (r : Reg → Row) → ((reg : Reg) → Extendable rex (r reg)) → Extendable rex (in_opcode rex opcode r)
  in_the_opcode opcode r p = either _ NoRow _ (extends_no_row rex) (p _)

  ruleset kinds = (either, is_narrow, in_width, in_condition, in_the_opcode, any_reg, memory_reg, first_of_group, four, ends_alone, accumulated, extends_no_row, extends_ends, extends_constant)

  -- ---- rows of several opcodes

  alu : (op : AluOp) (low : ℕ) → Extendable rex (alu_row rex op low)
  alu op low = search kinds depth 12

  alu_immediate : (w : Width) (end : (ℤ → Insn) → End) → Extendable rex (alu_group rex w end)
  alu_immediate w end = search kinds depth 12

  shift : (opcode : ℕ) (end : (ShiftCount → Insn) → End) → Extendable rex (shift_group rex opcode end)
  shift opcode end = search kinds depth 12

  f6 : (opcode : ℕ) → Extendable rex (f6_group rex opcode)
  f6 opcode = search kinds depth 12

  ff : Extendable rex (ff_group rex)
  ff = search kinds depth 12

  constant : (opcode : ℕ) → Extendable rex (constant_row rex opcode)
  constant opcode = search kinds depth 12

  exchange : (opcode : ℕ) (value : Width → Mem → Reg → Insn) → Extendable rex (exchange_row rex opcode value)
  exchange opcode value = search kinds depth 12

  nop_long : Extendable rex (long_nop rex)
  nop_long = search (kinds, no_rex) depth 12

  -- ---- the maps

  in_three_byte : (opcode : ℕ) → Extendable rex (three_byte rex opcode)
  in_three_byte opcode = search kinds depth 12

  three_byte_escape : Extendable rex (Escape (three_byte rex))
  three_byte_escape = let live : LiveRow rex (three_byte rex 0xF6) = search live_reg_memory in extends_escape rex (three_byte rex) in_three_byte 0xF6 (omega arith) live

  in_two_byte : (opcode : ℕ) → Extendable rex (two_byte rex opcode)
  in_two_byte opcode = search (kinds, nop_long, exchange, three_byte_escape) depth 30

  two_byte_escape : Extendable rex (Escape (two_byte rex))
  two_byte_escape = let live : LiveRow rex (two_byte rex 0xAF) = search live_reg_rm in extends_escape rex (two_byte rex) in_two_byte 0xAF (omega arith) live

  in_one_byte_0_to_3 : (opcode : ℕ) → Extendable rex (one_byte_0_to_3 rex opcode)
  in_one_byte_0_to_3 opcode = search (either, two_byte_escape, alu)

  in_one_byte_5 : (opcode : ℕ) → Extendable rex (one_byte_5 rex opcode)
  in_one_byte_5 opcode = search (kinds) depth 30

  in_one_byte_6 : (opcode : ℕ) → Extendable rex (one_byte_6 rex opcode)
  in_one_byte_6 opcode = search (kinds) depth 30

  in_one_byte_8 : (opcode : ℕ) → Extendable rex (one_byte_8 rex opcode)
  in_one_byte_8 opcode = search (kinds, alu_immediate) depth 30

  in_one_byte_9 : (opcode : ℕ) → Extendable rex (one_byte_9 rex opcode)
  in_one_byte_9 opcode = search (kinds) depth 30

  in_one_byte_a : (opcode : ℕ) → Extendable rex (one_byte_a rex opcode)
  in_one_byte_a opcode = search (kinds) depth 30

  in_one_byte_c : (opcode : ℕ) → Extendable rex (one_byte_c rex opcode)
  in_one_byte_c opcode = search (kinds, shift) depth 30

  in_one_byte_d : (opcode : ℕ) → Extendable rex (one_byte_d rex opcode)
  in_one_byte_d opcode = search (kinds, shift) depth 30

  in_one_byte_e : (opcode : ℕ) → Extendable rex (one_byte_e rex opcode)
  in_one_byte_e opcode = search (kinds) depth 30

  in_one_byte_f : (opcode : ℕ) → Extendable rex (one_byte_f rex opcode)
  in_one_byte_f opcode = search (kinds, f6, ff) depth 30

  ruleset one_byte_rows = (in_one_byte_0_to_3, in_one_byte_5, in_one_byte_6, in_one_byte_8, in_one_byte_9, in_one_byte_a, in_one_byte_c, in_one_byte_d, in_one_byte_e, in_one_byte_f)

  pub in_one_byte : (opcode : ℕ) → Extendable rex (one_byte rex opcode)
  in_one_byte opcode = search (either, one_byte_rows, in_condition, ends_alone, constant, extends_no_row) depth 30

  pub live_one_byte : LiveRow rex (one_byte rex 0x8B)
  live_one_byte = search live_reg_rm

  in_locked : (opcode : ℕ) → Extendable rex (locked_two_byte rex opcode)
  in_locked opcode = search (either, exchange, extends_no_row)

  locked_live : LiveRow rex (locked_two_byte rex 0xB1)
  locked_live = search live_reg_memory

  in_nop : (opcode : ℕ) → Extendable rex (nop_two_byte rex opcode)
  in_nop opcode = search (either, nop_long, extends_no_row)

-- ---- behind a prefix

in_extension : (rex : Option ℕ) (digit modrm : ℕ) (o : Operand) → modrm < 256 → (middle_field modrm == digit) ≡ true → LiveOperand rex modrm o → Extendable rex (extension rex digit o)
in_extension rex digit modrm o lt e i = in_group rex (λ field. if field == digit then o else NoOperand) modrm lt (live_where rex modrm (middle_field modrm == digit) o NoOperand e i)

memory_extension : (rex : Option ℕ) (end : Mem → End) → Extendable rex (extension rex 5 (Memory end))
memory_extension rex end = in_extension rex 5 0x2C (Memory end) (omega arith) refl (live_memory rex 0x2C end refl refl)

pub true_or_false : (t : Bool) → (t ≡ true) ⊎ (t ≡ false)
true_or_false true = inl refl
true_or_false false = inr refl

live_then : (rex : Option ℕ) (t : Bool) (r s : Row) → t ≡ true → LiveRow rex r → LiveRow rex (if t then r else s)
live_then rex true r s h i = i
live_then rex false r s h i = absurd cc

live_else : (rex : Option ℕ) (t : Bool) (r s : Row) → t ≡ false → LiveRow rex s → LiveRow rex (if t then r else s)
live_else rex false r s h i = i
live_else rex true r s h i = absurd cc

live_extension : (rex : Option ℕ) (end : Mem → End) → rex_r rex ≡ false → LiveRow rex (extension rex 5 (Memory end))
live_extension rex end no_r = live_else rex (rex_r rex) NoRow _ no_r (live_modrm rex _ 0x2C (omega arith) (live_memory rex 0x2C end refl refl))

extends_then : (rex : Option ℕ) (t : Bool) (r s : Row) → (t ≡ true → Extendable rex r) → (t ≡ false → Extendable rex s) → Extendable rex (if t then r else s)
extends_then rex true r s p q = p refl
extends_then rex false r s p q = q refl

both_true : (s t : Bool) → (s && t) ≡ true → (s ≡ true) × (t ≡ true)
both_true true t h = (refl, h)
both_true false t h = absurd cc

pub not_true : (t : Bool) → not t ≡ true → t ≡ false
not_true false h = refl
not_true true h = absurd cc

nand : (s t : Bool) → not (s && t) ≡ true → s ≡ true → t ≡ false
nand true false h e = refl
nand true true h e = absurd cc
nand false t h e = absurd cc

and_true : (s t : Bool) → s ≡ true → t ≡ true → (s && t) ≡ true
and_true true true p q = refl
and_true true false p q = absurd cc
and_true false t p q = absurd cc

not_of_false : (t : Bool) → t ≡ false → not t ≡ true
not_of_false false h = refl
not_of_false true h = absurd cc

module _ (byte : ℕ) (allowed : takes_rex mandatory (Some byte) ≡ true) where
  no_r : rex_r (Some byte) ≡ false
  no_r = not_true _ (both_true _ _ allowed).0

  no_x : rex_w (Some byte) ≡ true → rex_x (Some byte) ≡ false
  no_x = nand _ _ (both_true _ _ allowed).1

  -- C8 and E8: a register, with the extension 1 or 5
  live_of_register : (modrm : ℕ) (end : Reg → End) → is_register modrm ≡ true → rex_w (Some byte) ≡ true → LiveOperand (Some byte) modrm (Register end)
  live_of_register modrm end e w = live_register (Some byte) modrm end (and_true _ _ e (and_true _ _ (not_of_false _ (no_x w)) refl))

  register_extension : (digit modrm : ℕ) (end : Reg → End) → modrm < 256 → (middle_field modrm == digit) ≡ true → is_register modrm ≡ true → rex_w (Some byte) ≡ true → Extendable (Some byte) (extension (Some byte) digit (Register end))
  register_extension digit modrm end lt d e w = in_extension (Some byte) digit modrm (Register end) lt d (live_of_register modrm end e w)

  extends_read : Extendable (Some byte) (shadow_read (Some byte))
  extends_read = extends_then (Some byte) (rex_w (Some byte)) _ NoRow (λ w. register_extension 1 0xC8 _ (omega arith) refl refl w) (λ w. extends_no_row (Some byte))

  extends_restore : Extendable (Some byte) (shadow_restore (Some byte))
  extends_restore = search (is_narrow, memory_extension)

  extends_increment : Extendable (Some byte) (shadow_increment (Some byte))
  extends_increment = extends_then (Some byte) (rex_w (Some byte)) _ NoRow (λ w. register_extension 5 0xE8 _ (omega arith) refl refl w) (λ w. extends_no_row (Some byte))

  extends_mandatory_rex : (opcode : ℕ) → Extendable (Some byte) (mandatory_two_byte (Some byte) opcode)
  extends_mandatory_rex opcode = search (either, extends_restore, extends_read, extends_increment, extends_no_row)

  live_read : rex_w (Some byte) ≡ true → LiveRow (Some byte) (shadow_read (Some byte))
  live_read w = live_then (Some byte) (rex_w (Some byte)) _ NoRow w (live_else (Some byte) (rex_r (Some byte)) NoRow _ no_r (live_modrm (Some byte) _ 0xC8 (omega arith) (live_of_register 0xC8 _ refl w)))

  live_restore : rex_w (Some byte) ≡ false → LiveRow (Some byte) (shadow_restore (Some byte))
  live_restore w = live_else (Some byte) (rex_w (Some byte)) NoRow _ w (live_extension (Some byte) _ no_r)

  mandatory_live : (opcode : ℕ) × (opcode < 256) × LiveRow (Some byte) (mandatory_two_byte (Some byte) opcode)
  mandatory_live = elim (true_or_false (rex_w (Some byte))) [ inl w ↦ (0x1E, omega arith, live_read w) | inr w ↦ (0x01, omega arith, live_restore w) ]

  mandatory_escape : Extendable (Some byte) (Escape (mandatory_two_byte (Some byte)))
  mandatory_escape = extends_escape (Some byte) (mandatory_two_byte (Some byte)) extends_mandatory_rex mandatory_live.0 mandatory_live.1 mandatory_live.2

  mandatory_escape_live : LiveRow (Some byte) (Escape (mandatory_two_byte (Some byte)))
  mandatory_escape_live = live_escape (Some byte) (mandatory_two_byte (Some byte)) mandatory_live.0 mandatory_live.1 mandatory_live.2

-- without REX
endbr_row : (byte : ℕ) → Row
endbr_row byte = if byte == 0xFA then Ends (Alone EndBr64) else NoRow

plain_read : Extendable None (shadow_read None)
unfolding endbr_row
plain_read = extends_escape None endbr_row (λ byte. either None _ _ _ (extends_ends None _) (extends_no_row None)) 0xFA (omega arith) (live_ends None _)

restore_operand : ℕ → Operand
restore_operand modrm = if modrm == 0xEA then NoMore SavePrevSsp else if middle_field modrm == 5 then Memory (λ mem. Alone (RstorSsp mem)) else NoOperand

live_restore_operand : LiveOperand None 0x2C (restore_operand 0x2C)
unfolding restore_operand
live_restore_operand = live_memory None 0x2C _ refl refl

plain_restore : Extendable None (shadow_restore None)
unfolding restore_operand
plain_restore = extends_modrm None restore_operand 0x2C (omega arith) live_restore_operand

extends_mandatory_plain : (opcode : ℕ) → Extendable None (mandatory_two_byte None opcode)
extends_mandatory_plain opcode = search (either, plain_restore, plain_read, extends_no_row)

mandatory_plain_live : LiveRow None (mandatory_two_byte None 0x01)
unfolding restore_operand
mandatory_plain_live = live_modrm None restore_operand 0x2C (omega arith) live_restore_operand

mandatory_plain_escape : Extendable None (Escape (mandatory_two_byte None))
mandatory_plain_escape = extends_escape None (mandatory_two_byte None) extends_mandatory_plain 0x01 (omega arith) mandatory_plain_live

locked_escape : (rex : Option ℕ) → Extendable rex (Escape (locked_two_byte rex))
locked_escape rex = extends_escape rex (locked_two_byte rex) (in_locked rex) 0xB1 (omega arith) (locked_live rex)

locked_escape_live : (rex : Option ℕ) → LiveRow rex (Escape (locked_two_byte rex))
locked_escape_live rex = live_escape rex (locked_two_byte rex) 0xB1 (omega arith) (locked_live rex)

nop_operand : ℕ → Operand
nop_operand modrm = if middle_field modrm == 0 then RegisterOrMemory false (λ operand. Alone Nop) else NoOperand

nop_live : LiveRow None (nop_two_byte None 0x1F)
unfolding nop_operand
nop_live = live_modrm None nop_operand 4 (omega arith) (four None false _)

nop_escape : Extendable None (Escape (nop_two_byte None))
nop_escape = extends_escape None (nop_two_byte None) (in_nop None) 0x1F (omega arith) nop_live

nop_escape_live : LiveRow None (Escape (nop_two_byte None))
nop_escape_live = live_escape None (nop_two_byte None) 0x1F (omega arith) nop_live

branches : (rex : Option ℕ) → Extendable rex (group rex (indirect_branch true))
branches rex = in_group rex (indirect_branch true) 0x14 (omega arith) (live_any rex 0x14 _ _ refl refl)

branches_live : (rex : Option ℕ) → rex_r rex ≡ false → LiveRow rex (group rex (indirect_branch true))
branches_live rex no_r = live_else rex (rex_r rex) NoRow _ no_r (live_modrm rex _ 0x14 (omega arith) (live_any rex 0x14 _ _ refl refl))

-- the REX that may follow a prefix
abbrev pub May : Prefix → Option ℕ → Type 0
May prefix None = Unit {0}
May prefix (Some byte) = takes_rex prefix (Some byte) ≡ true

pub in_row : (prefix : Prefix) (rex : Option ℕ) → May prefix rex → (opcode : ℕ) → Extendable rex (row prefix rex opcode)
in_row none rex m opcode = in_one_byte rex opcode
in_row mandatory None m opcode = search (either, ends_alone, mandatory_plain_escape, extends_no_row)
in_row mandatory (Some byte) m opcode = either (Some byte) (opcode == 0x90) NoRow _ (extends_no_row (Some byte)) (either (Some byte) (opcode == 0x0F) (Escape (mandatory_two_byte (Some byte))) NoRow (mandatory_escape byte m) (extends_no_row (Some byte)))
in_row lock rex m opcode = search (either, locked_escape, extends_no_row)
in_row notrack rex m opcode = search (either, is_narrow, branches, extends_no_row)
in_row (pads n) (Some byte) m opcode = absurd cc
in_row (pads zero) None m opcode = search (either, ends_alone, nop_escape, extends_no_row)
in_row (pads (suc n)) None m opcode = search (either, nop_escape, extends_no_row)
in_row (pads_segment n) (Some byte) m opcode = absurd cc
in_row (pads_segment n) None m opcode = search (either, nop_escape, extends_no_row)

-- an opcode byte, no REX, whose row is live
pub record LivePrefix (prefix : Prefix) (rex : Option ℕ) : Type 0 where
  pub opcode : ℕ
  pub is_byte : opcode < 256
  pub no_rex : is_rex opcode ≡ false
  pub live : LiveRow rex (row prefix rex opcode)

pub live_row : (prefix : Prefix) (rex : Option ℕ) → May prefix rex → LivePrefix prefix rex
live_row none rex m = record { opcode = 0x8B; is_byte = omega arith; no_rex = refl; live = live_one_byte rex }
live_row mandatory None m = record { opcode = 0x90; is_byte = omega arith; no_rex = refl; live = live_ends None _ }
live_row mandatory (Some byte) m = record { opcode = 0x0F; is_byte = omega arith; no_rex = refl; live = mandatory_escape_live byte m }
live_row lock rex m = record { opcode = 0x0F; is_byte = omega arith; no_rex = refl; live = locked_escape_live rex }
live_row notrack None m = record { opcode = 0xFF; is_byte = omega arith; no_rex = refl; live = branches_live None refl }
live_row notrack (Some byte) m =
    let b = both_true _ _ m in
    record { opcode = 0xFF; is_byte = omega arith; no_rex = refl; live = live_else (Some byte) (rex_w (Some byte)) NoRow _ (not_true _ b.1) (branches_live (Some byte) (not_true _ b.0)) }
live_row (pads n) (Some byte) m = absurd cc
live_row (pads zero) None m = record { opcode = 0x0F; is_byte = omega arith; no_rex = refl; live = nop_escape_live }
live_row (pads (suc n)) None m = record { opcode = 0x0F; is_byte = omega arith; no_rex = refl; live = nop_escape_live }
live_row (pads_segment n) (Some byte) m = absurd cc
live_row (pads_segment n) None m = record { opcode = 0x0F; is_byte = omega arith; no_rex = refl; live = nop_escape_live }

pub live_pads : (n : ℕ) → LiveRow None (row (pads n) None 0x0F)
live_pads zero = nop_escape_live
live_pads (suc n) = nop_escape_live

pub live_nop : LiveRow None (row none None 0x90)
live_nop = live_ends None _
