-- The shapes of canonical forms are forms of the rows that their opcodes lead to.
use Rattle.std.proofs.Common.{◌≡◌, ℕ, ◌+◌, ◌<◌, Bool, true, false, ◌&&◌, ◌||◌, List, [], ◌∷◌, ◌++◌, ℤ, Option, Some, None, refl, sym, ap, subst, ◌∙◌, arith}
use Rattle.std.specs.Option.{option_zip}
use Rattle.std.specs.Int.{w8, w32}
use Rattle.std.proofs.Math.Pow.{are_bytes}
use Rattle.std.proofs.lemmas.Bool.{ltb-true}
use Rattle.std.proofs.lemmas.Option.{same_Some}
use Rattle.std.proofs.lemmas.List.Elements.{All-append}
use Rattle.cet_isa.specs.declared.register.Reg.{Reg}
use Rattle.cet_isa.specs.declared.operand.Width.{Width}
use Rattle.cet_isa.specs.declared.operand.Width.TheVariants.{B1, B4, B8}
use Rattle.cet_isa.specs.declared.operand.Mem.{Mem}
use Rattle.cet_isa.specs.declared.operand.Rm.{Rm}
use Rattle.cet_isa.specs.declared.instruction.Insn.{Insn}
use Rattle.cet_isa.specs.Operand.{rex_w, rex_r, rex_x, rex_b, middle_field, low_field, names_register, reg_register, RegAndRmBytes, RegAndMemoryBytes}
use Rattle.cet_isa.specs.Row.{End, Alone, Signed8, Signed32, Unsigned8, Operand, RegisterOrMemory, Memory, Register, Row, NoRow, Ends, Constant, RegAndRm, RegAndMemory, ModRm, Escape, EndBytes, OperandBytes, RowBytes}
use Rattle.cet_isa.specs.OpcodeMap as map
use Rattle.cet_isa.specs.PrefixedMap.{Prefix, none, prefix_bytes, IsPrefix, takes_rex, rex_bytes, row}
use Rattle.cet_isa.specs.Form.{IsBytes, Form}
use Rattle.cet_isa.specs.Canonical.{signed, unsigned, immediate, no_immediate, number, is_extended, needs_rex, Rex, shortest_rex, fields, RegField, digit, reg_field, RmField, register_field, memory, register_or_memory, form, plain, in_opcode, modrm_form, with_modrm}
use Rattle.cet_isa.proofs.Joins.{nil_bytes, cons_bytes}
use Rattle.cet_isa.proofs.Fields.{fields_middle, fields_byte, low_small, number_register, rex_of, register_named, signed8_says, signed32_says, unsigned_says}
use Rattle.cet_isa.proofs.Places.{both_false, map_some, operand_says, memory_says, register_says}

-- ---- opcodes

-- the row behind further opcode bytes
abbrev pub walk : Row → List ℕ → Row
walk r [] = r
walk (Escape f) (opcode ∷ more) = walk (f opcode) more
walk r (opcode ∷ more) = NoRow

abbrev pub row_of : Prefix → Option ℕ → List ℕ → Row
row_of prefix rex [] = NoRow
row_of prefix rex (opcode ∷ more) = walk (row prefix rex opcode) more

walked : (rex : Option ℕ) (r : Row) (opcodes : List ℕ) (i : Insn) (b : List ℕ) → RowBytes rex (walk r opcodes) i b → RowBytes rex r i (opcodes ++ b)
walked rex r [] i b p = p
walked rex (Escape f) (opcode ∷ more) i b p = (opcode, more ++ b, walked rex (f opcode) more i b p, refl)
walked rex NoRow (opcode ∷ more) i b p = absurd p
walked rex (Ends end) (opcode ∷ more) i b p = absurd p
walked rex (Constant w f) (opcode ∷ more) i b p = absurd p
walked rex (RegAndRm byte_reg byte_rm end) (opcode ∷ more) i b p = absurd p
walked rex (RegAndMemory byte_reg end) (opcode ∷ more) i b p = absurd p
walked rex (ModRm f) (opcode ∷ more) i b p = absurd p

both_pass : (s t : Bool) → (s && t) ≡ true → (s ≡ true) × (t ≡ true)
both_pass true t e = (refl, e)
both_pass false t e = absurd cc

pub tested_bytes : (b : List ℕ) → are_bytes b ≡ true → IsBytes b
tested_bytes [] e = nil_bytes
tested_bytes (x ∷ b) e = let both = both_pass _ _ e in cons_bytes x b (ltb-true _ _ both.0) (tested_bytes b both.1)

-- what is written for a row is a form
form_of : (i : Insn) (prefix : Prefix) (want : Rex) (opcode operands : List ℕ) → IsPrefix prefix → are_bytes (prefix_bytes prefix) ≡ true → are_bytes opcode ≡ true → takes_rex prefix (shortest_rex want) ≡ true → IsBytes operands
    → RowBytes (shortest_rex want) (row_of prefix (shortest_rex want) opcode) i operands → Form i (form prefix want opcode operands)
form_of i prefix want [] operands q p o t y r = absurd r
form_of i prefix want (opcode ∷ more) operands q p o t y r =
    let rex = rex_of want in
    record {
      prefix = prefix;
      rex = shortest_rex want;
      opcode = opcode;
      operands = more ++ operands;
      whole = refl;
      is_bytes =
          All-append (λ x. x < 256) (prefix_bytes prefix) _ (tested_bytes (prefix_bytes prefix) p)
          (All-append (λ x. x < 256) (rex_bytes (shortest_rex want)) _ rex.is_bytes (All-append (λ x. x < 256) (opcode ∷ more) operands (tested_bytes (opcode ∷ more) o) y));
      is_prefix = q;
      is_rex = rex.valid prefix t;
      row_bytes = walked (shortest_rex want) (row prefix (shortest_rex want) opcode) more i operands r;
    }

-- ---- ends

-- the bytes are those of the end, for this value
pub record IsEnd (bytes : Option (List ℕ)) (end : End) (i : Insn) : Type 0 where
  pub at : (b : List ℕ) → bytes ≡ Some b → IsBytes b × EndBytes end i b

pub ends_alone : (i : Insn) → IsEnd no_immediate (Alone i) i
ends_alone i = record { at = λ b e. let nil : [] ≡ b = same_Some [] b e in (subst (λ (l : List ℕ). IsBytes l) nil nil_bytes, (refl, sym nil)) }

pub ends_signed8 : (f : ℤ → Insn) (z : ℤ) → IsEnd (signed w8 z) (Signed8 f) (f z)
ends_signed8 f z = record { at = λ b e. let s = signed8_says z b e in (s.is_bytes, (z, s.says, refl)) }

pub ends_signed32 : (f : ℤ → Insn) (z : ℤ) → IsEnd (signed w32 z) (Signed32 f) (f z)
ends_signed32 f z = record { at = λ b e. let s = signed32_says z b e in (s.is_bytes, (z, s.says, refl)) }

pub ends_unsigned8 : (f : ℕ → Insn) (n : ℕ) → IsEnd (unsigned w8 n) (Unsigned8 f) (f n)
ends_unsigned8 f n = record { at = λ b e. let s = unsigned_says B1 n b e in (s.is_bytes, (n, s.says, refl)) }

pub ends_immediate : (w : Width) (f : ℤ → Insn) (z : ℤ) → IsEnd (immediate w z) (map.immediate w f) (f z)
ends_immediate B1 f z = ends_signed8 f z
ends_immediate B4 f z = ends_signed32 f z
ends_immediate B8 f z = ends_signed32 f z

-- ---- ModRM

pub record Parts (prefix : Prefix) (w : Bool) (opcode : List ℕ) (reg : RegField) (rm : Option RmField) (end : Option (List ℕ)) (b : List ℕ) : Type 0 where
  pub place : RmField
  pub bytes : List ℕ
  pub is_place : rm ≡ Some place
  pub is_end : end ≡ Some bytes
  pub whole : modrm_form prefix w opcode reg place bytes ≡ b

zip_some : {A B : Type 0} (o : Option A) (p : Option B) (x : A × B) → option_zip o p ≡ Some x → (o ≡ Some x.0) × (p ≡ Some x.1)
zip_some None p x e = absurd cc
zip_some (Some y) None x e = absurd cc
zip_some (Some y) (Some z) x e = let k = same_Some (y, z) x e in (ap (λ (t : _ × _). Some t.0) k, ap (λ (t : _ × _). Some t.1) k)

pub parts_of : (prefix : Prefix) (w : Bool) (opcode : List ℕ) (reg : RegField) (rm : Option RmField) (end : Option (List ℕ)) (b : List ℕ) → with_modrm prefix w opcode reg rm end ≡ Some b → Parts prefix w opcode reg rm end b
parts_of prefix w opcode reg rm end b e =
    let found = map_some (λ parts. modrm_form prefix w opcode reg parts.0 parts.1) (option_zip rm end) b e in
    let both = zip_some rm end found.0 found.1 in
    record { place = found.0.0; bytes = found.0.1; is_place = both.0; is_end = both.1; whole = found.2 }

-- REX as a form with ModRM asks for it
abbrev wanted : Bool → RegField → RmField → Rex
wanted w reg place = record { w = w; r = is_extended reg.number; x = place.x; b = place.b; needed = reg.needs_rex || place.needs_rex }

-- an opcode behind a prefix, with that bit W
pub record IsOpcode (prefix : Prefix) (opcode : List ℕ) : Type 0 where
  pub is_prefix : IsPrefix prefix
  pub prefix_ok : are_bytes (prefix_bytes prefix) ≡ true
  pub opcode_ok : are_bytes opcode ≡ true

module _ (prefix : Prefix) (w : Bool) (opcode : List ℕ) (known : IsOpcode prefix opcode) where
  -- ModRM, the operand's bytes and the end, as the row says
  written : (i : Insn) (reg : RegField) (place : RmField) (bytes b : List ℕ) → place.mode < 4 → place.rm < 8 → IsBytes place.behind → IsBytes bytes
      → takes_rex prefix (shortest_rex (wanted w reg place)) ≡ true
      → RowBytes (shortest_rex (wanted w reg place)) (row_of prefix (shortest_rex (wanted w reg place)) opcode) i (fields place.mode (low_field reg.number) place.rm ∷ (place.behind ++ bytes))
      → modrm_form prefix w opcode reg place bytes ≡ b → Form i b
  written i reg place bytes b mode_small rm_small behind_bytes end_bytes takes spelled whole =
      let modrm = fields place.mode (low_field reg.number) place.rm in
      subst (λ (l : List ℕ). Form i l) whole
      (form_of i prefix (wanted w reg place) opcode (modrm ∷ (place.behind ++ bytes)) known.is_prefix known.prefix_ok known.opcode_ok takes
      (cons_bytes modrm (place.behind ++ bytes) (fields_byte place.mode (low_field reg.number) place.rm mode_small (low_small reg.number) rm_small) (All-append (λ x. x < 256) place.behind bytes behind_bytes end_bytes)) spelled)

  -- REX is there where the register or the operand needs it
  absent : (reg : RegField) (place : RmField) → shortest_rex (wanted w reg place) ≡ None → (reg.needs_rex ≡ false) × (place.needs_rex ≡ false)
  absent reg place n = both_false reg.needs_rex place.needs_rex ((rex_of (wanted w reg place)).absent n)

  -- a register, and a register or memory
  pub reg_rm_form : (byte_reg byte_rm : Bool) (reg : Reg) (operand : Rm) (bytes : Option (List ℕ)) (i : Insn) (end : Reg → Rm → End)
      → ((rex : Option ℕ) → takes_rex prefix rex ≡ true) → ((rex : Option ℕ) → rex_w rex ≡ w → row_of prefix rex opcode ≡ RegAndRm byte_reg byte_rm end) → IsEnd bytes (end reg operand) i
      → (b : List ℕ) → with_modrm prefix w opcode (reg_field byte_reg reg) (register_or_memory byte_rm operand) bytes ≡ Some b → Form i b
  reg_rm_form byte_reg byte_rm reg operand bytes i end takes is_row ends b e =
      let p = parts_of prefix w opcode (reg_field byte_reg reg) (register_or_memory byte_rm operand) bytes b e in
      let rex = shortest_rex (wanted w (reg_field byte_reg reg) p.place) in
      let says = (rex_of (wanted w (reg_field byte_reg reg) p.place)).says in
      let o = operand_says byte_rm operand p.place p.is_place in
      let last = ends.at p.bytes p.is_end in
      let field = low_field (number reg) in
      let modrm = fields p.place.mode field p.place.rm in
      let small = low_small (number reg) in
      let middle : middle_field modrm ≡ field = fields_middle p.place.mode field p.place.rm small o.rm_small in
      let named : names_register rex byte_reg (middle_field modrm) ≡ true = rw middle (register_named rex rex_r byte_reg reg refl says.r (λ n. (absent (reg_field byte_reg reg) p.place n).0)) in
      let is_reg : reg_register rex modrm ≡ reg = rw (says.r, middle) (number_register reg) in
      let read : RegAndRmBytes rex byte_reg byte_rm (reg, operand) (modrm ∷ p.place.behind) =
      (modrm, p.place.behind, (named, (operand, o.spells rex field small says.x says.b (λ n. (absent (reg_field byte_reg reg) p.place n).1), ap (λ (x : Reg). (x, operand)) (sym is_reg))), refl) in
      let spelled : RowBytes rex (RegAndRm byte_reg byte_rm end) i (modrm ∷ (p.place.behind ++ p.bytes)) = ((reg, operand), modrm ∷ p.place.behind, p.bytes, read, last.1, refl) in
      written i (reg_field byte_reg reg) p.place p.bytes b o.mode_small o.rm_small o.is_bytes last.0 (takes rex)
      (subst (λ (row : Row). RowBytes rex row i (modrm ∷ (p.place.behind ++ p.bytes))) (sym (is_row rex says.w)) spelled) p.whole

  -- a register, and memory
  pub reg_memory_form : (byte_reg : Bool) (reg : Reg) (mem : Mem) (bytes : Option (List ℕ)) (i : Insn) (end : Reg → Mem → End)
      → ((rex : Option ℕ) → takes_rex prefix rex ≡ true) → ((rex : Option ℕ) → rex_w rex ≡ w → row_of prefix rex opcode ≡ RegAndMemory byte_reg end) → IsEnd bytes (end reg mem) i
      → (b : List ℕ) → with_modrm prefix w opcode (reg_field byte_reg reg) (memory mem) bytes ≡ Some b → Form i b
  reg_memory_form byte_reg reg mem bytes i end takes is_row ends b e =
      let p = parts_of prefix w opcode (reg_field byte_reg reg) (memory mem) bytes b e in
      let rex = shortest_rex (wanted w (reg_field byte_reg reg) p.place) in
      let says = (rex_of (wanted w (reg_field byte_reg reg) p.place)).says in
      let o = memory_says mem p.place p.is_place in
      let last = ends.at p.bytes p.is_end in
      let field = low_field (number reg) in
      let modrm = fields p.place.mode field p.place.rm in
      let small = low_small (number reg) in
      let middle : middle_field modrm ≡ field = fields_middle p.place.mode field p.place.rm small o.rm_small in
      let named : names_register rex byte_reg (middle_field modrm) ≡ true = rw middle (register_named rex rex_r byte_reg reg refl says.r (λ n. (absent (reg_field byte_reg reg) p.place n).0)) in
      let is_reg : reg_register rex modrm ≡ reg = rw (says.r, middle) (number_register reg) in
      let read : RegAndMemoryBytes rex byte_reg (reg, mem) (modrm ∷ p.place.behind) =
      (modrm, p.place.behind, (named, (mem, o.spells rex field small says.x says.b, ap (λ (x : Reg). (x, mem)) (sym is_reg))), refl) in
      let spelled : RowBytes rex (RegAndMemory byte_reg end) i (modrm ∷ (p.place.behind ++ p.bytes)) = ((reg, mem), modrm ∷ p.place.behind, p.bytes, read, last.1, refl) in
      let mode = o.mode_small in
      written i (reg_field byte_reg reg) p.place p.bytes b (omega arith) o.rm_small o.is_bytes last.0 (takes rex)
      (subst (λ (row : Row). RowBytes rex row i (modrm ∷ (p.place.behind ++ p.bytes))) (sym (is_row rex says.w)) spelled) p.whole

  -- an extension of the opcode, and a register or memory
  pub digit_form : (n : ℕ) (byte_rm : Bool) (operand : Rm) (bytes : Option (List ℕ)) (i : Insn) (f : ℕ → Operand) (end : Rm → End)
      → n < 8 → is_extended n ≡ false
      → ((rex : Option ℕ) → rex_w rex ≡ w → rex_r rex ≡ false → takes_rex prefix rex ≡ true)
      → ((rex : Option ℕ) → rex_w rex ≡ w → rex_r rex ≡ false → row_of prefix rex opcode ≡ ModRm (λ modrm. f (middle_field modrm))) → f n ≡ RegisterOrMemory byte_rm end → IsEnd bytes (end operand) i
      → (b : List ℕ) → with_modrm prefix w opcode (digit n) (register_or_memory byte_rm operand) bytes ≡ Some b → Form i b
  digit_form n byte_rm operand bytes i f end below plain takes is_row is_operand ends b e =
      let p = parts_of prefix w opcode (digit n) (register_or_memory byte_rm operand) bytes b e in
      let rex = shortest_rex (wanted w (digit n) p.place) in
      let says = (rex_of (wanted w (digit n) p.place)).says in
      let no_r : rex_r rex ≡ false = says.r ∙ plain in
      let o = operand_says byte_rm operand p.place p.is_place in
      let last = ends.at p.bytes p.is_end in
      let modrm = fields p.place.mode (low_field n) p.place.rm in
      let same : low_field n ≡ n = omega arith in
      let middle : middle_field modrm ≡ n = fields_middle p.place.mode (low_field n) p.place.rm (low_small n) o.rm_small ∙ same in
      let read : OperandBytes rex modrm (RegisterOrMemory byte_rm end) i (p.place.behind ++ p.bytes) =
      (operand, p.place.behind, p.bytes, o.spells rex (low_field n) (low_small n) says.x says.b (λ n. (absent (digit _) p.place n).1), last.1, refl) in
      let found : f (middle_field modrm) ≡ RegisterOrMemory byte_rm end = ap f middle ∙ is_operand in
      let spelled : RowBytes rex (ModRm (λ modrm. f (middle_field modrm))) i (modrm ∷ (p.place.behind ++ p.bytes)) =
      (modrm, p.place.behind ++ p.bytes, subst (λ (x : Operand). OperandBytes rex modrm x i (p.place.behind ++ p.bytes)) (sym found) read, refl) in
      written i (digit n) p.place p.bytes b o.mode_small o.rm_small o.is_bytes last.0 (takes rex says.w no_r)
      (subst (λ (row : Row). RowBytes rex row i (modrm ∷ (p.place.behind ++ p.bytes))) (sym (is_row rex says.w no_r)) spelled) p.whole

  -- an extension of the opcode, and memory
  pub digit_memory_form : (n : ℕ) (mem : Mem) (bytes : Option (List ℕ)) (i : Insn) (end : Mem → End)
      → n < 8 → is_extended n ≡ false
      → ((rex : Option ℕ) → rex_w rex ≡ w → rex_r rex ≡ false → takes_rex prefix rex ≡ true)
      → ((rex : Option ℕ) → rex_w rex ≡ w → rex_r rex ≡ false → (f : ℕ → Operand) × (row_of prefix rex opcode ≡ ModRm f) × ((mode rm : ℕ) → mode < 3 → rm < 8 → f (fields mode n rm) ≡ Memory end))
      → IsEnd bytes (end mem) i
      → (b : List ℕ) → with_modrm prefix w opcode (digit n) (memory mem) bytes ≡ Some b → Form i b
  digit_memory_form n mem bytes i end below plain takes is_row ends b e =
      let p = parts_of prefix w opcode (digit n) (memory mem) bytes b e in
      let rex = shortest_rex (wanted w (digit n) p.place) in
      let says = (rex_of (wanted w (digit n) p.place)).says in
      let no_r : rex_r rex ≡ false = says.r ∙ plain in
      let o = memory_says mem p.place p.is_place in
      let last = ends.at p.bytes p.is_end in
      let modrm = fields p.place.mode (low_field n) p.place.rm in
      let same : low_field n ≡ n = omega arith in
      let row = is_row rex says.w no_r in
      let read : OperandBytes rex modrm (Memory end) i (p.place.behind ++ p.bytes) = (mem, p.place.behind, p.bytes, o.spells rex (low_field n) (low_small n) says.x says.b, last.1, refl) in
      let found : row.0 modrm ≡ Memory end = ap (λ (k : ℕ). row.0 (fields p.place.mode k p.place.rm)) same ∙ row.2 p.place.mode p.place.rm o.mode_small o.rm_small in
      let spelled : RowBytes rex (ModRm row.0) i (modrm ∷ (p.place.behind ++ p.bytes)) =
      (modrm, p.place.behind ++ p.bytes, subst (λ (x : Operand). OperandBytes rex modrm x i (p.place.behind ++ p.bytes)) (sym found) read, refl) in
      let mode = o.mode_small in
      written i (digit n) p.place p.bytes b (omega arith) o.rm_small o.is_bytes last.0 (takes rex says.w no_r)
      (subst (λ (row : Row). RowBytes rex row i (modrm ∷ (p.place.behind ++ p.bytes))) (sym row.1) spelled) p.whole

  -- an extension of the opcode, and a register
  pub digit_register_form : (n : ℕ) (reg : Reg) (bytes : Option (List ℕ)) (i : Insn) (f : ℕ → Operand) (end : Reg → End)
      → n < 8 → is_extended n ≡ false
      → ((rex : Option ℕ) → rex_w rex ≡ w → rex_r rex ≡ false → rex_x rex ≡ false → takes_rex prefix rex ≡ true)
      → ((rex : Option ℕ) → rex_w rex ≡ w → rex_r rex ≡ false → row_of prefix rex opcode ≡ ModRm (λ modrm. f (middle_field modrm))) → f n ≡ Register end → IsEnd bytes (end reg) i
      → (b : List ℕ) → with_modrm prefix w opcode (digit n) (Some (register_field false reg)) bytes ≡ Some b → Form i b
  digit_register_form n reg bytes i f end below plain takes is_row is_operand ends b e =
      let found = map_some (λ parts. modrm_form prefix w opcode (digit n) parts.0 parts.1) (option_zip (Some (register_field false reg)) bytes) b e in
      let both = zip_some (Some (register_field false reg)) bytes found.0 found.1 in
      let last = ends.at found.0.1 both.1 in
      let place = register_field false reg in
      let same_place : place ≡ found.0.0 = same_Some place found.0.0 both.0 in
      let rex = shortest_rex (wanted w (digit n) place) in
      let says = (rex_of (wanted w (digit n) place)).says in
      let no_r : rex_r rex ≡ false = says.r ∙ plain in
      let modrm = fields 3 (low_field n) (low_field (number reg)) in
      let same : low_field n ≡ n = omega arith in
      let middle : middle_field modrm ≡ n = fields_middle 3 (low_field n) (low_field (number reg)) (low_small n) (low_small (number reg)) ∙ same in
      let register = register_says reg rex (low_field n) (low_small n) says.x says.b in
      let read : OperandBytes rex modrm (Register end) i found.0.1 = (register.0, subst (λ (x : Reg). EndBytes (end x) i found.0.1) (sym register.1) last.1) in
      let is_found : f (middle_field modrm) ≡ Register end = ap f middle ∙ is_operand in
      let spelled : RowBytes rex (ModRm (λ modrm. f (middle_field modrm))) i (modrm ∷ ([] ++ found.0.1)) =
      (modrm, found.0.1, subst (λ (x : Operand). OperandBytes rex modrm x i found.0.1) (sym is_found) read, refl) in
      written i (digit n) place found.0.1 b (omega arith) (low_small (number reg)) nil_bytes last.0 (takes rex says.w no_r says.x)
      (subst (λ (row : Row). RowBytes rex row i (modrm ∷ ([] ++ found.0.1))) (sym (is_row rex says.w no_r)) spelled)
      (ap (λ (p : RmField). modrm_form prefix w opcode (digit n) p found.0.1) same_place ∙ found.2)

-- ---- without ModRM

pub plain_form : (opcode : List ℕ) (bytes : Option (List ℕ)) (i : Insn) (end : End) → are_bytes opcode ≡ true → row_of none None opcode ≡ Ends end → IsEnd bytes end i
    → (b : List ℕ) → plain opcode bytes ≡ Some b → Form i b
plain_form opcode bytes i end known is_row ends b e =
    let found = map_some (λ bytes. opcode ++ bytes) bytes b e in
    let last = ends.at found.0 found.1 in
    subst (λ (l : List ℕ). Form i l) found.2
    (form_of i none (record { w = false; r = false; x = false; b = false; needed = false }) opcode found.0 tt refl known refl last.0 (subst (λ (row : Row). RowBytes None row i found.0) (sym is_row) last.1))

-- a register in the opcode's low three bits, and an end or a constant
pub in_opcode_form : (w : Bool) (opcode : ℕ) (byte : Bool) (reg : Reg) (bytes : Option (List ℕ)) (i : Insn) (r : Row)
    → are_bytes ((opcode + low_field (number reg)) ∷ []) ≡ true
    → ((rex : Option ℕ) → rex_w rex ≡ w → rex_r rex ≡ false → rex_x rex ≡ false → rex_b rex ≡ is_extended (number reg) → names_register rex byte (low_field (number reg)) ≡ true → row none rex (opcode + low_field (number reg)) ≡ r)
    → ((rex : Option ℕ) (b : List ℕ) → bytes ≡ Some b → IsBytes b × RowBytes rex r i b)
    → (b : List ℕ) → in_opcode w opcode byte reg bytes ≡ Some b → Form i b
in_opcode_form w opcode byte reg bytes i r known is_row ends b e =
    let want : Rex = record { w = w; r = false; x = false; b = is_extended (number reg); needed = needs_rex byte reg } in
    let found = map_some (form none want ((opcode + low_field (number reg)) ∷ [])) bytes b e in
    let rex = shortest_rex want in
    let is_rex = rex_of want in
    let last = ends rex found.0 found.1 in
    let named : names_register rex byte (low_field (number reg)) ≡ true = register_named rex rex_b byte reg refl is_rex.says.b is_rex.absent in
    subst (λ (l : List ℕ). Form i l) found.2
    (form_of i none want ((opcode + low_field (number reg)) ∷ []) found.0 tt refl known refl last.0
    (subst (λ (row : Row). RowBytes rex row i found.0) (sym (is_row rex is_rex.says.w is_rex.says.r is_rex.says.x is_rex.says.b named)) last.1))
