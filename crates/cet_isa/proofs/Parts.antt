-- The readers of operands, ends and rows read what the relations of `Operand` and `Row` spell.
use Rattle.std.proofs.Common.{Ok, ◌≡◌, ℕ, ◌<◌, Bool, true, false, cond, not, ◌&&◌, ◌||◌, List, pos, Option, Some, None, Err, refl, arith}
use Rattle.std.specs.Prelude.{IsTrue, if◌then◌else◌, ◌==◌}
use Rattle.std.specs.Int.{w8, w32}
use Rattle.cet_isa.specs.declared.operand.Width.{Width}
use Rattle.cet_isa.specs.declared.decode_error.DecodeError.TheVariants.{Outside}
use Rattle.cet_isa.specs.declared.register.Reg.{Reg}
use Rattle.cet_isa.specs.declared.operand.Mem.{Mem}
use Rattle.cet_isa.specs.declared.operand.Rm.{Rm}
use Rattle.cet_isa.specs.declared.operand.Rm.TheVariants as rm
use Rattle.cet_isa.specs.declared.instruction.Insn.{Insn}
use Rattle.cet_isa.specs.Reader.{Read, ◌>>=◌, unsigned_at, signed_at}
use Rattle.cet_isa.specs.Operand.{Where, number_width, Unsigned, Signed, rex_x, extended, Displacement, nothing, disp8, disp32, Address, displaced, Displaced, Addressed, has_sib, has_index, has_base, modrm_address, sib_address, MemoryBytes, is_register, names_rm, rm_register, names_register, middle_field, reg_register, RmBytes, MemoryOperandBytes, RegAndRmBytes, RegAndMemoryBytes}
use Rattle.cet_isa.specs.Row.{End, Alone, Signed8, Signed32, Unsigned8, Operand, NoOperand, NoMore, RegisterOrMemory, Memory, Register, Row, NoRow, Ends, Constant, RegAndRm, RegAndMemory, ModRm, Escape, EndBytes, OperandBytes, RowBytes}
use Rattle.cet_isa.specs.Decoded.{displacement_at, address_at, memory_at, rm_at, memory_operand_at, reg_and_rm_at, reg_and_memory_at, end_at, operand_at, row_at}
use Rattle.cet_isa.proofs.Joins.{Reads, Mapped, Extends, Inhabited, reads_joined, extends_joined, inhabited_joined, reads_mapped, extends_mapped, inhabited_mapped, Behind, behind, reads_behind, extends_behind, inhabited_behind, reads_fixed, extends_fixed, inhabited_fixed, reads_never, extends_never, reads_unsigned, extends_unsigned, inhabited_unsigned, reads_signed, extends_signed, inhabited_signed}

-- ---- tests

pub reads_where : {A : Type 0} (t : Bool) (R S : List ℕ → Read A) (P Q : A → List ℕ → Type 0) → Reads R P → Reads S Q → Reads (λ b. if t then R b else S b) (λ x a. Where t (P x a) (Q x a))
reads_where true R S P Q r s = r
reads_where false R S P Q r s = s

pub extends_where : {A : Type 0} (t : Bool) (R S : List ℕ → Read A) (P Q : A → List ℕ → Type 0) → Extends R P → Extends S Q → Extends (λ b. if t then R b else S b) (λ x a. Where t (P x a) (Q x a))
extends_where true R S P Q r s = r
extends_where false R S P Q r s = s

pub inhabited_then : {A : Type 0} (t : Bool) (P Q : A → List ℕ → Type 0) → t ≡ true → Inhabited P → Inhabited (λ x a. Where t (P x a) (Q x a))
inhabited_then true P Q h i = i
inhabited_then false P Q h i = absurd cc

pub inhabited_else : {A : Type 0} (t : Bool) (P Q : A → List ℕ → Type 0) → t ≡ false → Inhabited Q → Inhabited (λ x a. Where t (P x a) (Q x a))
inhabited_else false P Q h i = i
inhabited_else true P Q h i = absurd cc

-- where the test fails the bytes are outside
pub reads_if : {A : Type 0} (t : Bool) (R : List ℕ → Read A) (P : A → List ℕ → Type 0) → Reads R P → Reads (λ b. if t then R b else Err Outside) (λ x a. IsTrue t × P x a)
reads_if true R P r = record { again = λ x a more p. r.again x a more p.1; spelled = λ b x rest h. let s = r.spelled b x rest h in (s.0, (refl, s.1), s.2); stays = r.stays }
reads_if false R P r = record { again = λ x a more p. absurd (let k = p.0 in cc); spelled = λ b x rest h. absurd cc; stays = λ b more h. refl }

pub extends_if : {A : Type 0} (t : Bool) (R : List ℕ → Read A) (P : A → List ℕ → Type 0) → Extends R P → Extends (λ b. if t then R b else Err Outside) (λ x a. IsTrue t × P x a)
extends_if true R P r b h = let c = r b h in record { value = c.value; more = c.more; some = c.some; is_bytes = c.is_bytes; spells = (refl, c.spells) }
extends_if false R P r b h = absurd cc

inhabited_if : {A : Type 0} (t : Bool) (P : A → List ℕ → Type 0) → t ≡ true → Inhabited P → Inhabited (λ x a. IsTrue t × P x a)
inhabited_if t P h i = record { value = i.value; bytes = i.bytes; is_bytes = i.is_bytes; spells = (h, i.spells) }

-- ---- memory operands

pub reads_displacement : (x : Displacement) → Reads (displacement_at x) (Displaced x)
reads_displacement nothing = reads_fixed (pos 0)
reads_displacement disp8 = reads_signed w8
reads_displacement disp32 = reads_signed w32

pub extends_displacement : (x : Displacement) → Extends (displacement_at x) (Displaced x)
extends_displacement nothing = extends_fixed (pos 0)
extends_displacement disp8 = extends_signed w8
extends_displacement disp32 = extends_signed w32

pub inhabited_displacement : (x : Displacement) → Inhabited (Displaced x)
inhabited_displacement nothing = inhabited_fixed (pos 0)
inhabited_displacement disp8 = inhabited_signed w8
inhabited_displacement disp32 = inhabited_signed w32

pub reads_address : (o : Option Address) → Reads (address_at o) (Addressed o)
reads_address None = reads_never
reads_address (Some a) = reads_mapped (displacement_at a.displacement) (Displaced a.displacement) (displaced a) (reads_displacement a.displacement)

pub extends_address : (o : Option Address) → Extends (address_at o) (Addressed o)
extends_address None = extends_never
extends_address (Some a) = extends_mapped (displacement_at a.displacement) (Displaced a.displacement) (displaced a) (reads_displacement a.displacement) (extends_displacement a.displacement)

inhabited_address : (a : Address) → Inhabited (Addressed (Some a))
inhabited_address a = inhabited_mapped (displacement_at a.displacement) (Displaced a.displacement) (displaced a) (reads_displacement a.displacement) (inhabited_displacement a.displacement)

-- SIB 00 has a base and an index, whatever REX says
not_four : (bit : Bool) → not (extended bit 0 == 4) ≡ true
not_four true = refl
not_four false = refl

not_five : (t : Bool) → not (t && false) ≡ true
not_five true = refl
not_five false = refl

either_way : (s t u v : Bool) → s ≡ true → u ≡ true → ((s || t) && (u || v)) ≡ true
either_way true t true v p q = refl
either_way true t false v p q = absurd cc
either_way false t u v p q = absurd cc

inhabited_chosen : (t : Bool) (a : Address) → t ≡ true → Inhabited (Addressed (cond t (Some a) None))
inhabited_chosen true a h = inhabited_address a
inhabited_chosen false a h = absurd cc

inhabited_sib : (rex : Option ℕ) (modrm : ℕ) → Inhabited (Addressed (sib_address rex modrm 0))
inhabited_sib rex modrm = inhabited_chosen _ _ (either_way (has_index rex 0) _ (has_base modrm 0) _ (not_four (rex_x rex)) (not_five _))

module _ (rex : Option ℕ) (modrm : ℕ) where
  with_sib : Reads (behind (λ sib. address_at (sib_address rex modrm sib))) (Behind (λ sib. Addressed (sib_address rex modrm sib)))
  with_sib = reads_behind (λ sib. address_at (sib_address rex modrm sib)) (λ sib. Addressed (sib_address rex modrm sib)) (λ sib. reads_address (sib_address rex modrm sib))

  extends_with_sib : Extends (behind (λ sib. address_at (sib_address rex modrm sib))) (Behind (λ sib. Addressed (sib_address rex modrm sib)))
  extends_with_sib = extends_behind (λ sib. address_at (sib_address rex modrm sib)) (λ sib. Addressed (sib_address rex modrm sib)) (λ sib. extends_address (sib_address rex modrm sib)) 0 (omega arith) (inhabited_sib rex modrm)

  pub reads_memory : Reads (memory_at rex modrm) (MemoryBytes rex modrm)
  reads_memory = reads_where (has_sib modrm) _ _ _ _ with_sib (reads_address (modrm_address rex modrm))

  pub extends_memory : Extends (memory_at rex modrm) (MemoryBytes rex modrm)
  extends_memory = extends_where (has_sib modrm) _ _ _ _ extends_with_sib (extends_address (modrm_address rex modrm))

  pub inhabited_memory : has_sib modrm ≡ true → Inhabited (MemoryBytes rex modrm)
  inhabited_memory e = inhabited_then (has_sib modrm) _ _ e (inhabited_behind (λ sib. address_at (sib_address rex modrm sib)) (λ sib. Addressed (sib_address rex modrm sib)) 0 (omega arith) (inhabited_sib rex modrm))

-- ---- register or memory

module _ (rex : Option ℕ) (is_byte : Bool) (modrm : ℕ) where
  pub reads_rm : Reads (rm_at rex is_byte modrm) (RmBytes rex is_byte modrm)
  reads_rm = reads_where (is_register modrm) _ _ _ _ (reads_if (names_rm rex is_byte modrm) _ _ (reads_fixed (rm.Reg (rm_register rex modrm)))) (reads_mapped (memory_at rex modrm) (MemoryBytes rex modrm) (λ mem. rm.Mem mem) (reads_memory rex modrm))

  pub extends_rm : Extends (rm_at rex is_byte modrm) (RmBytes rex is_byte modrm)
  extends_rm = extends_where (is_register modrm) _ _ _ _ (extends_if (names_rm rex is_byte modrm) _ _ (extends_fixed (rm.Reg (rm_register rex modrm)))) (extends_mapped (memory_at rex modrm) (MemoryBytes rex modrm) (λ mem. rm.Mem mem) (reads_memory rex modrm) (extends_memory rex modrm))

  pub inhabited_rm : is_register modrm ≡ false → has_sib modrm ≡ true → Inhabited (RmBytes rex is_byte modrm)
  inhabited_rm e h = inhabited_else (is_register modrm) _ _ e (inhabited_mapped (memory_at rex modrm) (MemoryBytes rex modrm) (λ mem. rm.Mem mem) (reads_memory rex modrm) (inhabited_memory rex modrm h))

-- ---- memory alone, and with a register

module _ (rex : Option ℕ) (modrm : ℕ) where
  pub reads_memory_operand : Reads (memory_operand_at rex modrm) (MemoryOperandBytes rex modrm)
  reads_memory_operand = reads_where (is_register modrm) _ _ _ _ reads_never (reads_memory rex modrm)

  pub extends_memory_operand : Extends (memory_operand_at rex modrm) (MemoryOperandBytes rex modrm)
  extends_memory_operand = extends_where (is_register modrm) _ _ _ _ extends_never (extends_memory rex modrm)

  pub inhabited_memory_operand : is_register modrm ≡ false → has_sib modrm ≡ true → Inhabited (MemoryOperandBytes rex modrm)
  inhabited_memory_operand e h = inhabited_else (is_register modrm) _ _ e (inhabited_memory rex modrm h)

zero_names : (rex : Option ℕ) (is_byte : Bool) → names_register rex is_byte 0 ≡ true
zero_names None is_byte = refl
zero_names (Some byte) is_byte = refl

-- an operand behind ModRM, and the register of its reg field
module _ (rex : Option ℕ) (byte_reg : Bool) {A : Type 0} (R : ℕ → List ℕ → Read A) (P : ℕ → A → List ℕ → Type 0) (r : (modrm : ℕ) → Reads (R modrm) (P modrm)) where
  abbrev named : ℕ → Bool
  named modrm = names_register rex byte_reg (middle_field modrm)

  abbrev paired : ℕ → A → Reg × A
  paired modrm x = (reg_register rex modrm, x)

  abbrev pair_at : ℕ → List ℕ → Read (Reg × A)
  pair_at modrm b = if named modrm then R modrm b >>= (λ x. Ok ((reg_register rex modrm, x.0), x.1)) else Err Outside

  abbrev PairBytes : ℕ → Reg × A → List ℕ → Type 0
  PairBytes modrm x a = IsTrue (named modrm) × Mapped (P modrm) (paired modrm) x a

  reads_pair : Reads (behind pair_at) (Behind PairBytes)
  reads_pair = reads_behind pair_at PairBytes (λ m. reads_if (named m) _ _ (reads_mapped (R m) (P m) (paired m) (r m)))

  -- ModRM 04 has the register of reg field 0
  inhabited_pair : Inhabited (P 4) → Inhabited (Behind PairBytes)
  inhabited_pair i = inhabited_behind pair_at PairBytes 4 (omega arith) (inhabited_if (named 4) _ (zero_names rex byte_reg) (inhabited_mapped (R 4) (P 4) (paired 4) (r 4) i))

  extends_pair : ((modrm : ℕ) → Extends (R modrm) (P modrm)) → Inhabited (P 4) → Extends (behind pair_at) (Behind PairBytes)
  extends_pair e i = extends_behind pair_at PairBytes (λ m. extends_if (named m) _ _ (extends_mapped (R m) (P m) (paired m) (r m) (e m))) 4 (omega arith)
      (inhabited_if (named 4) _ (zero_names rex byte_reg) (inhabited_mapped (R 4) (P 4) (paired 4) (r 4) i))

module _ (rex : Option ℕ) (byte_reg byte_rm : Bool) where
  reads_reg_and_rm : Reads (reg_and_rm_at rex byte_reg byte_rm) (RegAndRmBytes rex byte_reg byte_rm)
  reads_reg_and_rm = reads_pair rex byte_reg (rm_at rex byte_rm) (RmBytes rex byte_rm) (reads_rm rex byte_rm)

  inhabited_reg_and_rm : Inhabited (RegAndRmBytes rex byte_reg byte_rm)
  inhabited_reg_and_rm = inhabited_pair rex byte_reg (rm_at rex byte_rm) (RmBytes rex byte_rm) (reads_rm rex byte_rm) (inhabited_rm rex byte_rm 4 refl refl)

  extends_reg_and_rm : Extends (reg_and_rm_at rex byte_reg byte_rm) (RegAndRmBytes rex byte_reg byte_rm)
  extends_reg_and_rm = extends_pair rex byte_reg (rm_at rex byte_rm) (RmBytes rex byte_rm) (reads_rm rex byte_rm) (extends_rm rex byte_rm) (inhabited_rm rex byte_rm 4 refl refl)

module _ (rex : Option ℕ) (byte_reg : Bool) where
  reads_reg_and_memory : Reads (reg_and_memory_at rex byte_reg) (RegAndMemoryBytes rex byte_reg)
  reads_reg_and_memory = reads_pair rex byte_reg (memory_operand_at rex) (MemoryOperandBytes rex) (reads_memory_operand rex)

  inhabited_reg_and_memory : Inhabited (RegAndMemoryBytes rex byte_reg)
  inhabited_reg_and_memory = inhabited_pair rex byte_reg (memory_operand_at rex) (MemoryOperandBytes rex) (reads_memory_operand rex) (inhabited_memory_operand rex 4 refl refl)

  extends_reg_and_memory : Extends (reg_and_memory_at rex byte_reg) (RegAndMemoryBytes rex byte_reg)
  extends_reg_and_memory = extends_pair rex byte_reg (memory_operand_at rex) (MemoryOperandBytes rex) (reads_memory_operand rex) (extends_memory_operand rex) (inhabited_memory_operand rex 4 refl refl)

-- ---- ends

pub reads_end : (end : End) → Reads (end_at end) (EndBytes end)
reads_end (Alone i) = reads_fixed i
reads_end (Signed8 f) = reads_mapped (signed_at w8) (Signed w8) f (reads_signed w8)
reads_end (Signed32 f) = reads_mapped (signed_at w32) (Signed w32) f (reads_signed w32)
reads_end (Unsigned8 f) = reads_mapped (unsigned_at w8) (Unsigned w8) f (reads_unsigned w8)

pub extends_end : (end : End) → Extends (end_at end) (EndBytes end)
extends_end (Alone i) = extends_fixed i
extends_end (Signed8 f) = extends_mapped (signed_at w8) (Signed w8) f (reads_signed w8) (extends_signed w8)
extends_end (Signed32 f) = extends_mapped (signed_at w32) (Signed w32) f (reads_signed w32) (extends_signed w32)
extends_end (Unsigned8 f) = extends_mapped (unsigned_at w8) (Unsigned w8) f (reads_unsigned w8) (extends_unsigned w8)

pub inhabited_end : (end : End) → Inhabited (EndBytes end)
inhabited_end (Alone i) = inhabited_fixed i
inhabited_end (Signed8 f) = inhabited_mapped (signed_at w8) (Signed w8) f (reads_signed w8) (inhabited_signed w8)
inhabited_end (Signed32 f) = inhabited_mapped (signed_at w32) (Signed w32) f (reads_signed w32) (inhabited_signed w32)
inhabited_end (Unsigned8 f) = inhabited_mapped (unsigned_at w8) (Unsigned w8) f (reads_unsigned w8) (inhabited_unsigned w8)

-- ---- what a ModRM byte asks for

module _ (rex : Option ℕ) (modrm : ℕ) where
  pub reads_operand : (o : Operand) → Reads (operand_at rex modrm o) (OperandBytes rex modrm o)
  reads_operand NoOperand = reads_never
  reads_operand (NoMore i) = reads_fixed i
  reads_operand (RegisterOrMemory is_byte end) = reads_joined (rm_at rex is_byte modrm) (RmBytes rex is_byte modrm) (λ x. end_at (end x)) (λ x. EndBytes (end x)) (reads_rm rex is_byte modrm) (λ x. reads_end (end x))
  reads_operand (Memory end) = reads_joined (memory_operand_at rex modrm) (MemoryOperandBytes rex modrm) (λ x. end_at (end x)) (λ x. EndBytes (end x)) (reads_memory_operand rex modrm) (λ x. reads_end (end x))
  reads_operand (Register end) = reads_if (is_register modrm && names_rm rex false modrm) _ _ (reads_end (end (rm_register rex modrm)))

  pub extends_operand : (o : Operand) → Extends (operand_at rex modrm o) (OperandBytes rex modrm o)
  extends_operand NoOperand = extends_never
  extends_operand (NoMore i) = extends_fixed i
  extends_operand (RegisterOrMemory is_byte end) = extends_joined (rm_at rex is_byte modrm) (RmBytes rex is_byte modrm) (λ x. end_at (end x)) (λ x. EndBytes (end x)) (reads_rm rex is_byte modrm) (λ x. reads_end (end x)) (extends_rm rex is_byte modrm) (λ x. extends_end (end x)) (λ x. inhabited_end (end x))
  extends_operand (Memory end) = extends_joined (memory_operand_at rex modrm) (MemoryOperandBytes rex modrm) (λ x. end_at (end x)) (λ x. EndBytes (end x)) (reads_memory_operand rex modrm) (λ x. reads_end (end x)) (extends_memory_operand rex modrm) (λ x. extends_end (end x)) (λ x. inhabited_end (end x))
  extends_operand (Register end) = extends_if (is_register modrm && names_rm rex false modrm) _ _ (extends_end (end (rm_register rex modrm)))

-- ---- rows

pub reads_row : (rex : Option ℕ) (r : Row) → Reads (row_at rex r) (RowBytes rex r)
reads_row rex NoRow = reads_never
reads_row rex (Ends end) = reads_end end
reads_row rex (Constant w f) = reads_mapped (unsigned_at (number_width w)) (Unsigned (number_width w)) f (reads_unsigned (number_width w))
reads_row rex (RegAndRm byte_reg byte_rm end) = reads_joined (reg_and_rm_at rex byte_reg byte_rm) (RegAndRmBytes rex byte_reg byte_rm) (λ x. end_at (end x.0 x.1)) (λ x. EndBytes (end x.0 x.1)) (reads_reg_and_rm rex byte_reg byte_rm) (λ x. reads_end (end x.0 x.1))
reads_row rex (RegAndMemory byte_reg end) = reads_joined (reg_and_memory_at rex byte_reg) (RegAndMemoryBytes rex byte_reg) (λ x. end_at (end x.0 x.1)) (λ x. EndBytes (end x.0 x.1)) (reads_reg_and_memory rex byte_reg) (λ x. reads_end (end x.0 x.1))
reads_row rex (ModRm f) = reads_behind (λ modrm. operand_at rex modrm (f modrm)) (λ modrm. OperandBytes rex modrm (f modrm)) (λ modrm. reads_operand rex modrm (f modrm))
reads_row rex (Escape f) = reads_behind (λ opcode. row_at rex (f opcode)) (λ opcode. RowBytes rex (f opcode)) (λ opcode. reads_row rex (f opcode))

-- bytes that are short in a row can be completed
pub record Extendable (rex : Option ℕ) (r : Row) : Type 0 where
  pub at : Extends (row_at rex r) (RowBytes rex r)

-- some bytes spell the row
pub record LiveRow (rex : Option ℕ) (r : Row) : Type 0 where
  pub at : Inhabited (RowBytes rex r)

pub record LiveOperand (rex : Option ℕ) (modrm : ℕ) (o : Operand) : Type 0 where
  pub at : Inhabited (OperandBytes rex modrm o)

module _ (rex : Option ℕ) where
  pub extends_no_row : Extendable rex NoRow
  extends_no_row = record { at = extends_never }

  pub extends_ends : (end : End) → Extendable rex (Ends end)
  extends_ends end = record { at = extends_end end }

  pub live_ends : (end : End) → LiveRow rex (Ends end)
  live_ends end = record { at = inhabited_end end }

  pub extends_constant : (w : Width) (f : ℕ → Insn) → Extendable rex (Constant w f)
  extends_constant w f = record { at = extends_mapped (unsigned_at (number_width w)) (Unsigned (number_width w)) f (reads_unsigned (number_width w)) (extends_unsigned (number_width w)) }

  pub extends_reg_rm : (byte_reg byte_rm : Bool) (end : Reg → Rm → End) → Extendable rex (RegAndRm byte_reg byte_rm end)
  extends_reg_rm byte_reg byte_rm end = record {
    at = extends_joined (reg_and_rm_at rex byte_reg byte_rm) (RegAndRmBytes rex byte_reg byte_rm) (λ x. end_at (end x.0 x.1)) (λ x. EndBytes (end x.0 x.1))
        (reads_reg_and_rm rex byte_reg byte_rm) (λ x. reads_end (end x.0 x.1)) (extends_reg_and_rm rex byte_reg byte_rm) (λ x. extends_end (end x.0 x.1)) (λ x. inhabited_end (end x.0 x.1));
  }

  pub live_reg_rm : (byte_reg byte_rm : Bool) (end : Reg → Rm → End) → LiveRow rex (RegAndRm byte_reg byte_rm end)
  live_reg_rm byte_reg byte_rm end = record { at = inhabited_joined (RegAndRmBytes rex byte_reg byte_rm) (λ x. EndBytes (end x.0 x.1)) (inhabited_reg_and_rm rex byte_reg byte_rm) (λ x. inhabited_end (end x.0 x.1)) }

  pub extends_reg_memory : (byte_reg : Bool) (end : Reg → Mem → End) → Extendable rex (RegAndMemory byte_reg end)
  extends_reg_memory byte_reg end = record {
    at = extends_joined (reg_and_memory_at rex byte_reg) (RegAndMemoryBytes rex byte_reg) (λ x. end_at (end x.0 x.1)) (λ x. EndBytes (end x.0 x.1))
        (reads_reg_and_memory rex byte_reg) (λ x. reads_end (end x.0 x.1)) (extends_reg_and_memory rex byte_reg) (λ x. extends_end (end x.0 x.1)) (λ x. inhabited_end (end x.0 x.1));
  }

  pub live_reg_memory : (byte_reg : Bool) (end : Reg → Mem → End) → LiveRow rex (RegAndMemory byte_reg end)
  live_reg_memory byte_reg end = record { at = inhabited_joined (RegAndMemoryBytes rex byte_reg) (λ x. EndBytes (end x.0 x.1)) (inhabited_reg_and_memory rex byte_reg) (λ x. inhabited_end (end x.0 x.1)) }

  pub extends_modrm : (f : ℕ → Operand) (modrm : ℕ) → modrm < 256 → LiveOperand rex modrm (f modrm) → Extendable rex (ModRm f)
  extends_modrm f modrm lt i = record { at = extends_behind (λ m. operand_at rex m (f m)) (λ m. OperandBytes rex m (f m)) (λ m. extends_operand rex m (f m)) modrm lt i.at }

  pub live_modrm : (f : ℕ → Operand) (modrm : ℕ) → modrm < 256 → LiveOperand rex modrm (f modrm) → LiveRow rex (ModRm f)
  live_modrm f modrm lt i = record { at = inhabited_behind (λ m. operand_at rex m (f m)) (λ m. OperandBytes rex m (f m)) modrm lt i.at }

  pub extends_escape : (f : ℕ → Row) → ((opcode : ℕ) → Extendable rex (f opcode)) → (opcode : ℕ) → opcode < 256 → LiveRow rex (f opcode) → Extendable rex (Escape f)
  extends_escape f each opcode lt i = record { at = extends_behind (λ o. row_at rex (f o)) (λ o. RowBytes rex (f o)) (λ o. (each o).at) opcode lt i.at }

  pub live_escape : (f : ℕ → Row) (opcode : ℕ) → opcode < 256 → LiveRow rex (f opcode) → LiveRow rex (Escape f)
  live_escape f opcode lt i = record { at = inhabited_behind (λ o. row_at rex (f o)) (λ o. RowBytes rex (f o)) opcode lt i.at }

  -- a ModRM byte with SIB and mod 0: 04, 0C and so on
  pub live_any : (modrm : ℕ) (is_byte : Bool) (end : Rm → End) → is_register modrm ≡ false → has_sib modrm ≡ true → LiveOperand rex modrm (RegisterOrMemory is_byte end)
  live_any modrm is_byte end e h = record { at = inhabited_joined (RmBytes rex is_byte modrm) (λ x. EndBytes (end x)) (inhabited_rm rex is_byte modrm e h) (λ x. inhabited_end (end x)) }

  pub live_memory : (modrm : ℕ) (end : Mem → End) → is_register modrm ≡ false → has_sib modrm ≡ true → LiveOperand rex modrm (Memory end)
  live_memory modrm end e h = record { at = inhabited_joined (MemoryOperandBytes rex modrm) (λ x. EndBytes (end x)) (inhabited_memory_operand rex modrm e h) (λ x. inhabited_end (end x)) }

  pub live_register : (modrm : ℕ) (end : Reg → End) → (is_register modrm && names_rm rex false modrm) ≡ true → LiveOperand rex modrm (Register end)
  live_register modrm end e = let i = inhabited_end (end (rm_register rex modrm)) in record { at = record { value = i.value; bytes = i.bytes; is_bytes = i.is_bytes; spells = (e, i.spells) } }
