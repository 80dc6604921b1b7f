-- A row of the opcode map (SDM volume 2, appendix A): what may follow an opcode byte, and which value it then is.
use Rattle.std.specs.Prelude.{◌≡◌, ℕ, Bool, false, ◌&&◌, List, [], ◌∷◌, ◌++◌, ℤ, Option, IsTrue}
use Rattle.std.specs.Int.{w8, w32}
use Rattle.cet_isa.specs.declared.operand.Width.{Width}
use Rattle.cet_isa.specs.declared.register.Reg.{Reg}
use Rattle.cet_isa.specs.declared.operand.Mem.{Mem}
use Rattle.cet_isa.specs.declared.operand.Rm.{Rm}
use Rattle.cet_isa.specs.declared.instruction.Insn.{Insn}
use Rattle.cet_isa.specs.Operand.{number_width, Unsigned, Signed, MemoryOperandBytes, RmBytes, RegAndRmBytes, RegAndMemoryBytes, is_register, names_rm, rm_register}

-- how a form ends: alone, or with an immediate
pub data End : Type 0 where
  Alone : Insn → End
  Signed8 : (ℤ → Insn) → End
  Signed32 : (ℤ → Insn) → End
  Unsigned8 : (ℕ → Insn) → End

-- what a ModRM byte asks for: nothing more, or an operand and then an end; NoOperand: no form has this ModRM byte
pub data Operand : Type 0 where
  NoOperand : Operand
  NoMore : Insn → Operand
  RegisterOrMemory : Bool → (Rm → End) → Operand
  Memory : (Mem → End) → Operand
  Register : (Reg → End) → Operand

-- what an opcode byte asks for: an end, a constant of that width, ModRM with operands, or a further opcode byte; NoRow: no form
-- has this opcode
pub data Row : Type 0 where
  NoRow : Row
  Ends : End → Row
  Constant : Width → (ℕ → Insn) → Row
  RegAndRm : Bool → Bool → (Reg → Rm → End) → Row
  RegAndMemory : Bool → (Reg → Mem → End) → Row
  ModRm : (ℕ → Operand) → Row
  Escape : (ℕ → Row) → Row

abbrev pub EndBytes : End → Insn → List ℕ → Type 0
EndBytes (Alone j) i bytes = (i ≡ j) × (bytes ≡ [])
EndBytes (Signed8 f) i bytes = (z : ℤ) × Signed w8 z bytes × (i ≡ f z)
EndBytes (Signed32 f) i bytes = (z : ℤ) × Signed w32 z bytes × (i ≡ f z)
EndBytes (Unsigned8 f) i bytes = (n : ℕ) × Unsigned w8 n bytes × (i ≡ f n)

-- a part x, and then the end that it leads to
abbrev pub Then : {A : Type 0} → (A → List ℕ → Type 0) → (A → End) → Insn → List ℕ → Type 0
Then {A} P end i bytes = (x : A) × (front : List ℕ) × (back : List ℕ) × P x front × EndBytes (end x) i back × (bytes ≡ front ++ back)

abbrev pub OperandBytes : Option ℕ → ℕ → Operand → Insn → List ℕ → Type 0
OperandBytes rex modrm NoOperand i bytes = ⊥
OperandBytes rex modrm (NoMore j) i bytes = (i ≡ j) × (bytes ≡ [])
OperandBytes rex modrm (RegisterOrMemory is_byte end) i bytes = Then (RmBytes rex is_byte modrm) end i bytes
OperandBytes rex modrm (Memory end) i bytes = Then (MemoryOperandBytes rex modrm) end i bytes
OperandBytes rex modrm (Register end) i bytes = IsTrue (is_register modrm && names_rm rex false modrm) × EndBytes (end (rm_register rex modrm)) i bytes

-- the bytes that follow the opcode byte of a row
abbrev pub RowBytes : Option ℕ → Row → Insn → List ℕ → Type 0
RowBytes rex NoRow i bytes = ⊥
RowBytes rex (Ends end) i bytes = EndBytes end i bytes
RowBytes rex (Constant w f) i bytes = (n : ℕ) × Unsigned (number_width w) n bytes × (i ≡ f n)
RowBytes rex (RegAndRm byte_reg byte_rm end) i bytes = Then (RegAndRmBytes rex byte_reg byte_rm) (λ x. end x.0 x.1) i bytes
RowBytes rex (RegAndMemory byte_reg end) i bytes = Then (RegAndMemoryBytes rex byte_reg) (λ x. end x.0 x.1) i bytes
RowBytes rex (ModRm f) i bytes = (modrm : ℕ) × (rest : List ℕ) × OperandBytes rex modrm (f modrm) i rest × (bytes ≡ modrm ∷ rest)
RowBytes rex (Escape f) i bytes = (opcode : ℕ) × (rest : List ℕ) × RowBytes rex (f opcode) i rest × (bytes ≡ opcode ∷ rest)
