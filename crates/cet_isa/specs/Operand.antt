-- The operand bytes of an instruction: REX, ModRM, SIB and displacement (SDM volume 2, 2.1.3 to 2.1.5 and 2.2.1).
use Rattle.std.specs.Prelude.{◌≡◌, ℕ, ◌+◌, ◌/◌, ◌%◌, ◌^◌, Bool, true, false, not, ◌&&◌, ◌||◌, ◌==◌, nat_lt, nat_le, if◌then◌else◌, List, [], ◌∷◌, length, ℤ, pos, Option, Some, None, IsTrue}
use Rattle.std.specs.Int.{Width, w8, w32, w64, byte_len, from_le_bytes, cast_signed}
use Rattle.cet_isa.specs.declared.register.Reg.{Reg}
use Rattle.cet_isa.specs.declared.register.Reg.TheVariants.{Rax, Rcx, Rdx, Rbx, Rsp, Rbp, Rsi, Rdi, R8, R9, R10, R11, R12, R13, R14, R15}
use Rattle.cet_isa.specs.declared.operand.Width as operand
use Rattle.cet_isa.specs.declared.operand.Width.TheVariants.{B1, B4, B8}
use Rattle.cet_isa.specs.declared.operand.Mem.{Mem}
use Rattle.cet_isa.specs.declared.operand.Rm.{Rm}
use Rattle.cet_isa.specs.declared.operand.Rm.TheVariants as rm

-- P where the test holds, and else Q
abbrev pub Where : Bool → Type 0 → Type 0 → Type 0
Where true P Q = P
Where false P Q = Q

-- these bytes, little endian
abbrev pub Unsigned : Width → ℕ → List ℕ → Type 0
Unsigned w n bytes = (length bytes ≡ byte_len w) × (n ≡ from_le_bytes w bytes)

-- these bytes, little endian, in two's complement
abbrev pub Signed : Width → ℤ → List ℕ → Type 0
Signed w z bytes = (length bytes ≡ byte_len w) × (z ≡ cast_signed w (from_le_bytes w bytes))

-- the bytes of a number of an operand's width
abbrev pub number_width : operand.Width → Width
number_width B1 = w8
number_width B4 = w32
number_width B8 = w64

-- the register of a number (SDM volume 2, table 2-2 and 2.2.1.2)
abbrev pub register : ℕ → Reg
register n =
    if n == 0 then Rax else if n == 1 then Rcx else if n == 2 then Rdx else if n == 3 then Rbx else
    if n == 4 then Rsp else if n == 5 then Rbp else if n == 6 then Rsi else if n == 7 then Rdi else
    if n == 8 then R8 else if n == 9 then R9 else if n == 10 then R10 else if n == 11 then R11 else
    if n == 12 then R12 else if n == 13 then R13 else if n == 14 then R14 else R15

-- ---- REX, 40 to 4F: the bits W, R, X and B (table 2-4); all 0 without one

abbrev pub is_rex : ℕ → Bool
is_rex byte = nat_le 0x40 byte && nat_lt byte 0x50

-- bit 1, 2, 4 or 8
abbrev pub rex_bit : ℕ → Option ℕ → Bool
rex_bit bit None = false
rex_bit bit (Some byte) = byte / bit % 2 == 1

abbrev pub rex_w : Option ℕ → Bool
rex_w rex = rex_bit 8 rex

abbrev pub rex_r : Option ℕ → Bool
rex_r rex = rex_bit 4 rex

abbrev pub rex_x : Option ℕ → Bool
rex_x rex = rex_bit 2 rex

abbrev pub rex_b : Option ℕ → Bool
rex_b rex = rex_bit 1 rex

-- a field of three bits, with a bit of REX above it
abbrev pub extended : Bool → ℕ → ℕ
extended bit field = if bit then 8 + field else field

-- ---- ModRM: mod, reg and rm; SIB: scale, index and base (figures 2-4 to 2-6)

abbrev pub high_field : ℕ → ℕ
high_field byte = byte / 64

abbrev pub middle_field : ℕ → ℕ
middle_field byte = byte / 8 % 8

abbrev pub low_field : ℕ → ℕ
low_field byte = byte % 8

-- Without REX, the byte registers 4 to 7 are AH, CH, DH and BH, which are no operands here.
abbrev pub names_register : Option ℕ → Bool → ℕ → Bool
names_register (Some byte) is_byte field = true
names_register None is_byte field = if nat_lt field 4 then true else not is_byte

-- ---- memory operands

pub data Displacement : Type 0 where
  nothing : Displacement
  disp8 : Displacement
  disp32 : Displacement

-- all of a memory operand but the displacement itself
pub record Address : Type 0 where
  pub base : Option Reg
  pub index : Option Reg
  pub scale : ℕ
  pub rip : Bool
  pub displacement : Displacement

abbrev pub displaced : Address → ℤ → Mem
displaced a d = record { base = a.base; index = a.index; scale = a.scale; disp = d; rip = a.rip }

abbrev pub displacement_of_mod : ℕ → Displacement
displacement_of_mod field = if field == 0 then nothing else if field == 1 then disp8 else disp32

abbrev pub has_sib : ℕ → Bool
has_sib modrm = low_field modrm == 4

-- ModRM alone (table 2-2); mod 0 with rm 5 is rip + disp32 (2.2.1.6)
abbrev pub modrm_address : Option ℕ → ℕ → Option Address
modrm_address rex modrm =
    if rex_x rex then None else
    if high_field modrm == 0 && low_field modrm == 5
    then if rex_b rex then None else Some (record { base = None; index = None; scale = 1; rip = true; displacement = disp32 })
    else Some (record { base = Some (register (extended (rex_b rex) (low_field modrm))); index = None; scale = 1; rip = false; displacement = displacement_of_mod (high_field modrm) })

-- index 4 with X 0 is no index, and then the scale bits are 0
abbrev pub has_index : Option ℕ → ℕ → Bool
has_index rex sib = not (extended (rex_x rex) (middle_field sib) == 4)

-- base 5 with mod 0 is no base, and disp32; B has no use then
abbrev pub has_base : ℕ → ℕ → Bool
has_base modrm sib = not (high_field modrm == 0 && low_field sib == 5)

abbrev pub sib_base : Option ℕ → ℕ → ℕ → Option Reg
sib_base rex modrm sib = if has_base modrm sib then Some (register (extended (rex_b rex) (low_field sib))) else None

abbrev pub sib_index : Option ℕ → ℕ → Option Reg
sib_index rex sib = if has_index rex sib then Some (register (extended (rex_x rex) (middle_field sib))) else None

abbrev pub sib_displacement : ℕ → ℕ → Displacement
sib_displacement modrm sib = if has_base modrm sib then displacement_of_mod (high_field modrm) else disp32

-- ModRM and SIB (table 2-3)
abbrev pub sib_address : Option ℕ → ℕ → ℕ → Option Address
sib_address rex modrm sib =
    if (has_index rex sib || high_field sib == 0) && (has_base modrm sib || not (rex_b rex))
    then Some (record { base = sib_base rex modrm sib; index = sib_index rex sib; scale = 2 ^ high_field sib; rip = false; displacement = sib_displacement modrm sib })
    else None

abbrev pub Displaced : Displacement → ℤ → List ℕ → Type 0
Displaced nothing d bytes = (d ≡ pos 0) × (bytes ≡ [])
Displaced disp8 d bytes = Signed w8 d bytes
Displaced disp32 d bytes = Signed w32 d bytes

-- a memory operand of that address, if there is one: its displacement
abbrev pub Addressed : Option Address → Mem → List ℕ → Type 0
Addressed None mem bytes = ⊥
Addressed (Some a) mem bytes = (d : ℤ) × Displaced a.displacement d bytes × (mem ≡ displaced a d)

-- what follows ModRM for a memory operand: SIB where there is one, and the displacement
abbrev pub MemoryBytes : Option ℕ → ℕ → Mem → List ℕ → Type 0
MemoryBytes rex modrm mem bytes =
    Where (has_sib modrm)
    ((sib : ℕ) × (rest : List ℕ) × Addressed (sib_address rex modrm sib) mem rest × (bytes ≡ sib ∷ rest))
    (Addressed (modrm_address rex modrm) mem bytes)

abbrev pub is_register : ℕ → Bool
is_register modrm = high_field modrm == 3

-- a register as rm: X has no use
abbrev pub names_rm : Option ℕ → Bool → ℕ → Bool
names_rm rex is_byte modrm = not (rex_x rex) && names_register rex is_byte (low_field modrm)

abbrev pub rm_register : Option ℕ → ℕ → Reg
rm_register rex modrm = register (extended (rex_b rex) (low_field modrm))

abbrev pub reg_register : Option ℕ → ℕ → Reg
reg_register rex modrm = register (extended (rex_r rex) (middle_field modrm))

-- what follows ModRM for an operand that is a register or memory
abbrev pub RmBytes : Option ℕ → Bool → ℕ → Rm → List ℕ → Type 0
RmBytes rex is_byte modrm operand bytes =
    Where (is_register modrm)
    (IsTrue (names_rm rex is_byte modrm) × ((operand ≡ rm.Reg (rm_register rex modrm)) × (bytes ≡ [])))
    ((mem : Mem) × MemoryBytes rex modrm mem bytes × (operand ≡ rm.Mem mem))

-- what follows ModRM for an operand that is memory alone
abbrev pub MemoryOperandBytes : Option ℕ → ℕ → Mem → List ℕ → Type 0
MemoryOperandBytes rex modrm mem bytes = Where (is_register modrm) ⊥ (MemoryBytes rex modrm mem bytes)

-- /r: ModRM's reg field is a register, and the other operand is a register or memory; each may be a byte
abbrev pub RegAndRmBytes : Option ℕ → Bool → Bool → Reg × Rm → List ℕ → Type 0
RegAndRmBytes rex byte_reg byte_rm operands bytes =
    (modrm : ℕ) × (rest : List ℕ)
    × (IsTrue (names_register rex byte_reg (middle_field modrm)) × ((operand : Rm) × RmBytes rex byte_rm modrm operand rest × (operands ≡ (reg_register rex modrm, operand))))
    × (bytes ≡ modrm ∷ rest)

-- /r: ModRM's reg field is a register, and the other operand is memory
abbrev pub RegAndMemoryBytes : Option ℕ → Bool → Reg × Mem → List ℕ → Type 0
RegAndMemoryBytes rex byte_reg operands bytes =
    (modrm : ℕ) × (rest : List ℕ)
    × (IsTrue (names_register rex byte_reg (middle_field modrm)) × ((mem : Mem) × MemoryOperandBytes rex modrm mem rest × (operands ≡ (reg_register rex modrm, mem))))
    × (bytes ≡ modrm ∷ rest)
