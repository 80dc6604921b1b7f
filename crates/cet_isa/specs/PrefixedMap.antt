-- The prefixes, and the opcode map behind each (SDM volume 2, 2.1.1; of NOTRACK volume 1, 17.3.3; of NOP its page).
use Rattle.std.specs.Prelude.{◌/◌, ℕ, suc, zero, ◌<◌, ◌≤◌, Bool, true, false, not, ◌&&◌, ◌==◌, if◌then◌else◌, List, [], ◌∷◌, ◌++◌, replicate, Option, Some, None, IsTrue}
use Rattle.cet_isa.specs.declared.instruction.Insn.TheVariants.{EndBr64, Nop, CmpXchg, XAdd, RdSsp, IncSsp, RstorSsp, SavePrevSsp}
use Rattle.cet_isa.specs.Operand.{is_rex, rex_w, rex_r, rex_x, middle_field}
use Rattle.cet_isa.specs.Row.{Alone, NoOperand, NoMore, Memory, Register, Row, NoRow, Ends, ModRm, Escape}
use Rattle.cet_isa.specs.OpcodeMap.{plain, narrow, group, extension, indirect_branch, exchange_row, long_nop, one_byte}

pub data Prefix : Type 0 where
  none : Prefix
  -- F3, a part of the opcode
  mandatory : Prefix
  -- F0
  lock : Prefix
  -- 3E
  notrack : Prefix
  -- 66, that many times and once more
  pads : ℕ → Prefix
  -- 66, that many times, and 2E
  pads_segment : ℕ → Prefix

abbrev pub prefix_bytes : Prefix → List ℕ
prefix_bytes none = []
prefix_bytes mandatory = 0xF3 ∷ []
prefix_bytes lock = 0xF0 ∷ []
prefix_bytes notrack = 0x3E ∷ []
prefix_bytes (pads n) = 0x66 ∷ replicate n 0x66
prefix_bytes (pads_segment n) = replicate n 0x66 ++ (0x2E ∷ [])

-- 66 stands six times at most
abbrev pub IsPrefix : Prefix → Type 0
IsPrefix (pads n) = n < 6
IsPrefix (pads_segment n) = n ≤ 6
IsPrefix prefix = Unit {0}

-- Behind F3 no row has a use for R, nor for X beside W; behind 3E none for R and W; the padding of NOP has no REX.
abbrev pub takes_rex : Prefix → Option ℕ → Bool
takes_rex mandatory rex = not (rex_r rex) && not (rex_w rex && rex_x rex)
takes_rex notrack rex = not (rex_r rex) && not (rex_w rex)
takes_rex (pads n) rex = false
takes_rex (pads_segment n) rex = false
takes_rex prefix rex = true

abbrev pub rex_bytes : Option ℕ → List ℕ
rex_bytes None = []
rex_bytes (Some byte) = byte ∷ []

abbrev pub IsRex : Prefix → Option ℕ → Type 0
IsRex prefix None = Unit {0}
IsRex prefix (Some byte) = IsTrue (is_rex byte) × IsTrue (takes_rex prefix (Some byte))

-- F3 0F 1E: ENDBR64, and with REX.W RDSSPQ
abbrev pub shadow_read : Option ℕ → Row
shadow_read None = Escape (λ byte. if byte == 0xFA then Ends (Alone EndBr64) else NoRow)
shadow_read (Some byte) = if rex_w (Some byte) then extension (Some byte) 1 (Register (λ dst. Alone (RdSsp dst))) else NoRow

-- F3 0F 01: RSTORSSP, and without REX also SAVEPREVSSP, EA
abbrev pub shadow_restore : Option ℕ → Row
shadow_restore None = ModRm (λ modrm.
    if modrm == 0xEA then NoMore SavePrevSsp else
    if middle_field modrm == 5 then Memory (λ mem. Alone (RstorSsp mem)) else NoOperand)
shadow_restore (Some byte) = narrow (Some byte) (extension (Some byte) 5 (Memory (λ mem. Alone (RstorSsp mem))))

-- F3 0F AE with REX.W: INCSSPQ
abbrev pub shadow_increment : Option ℕ → Row
shadow_increment rex = if rex_w rex then extension rex 5 (Register (λ src. Alone (IncSsp src))) else NoRow

abbrev pub mandatory_two_byte : Option ℕ → ℕ → Row
mandatory_two_byte rex opcode =
    if opcode == 0x01 then shadow_restore rex else
    if opcode == 0x1E then shadow_read rex else
    if opcode == 0xAE then shadow_increment rex else NoRow

-- CMPXCHG, XADD
abbrev pub locked_two_byte : Option ℕ → ℕ → Row
locked_two_byte rex opcode =
    if opcode / 2 == 0x58 then exchange_row rex opcode (λ w dst src. CmpXchg w dst src true) else
    if opcode / 2 == 0x60 then exchange_row rex opcode (λ w dst src. XAdd w dst src true) else
    NoRow

abbrev pub nop_two_byte : Option ℕ → ℕ → Row
nop_two_byte rex opcode = if opcode == 0x1F then long_nop rex else NoRow

-- the row of an opcode byte behind a prefix
abbrev pub row : Prefix → Option ℕ → ℕ → Row
row none rex opcode = one_byte rex opcode
-- PAUSE
row mandatory rex opcode = if opcode == 0x90 then plain rex (Ends (Alone Nop)) else if opcode == 0x0F then Escape (mandatory_two_byte rex) else NoRow
row lock rex opcode = if opcode == 0x0F then Escape (locked_two_byte rex) else NoRow
row notrack rex opcode = if opcode == 0xFF then narrow rex (group rex (indirect_branch true)) else NoRow
row (pads zero) rex opcode = if opcode == 0x90 then plain rex (Ends (Alone Nop)) else if opcode == 0x0F then Escape (nop_two_byte rex) else NoRow
row (pads (suc n)) rex opcode = if opcode == 0x0F then Escape (nop_two_byte rex) else NoRow
row (pads_segment n) rex opcode = if opcode == 0x0F then Escape (nop_two_byte rex) else NoRow
