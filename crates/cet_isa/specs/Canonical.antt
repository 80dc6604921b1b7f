-- The canonical form of an instruction value: of its forms the one that an encoder writes (SDM volume 2, 2.1 and 2.2.1). It has a REX
-- byte only where needed, the shortest displacement, SIB only where needed, and of its encodings the first that fits. `None`: no list
-- of bytes is a form of the value.
use Rattle.std.specs.Prelude.{ℕ, ◌+◌, ◌-◌, ◌*◌, ◌^◌, Bool, true, false, not, ◌&&◌, ◌||◌, ◌==◌, nat_lt, nat_le, if◌then◌else◌, List, [], ◌∷◌, ◌++◌, ℤ, pos, negsuc, Option, Some, None}
use Rattle.std.specs.Option.{option_map, option_and_then, option_zip}
use Rattle.std.specs.Int as int
use Rattle.std.specs.Int.{w8, w32, byte_len, to_le_bytes, cast_unsigned}
use Rattle.cet_isa.specs.declared.register.Reg.{Reg}
use Rattle.cet_isa.specs.declared.register.Reg.TheVariants.{Rax, Rcx, Rdx, Rbx, Rsp, Rbp, Rsi, Rdi, R8, R9, R10, R11, R12, R13, R14, R15}
use Rattle.cet_isa.specs.declared.operand.Width.{Width}
use Rattle.cet_isa.specs.declared.operand.Width.TheVariants.{B8}
use Rattle.cet_isa.specs.declared.operand.Rel.{Rel}
use Rattle.cet_isa.specs.declared.operand.Rel.TheVariants.{S, L}
use Rattle.cet_isa.specs.declared.operand.Mem.{Mem}
use Rattle.cet_isa.specs.declared.operand.Rm.{Rm}
use Rattle.cet_isa.specs.declared.operand.Rm.TheVariants as rm
use Rattle.cet_isa.specs.declared.operation.AluOp.{AluOp}
use Rattle.cet_isa.specs.declared.operation.AluOp.TheVariants.{Add, Or, Adc, Sbb, And, Sub, Xor, Cmp}
use Rattle.cet_isa.specs.declared.operation.UnOp.{UnOp}
use Rattle.cet_isa.specs.declared.operation.UnOp.TheVariants.{Inc, Dec, Not, Neg}
use Rattle.cet_isa.specs.declared.operation.ShiftOp.{ShiftOp}
use Rattle.cet_isa.specs.declared.operation.ShiftOp.TheVariants.{Rol, Ror, Shl, Shr, Sar}
use Rattle.cet_isa.specs.declared.operation.ShiftCount.{ShiftCount}
use Rattle.cet_isa.specs.declared.operation.ShiftCount.TheVariants as count
use Rattle.cet_isa.specs.declared.operation.MulDivOp.{MulDivOp}
use Rattle.cet_isa.specs.declared.operation.MulDivOp.TheVariants.{Mul, IMul1, Div, IDiv}
use Rattle.cet_isa.specs.declared.operation.Cond.{Cond}
use Rattle.cet_isa.specs.declared.operation.Cond.TheVariants as cond
use Rattle.cet_isa.specs.declared.instruction.Insn.{Insn}
use Rattle.cet_isa.specs.declared.instruction.Insn.TheVariants.{EndBr64, Nop, Mov, MovLoad, MovImm, MovAbs, MovZx, MovSx, MovSxd, Lea, Alu, AluLoad, AluImm, Test, TestImm, Unary, Shift, IMul2, IMul3, MulDiv, Cdq, Cdqe, Push, Pop, PushImm, PushMem, Call, CallInd, JmpInd, Jmp, Jcc, SetCc, CMov, Ret, Leave, Xchg, CmpXchg, XAdd, RdSsp, IncSsp, RstorSsp, SavePrevSsp, WrSs, Syscall, Ud2, Hlt}
use Rattle.cet_isa.specs.Operand.{number_width, names_register, low_field, Displacement, nothing, disp8, disp32}
use Rattle.cet_isa.specs.OpcodeMap.{is_byte}
use Rattle.cet_isa.specs.PrefixedMap.{Prefix, none, mandatory, lock, notrack, prefix_bytes, rex_bytes}

-- ---- numbers: none where one does not fit

-- -2^(k-1) to 2^(k-1) - 1 for k bits; `negsuc n` is -(n + 1)
abbrev pub fits : int.Width → ℤ → Bool
fits w (pos n) = nat_lt n (2 ^ (8 * byte_len w - 1))
fits w (negsuc n) = nat_lt n (2 ^ (8 * byte_len w - 1))

-- in two's complement, little endian
abbrev pub signed : int.Width → ℤ → Option (List ℕ)
signed w z = if fits w z then Some (to_le_bytes w (cast_unsigned w z)) else None

-- little endian
abbrev pub unsigned : int.Width → ℕ → Option (List ℕ)
unsigned w n = if nat_lt n (2 ^ (8 * byte_len w)) then Some (to_le_bytes w n) else None

abbrev pub no_immediate : Option (List ℕ)
no_immediate = Some []

-- ib for bytes, else id
abbrev pub immediate : Width → ℤ → Option (List ℕ)
immediate w z = if is_byte w then signed w8 z else signed w32 z

-- ---- registers: the low three bits of a number stand in a field, and the bit above them in REX

-- the number of a register (table 2-2 and 2.2.1.2)
abbrev pub number : Reg → ℕ
number Rax = 0
number Rcx = 1
number Rdx = 2
number Rbx = 3
number Rsp = 4
number Rbp = 5
number Rsi = 6
number Rdi = 7
number R8 = 8
number R9 = 9
number R10 = 10
number R11 = 11
number R12 = 12
number R13 = 13
number R14 = 14
number R15 = 15

abbrev pub is_extended : ℕ → Bool
is_extended n = nat_le 8 n

-- Without REX, the byte registers 4 to 7 are AH, CH, DH and BH.
abbrev pub needs_rex : Bool → Reg → Bool
needs_rex byte reg = not (names_register None byte (number reg))

-- ---- REX (table 2-4)

-- its bits, and whether a byte register needs it
pub record Rex : Type 0 where
  pub w : Bool
  pub r : Bool
  pub x : Bool
  pub b : Bool
  pub needed : Bool

abbrev pub bit : Bool → ℕ → ℕ
bit is_set worth = if is_set then worth else 0

abbrev pub rex_byte : Rex → ℕ
rex_byte rex = 0x40 + bit rex.w 8 + bit rex.r 4 + bit rex.x 2 + bit rex.b 1

-- none where no bit is set and no register needs it
abbrev pub shortest_rex : Rex → Option ℕ
shortest_rex rex = if rex.w || rex.r || rex.x || rex.b || rex.needed then Some (rex_byte rex) else None

-- ---- ModRM and SIB (figures 2-4 to 2-6)

-- mod, reg and rm, or scale, index and base
abbrev pub fields : ℕ → ℕ → ℕ → ℕ
fields high middle low = high * 64 + middle * 8 + low

-- the reg field's number, of which the field has the low three bits
pub record RegField : Type 0 where
  pub number : ℕ
  pub needs_rex : Bool

-- /0 to /7
abbrev pub digit : ℕ → RegField
digit n = record { number = n; needs_rex = false }

abbrev pub reg_field : Bool → Reg → RegField
reg_field byte reg = record { number = number reg; needs_rex = needs_rex byte reg }

-- the other operand: what it takes of REX, mod and rm, and the bytes behind ModRM
pub record RmField : Type 0 where
  pub x : Bool
  pub b : Bool
  pub needs_rex : Bool
  pub mode : ℕ
  pub rm : ℕ
  pub behind : List ℕ

abbrev pub register_field : Bool → Reg → RmField
register_field byte reg = record { x = false; b = is_extended (number reg); needs_rex = needs_rex byte reg; mode = 3; rm = low_field (number reg); behind = [] }

-- ---- memory operands

abbrev pub is_zero : ℤ → Bool
is_zero (pos n) = n == 0
is_zero (negsuc n) = false

-- Mod 0 with rm 5 or SIB base 5 is no base, so rbp and r13 always have a displacement.
abbrev pub shortest_displacement : Reg → ℤ → Displacement
shortest_displacement base d =
    if is_zero d && not (low_field (number base) == 5) then nothing else
    if fits w8 d then disp8 else disp32

abbrev pub mode_of : Displacement → ℕ
mode_of nothing = 0
mode_of disp8 = 1
mode_of disp32 = 2

abbrev pub displacement_bytes : Displacement → ℤ → Option (List ℕ)
displacement_bytes nothing d = Some []
displacement_bytes disp8 d = signed w8 d
displacement_bytes disp32 d = signed w32 d

-- SIB's scale and index
pub record Index : Type 0 where
  pub scale : ℕ
  pub number : ℕ

abbrev pub scale_field : ℕ → Option ℕ
scale_field scale = if scale == 1 then Some 0 else if scale == 2 then Some 1 else if scale == 4 then Some 2 else if scale == 8 then Some 3 else None

-- Index 4 is none, so rsp is no index; without one the scale is 1.
abbrev pub index_of : Option Reg → ℕ → Option Index
index_of None scale = if scale == 1 then Some (record { scale = 0; number = 4 }) else None
index_of (Some reg) scale = if number reg == 4 then None else option_map (λ field. record { scale = field; number = number reg }) (scale_field scale)

-- mod 0, rm 5: rip + disp32 (2.2.1.6), without base and index
abbrev pub rip_relative : Option Reg → Option Reg → ℕ → ℤ → Option RmField
rip_relative None None scale d =
    if scale == 1 then option_map (λ bytes. record { x = false; b = false; needs_rex = false; mode = 0; rm = 5; behind = bytes }) (signed w32 d) else None
rip_relative base index scale d = None

-- SIB with mod 0 and base 5: no base, and disp32
abbrev pub without_base : Index → ℤ → Option RmField
without_base index d =
    option_map (λ bytes. record { x = is_extended index.number; b = false; needs_rex = false; mode = 0; rm = 4; behind = fields index.scale (low_field index.number) 5 ∷ bytes }) (signed w32 d)

-- rm 4 means SIB, so rsp and r12 as a base have one
abbrev pub needs_sib : Reg → Index → Bool
needs_sib base index = not (index.number == 4) || low_field (number base) == 4

abbrev pub base_field : Reg → Index → ℕ → List ℕ → RmField
base_field base index mode bytes =
    if needs_sib base index
    then record { x = is_extended index.number; b = is_extended (number base); needs_rex = false; mode = mode; rm = 4; behind = fields index.scale (low_field index.number) (low_field (number base)) ∷ bytes }
    else record { x = false; b = is_extended (number base); needs_rex = false; mode = mode; rm = low_field (number base); behind = bytes }

abbrev pub with_base : Reg → Index → ℤ → Option RmField
with_base base index d =
    let displacement = shortest_displacement base d in
    option_map (base_field base index (mode_of displacement)) (displacement_bytes displacement d)

abbrev pub indexed : Option Reg → ℤ → Index → Option RmField
indexed None d index = without_base index d
indexed (Some base) d index = with_base base index d

abbrev pub memory : Mem → Option RmField
memory mem = if mem.rip then rip_relative mem.base mem.index mem.scale mem.disp else option_and_then (indexed mem.base mem.disp) (index_of mem.index mem.scale)

abbrev pub register_or_memory : Bool → Rm → Option RmField
register_or_memory byte (rm.Reg reg) = Some (register_field byte reg)
register_or_memory byte (rm.Mem mem) = memory mem

-- ---- shapes of forms

abbrev pub form : Prefix → Rex → List ℕ → List ℕ → List ℕ
form prefix rex opcode operands = prefix_bytes prefix ++ (rex_bytes (shortest_rex rex) ++ (opcode ++ operands))

-- no REX and no ModRM
abbrev pub plain : List ℕ → Option (List ℕ) → Option (List ℕ)
plain opcode end = option_map (λ bytes. opcode ++ bytes) end

-- +r: the low three bits of the opcode are a register
abbrev pub in_opcode : Bool → ℕ → Bool → Reg → Option (List ℕ) → Option (List ℕ)
in_opcode w opcode byte reg end =
    option_map (form none (record { w = w; r = false; x = false; b = is_extended (number reg); needed = needs_rex byte reg }) ((opcode + low_field (number reg)) ∷ [])) end

abbrev pub modrm_form : Prefix → Bool → List ℕ → RegField → RmField → List ℕ → List ℕ
modrm_form prefix w opcode reg rm end =
    form prefix (record { w = w; r = is_extended reg.number; x = rm.x; b = rm.b; needed = reg.needs_rex || rm.needs_rex }) opcode
    (fields rm.mode (low_field reg.number) rm.rm ∷ (rm.behind ++ end))

abbrev pub with_modrm : Prefix → Bool → List ℕ → RegField → Option RmField → Option (List ℕ) → Option (List ℕ)
with_modrm prefix w opcode reg rm end = option_map (λ parts. modrm_form prefix w opcode reg parts.0 parts.1) (option_zip rm end)

-- ---- widths: 64 bits by REX.W

abbrev pub is_wide : Width → Bool
is_wide B8 = true
is_wide w = false

-- an even opcode is for bytes, and the odd one after it for 32 and 64 bits
abbrev pub sized : ℕ → Width → ℕ
sized opcode w = if is_byte w then opcode else opcode + 1

-- values of 32 and 64 bits alone
abbrev pub no_bytes : Width → Option (List ℕ) → Option (List ℕ)
no_bytes w form = if is_byte w then None else form

-- 98 and 99
abbrev pub accumulator : Width → ℕ → Option (List ℕ)
accumulator w opcode = no_bytes w (Some (form none (record { w = is_wide w; r = false; x = false; b = false; needed = false }) (opcode ∷ []) []))

-- /r
abbrev pub reg_and_rm : Width → List ℕ → Reg → Rm → Option (List ℕ)
reg_and_rm w opcode reg operand = with_modrm none (is_wide w) opcode (reg_field (is_byte w) reg) (register_or_memory (is_byte w) operand) no_immediate

-- /0 to /7
abbrev pub extension : Width → List ℕ → ℕ → Rm → Option (List ℕ) → Option (List ℕ)
extension w opcode n operand end = with_modrm none (is_wide w) opcode (digit n) (register_or_memory (is_byte w) operand) end

-- the opcode with ib where the number fits, else the one with id
abbrev pub short_or_long : ℕ → ℕ → ℤ → (List ℕ → Option (List ℕ) → Option (List ℕ)) → Option (List ℕ)
short_or_long short long z encoding = if fits w8 z then encoding (short ∷ []) (signed w8 z) else encoding (long ∷ []) (signed w32 z)

-- ---- the numbers of operations

abbrev pub alu_number : AluOp → ℕ
alu_number Add = 0
alu_number Or = 1
alu_number Adc = 2
alu_number Sbb = 3
alu_number And = 4
alu_number Sub = 5
alu_number Xor = 6
alu_number Cmp = 7

-- SDM volume 2, B.1.4.7
abbrev pub condition_number : Cond → ℕ
condition_number cond.O = 0
condition_number cond.No = 1
condition_number cond.B = 2
condition_number cond.Ae = 3
condition_number cond.E = 4
condition_number cond.Ne = 5
condition_number cond.Be = 6
condition_number cond.A = 7
condition_number cond.S = 8
condition_number cond.Ns = 9
condition_number cond.L = 12
condition_number cond.Ge = 13
condition_number cond.Le = 14
condition_number cond.G = 15

abbrev pub shift_number : ShiftOp → ℕ
shift_number Rol = 0
shift_number Ror = 1
shift_number Shl = 4
shift_number Shr = 5
shift_number Sar = 7

abbrev pub product_number : MulDivOp → ℕ
product_number Mul = 4
product_number IMul1 = 5
product_number Div = 6
product_number IDiv = 7

abbrev pub unary : UnOp → Width → Rm → Option (List ℕ)
unary Inc w dst = extension w (sized 0xFE w ∷ []) 0 dst no_immediate
unary Dec w dst = extension w (sized 0xFE w ∷ []) 1 dst no_immediate
unary Not w dst = extension w (sized 0xF6 w ∷ []) 2 dst no_immediate
unary Neg w dst = extension w (sized 0xF6 w ∷ []) 3 dst no_immediate

abbrev pub shift : ShiftOp → Width → Rm → ShiftCount → Option (List ℕ)
shift op w dst count.Cl = extension w (sized 0xD2 w ∷ []) (shift_number op) dst no_immediate
shift op w dst (count.Imm n) =
    if n == 1 then extension w (sized 0xD0 w ∷ []) (shift_number op) dst no_immediate else
    extension w (sized 0xC0 w ∷ []) (shift_number op) dst (unsigned w8 n)

abbrev pub jump : Rel → Option (List ℕ)
jump (S rel) = plain (0xEB ∷ []) (signed w8 rel)
jump (L rel) = plain (0xE9 ∷ []) (signed w32 rel)

abbrev pub conditional_jump : Cond → Rel → Option (List ℕ)
conditional_jump c (S rel) = plain ((0x70 + condition_number c) ∷ []) (signed w8 rel)
conditional_jump c (L rel) = plain (0x0F ∷ (0x80 + condition_number c) ∷ []) (signed w32 rel)

-- FF, with NOTRACK behind 3E
abbrev pub indirect : Bool → ℕ → Rm → Option (List ℕ)
indirect is_notrack n target = with_modrm (if is_notrack then notrack else none) false (0xFF ∷ []) (digit n) (register_or_memory false target) no_immediate

-- of memory, with LOCK behind F0
abbrev pub exchange : Bool → Width → ℕ → Mem → Reg → Option (List ℕ)
exchange is_lock w opcode dst src =
    with_modrm (if is_lock then lock else none) (is_wide w) (0x0F ∷ sized opcode w ∷ []) (reg_field (is_byte w) src) (memory dst) no_immediate

-- the shadow stack pointer from and to a register, behind F3 with REX.W
abbrev pub shadow_register : ℕ → ℕ → Reg → Option (List ℕ)
shadow_register opcode n reg = with_modrm mandatory true (0x0F ∷ opcode ∷ []) (digit n) (Some (register_field false reg)) no_immediate

-- ---- the values

unfoldable pub canonical : Insn → Option (List ℕ)
canonical EndBr64 = Some (0xF3 ∷ 0x0F ∷ 0x1E ∷ 0xFA ∷ [])
canonical Nop = Some (0x90 ∷ [])
canonical (Mov w dst src) = reg_and_rm w (sized 0x88 w ∷ []) src dst
canonical (MovLoad w dst src) = reg_and_rm w (sized 0x8A w ∷ []) dst src
canonical (MovImm w dst imm) = extension w (sized 0xC6 w ∷ []) 0 dst (immediate w imm)
canonical (MovAbs w dst imm) = in_opcode (is_wide w) (if is_byte w then 0xB0 else 0xB8) (is_byte w) dst (unsigned (number_width w) imm)
canonical (MovZx w dst src) = no_bytes w (with_modrm none (is_wide w) (0x0F ∷ 0xB6 ∷ []) (reg_field false dst) (register_or_memory true src) no_immediate)
canonical (MovSx w dst src) = no_bytes w (with_modrm none (is_wide w) (0x0F ∷ 0xBE ∷ []) (reg_field false dst) (register_or_memory true src) no_immediate)
canonical (MovSxd dst src) = reg_and_rm B8 (0x63 ∷ []) dst src
canonical (Lea w dst mem) = no_bytes w (reg_and_rm w (0x8D ∷ []) dst (rm.Mem mem))
canonical (Alu op w dst src) = reg_and_rm w (sized (alu_number op * 8) w ∷ []) src dst
canonical (AluLoad op w dst src) = reg_and_rm w (sized (alu_number op * 8 + 2) w ∷ []) dst src
canonical (AluImm op w dst imm) =
    if is_byte w
    then extension w (0x80 ∷ []) (alu_number op) dst (signed w8 imm)
    else short_or_long 0x83 0x81 imm (λ opcode end. extension w opcode (alu_number op) dst end)
canonical (Test w dst src) = reg_and_rm w (sized 0x84 w ∷ []) src dst
canonical (TestImm w dst imm) = extension w (sized 0xF6 w ∷ []) 0 dst (immediate w imm)
canonical (Unary op w dst) = unary op w dst
canonical (Shift op w dst n) = shift op w dst n
canonical (IMul2 w dst src) = no_bytes w (reg_and_rm w (0x0F ∷ 0xAF ∷ []) dst src)
canonical (IMul3 w dst src imm) =
    no_bytes w (short_or_long 0x6B 0x69 imm (λ opcode end. with_modrm none (is_wide w) opcode (reg_field false dst) (register_or_memory false src) end))
canonical (MulDiv op w src) = no_bytes w (extension w (0xF7 ∷ []) (product_number op) src no_immediate)
canonical (Cdq w) = accumulator w 0x99
canonical (Cdqe w) = accumulator w 0x98
canonical (Push src) = in_opcode false 0x50 false src no_immediate
canonical (Pop dst) = in_opcode false 0x58 false dst no_immediate
canonical (PushImm imm) = short_or_long 0x6A 0x68 imm plain
canonical (PushMem mem) = with_modrm none false (0xFF ∷ []) (digit 6) (memory mem) no_immediate
canonical (Call rel) = plain (0xE8 ∷ []) (signed w32 rel)
canonical (CallInd target is_notrack) = indirect is_notrack 2 target
canonical (JmpInd target is_notrack) = indirect is_notrack 4 target
canonical (Jmp rel) = jump rel
canonical (Jcc c rel) = conditional_jump c rel
canonical (SetCc c dst) = with_modrm none false (0x0F ∷ (0x90 + condition_number c) ∷ []) (digit 0) (register_or_memory true dst) no_immediate
canonical (CMov c w dst src) = no_bytes w (reg_and_rm w (0x0F ∷ (0x40 + condition_number c) ∷ []) dst src)
canonical Ret = Some (0xC3 ∷ [])
canonical Leave = Some (0xC9 ∷ [])
canonical (Xchg w dst src) = reg_and_rm w (sized 0x86 w ∷ []) src dst
canonical (CmpXchg w dst src is_lock) = exchange is_lock w 0xB0 dst src
canonical (XAdd w dst src is_lock) = exchange is_lock w 0xC0 dst src
canonical (RdSsp dst) = shadow_register 0x1E 1 dst
canonical (IncSsp src) = shadow_register 0xAE 5 src
canonical (RstorSsp mem) = with_modrm mandatory false (0x0F ∷ 0x01 ∷ []) (digit 5) (memory mem) no_immediate
canonical SavePrevSsp = Some (0xF3 ∷ 0x0F ∷ 0x01 ∷ 0xEA ∷ [])
canonical (WrSs mem src) = with_modrm none true (0x0F ∷ 0x38 ∷ 0xF6 ∷ []) (reg_field false src) (memory mem) no_immediate
canonical Syscall = Some (0x0F ∷ 0x05 ∷ [])
canonical Ud2 = Some (0x0F ∷ 0x0B ∷ [])
canonical Hlt = Some (0xF4 ∷ [])
