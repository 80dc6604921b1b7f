-- The one form at the head of a list of bytes, found from left to right (SDM volume 2, 2.1 and 2.2: prefixes, opcode, ModRM, SIB, displacement,
-- immediate). The laws of `Law` tie it to `Form`.
use Rattle.std.specs.Prelude.{ℕ, zero, suc, ◌-◌, Bool, false, ◌&&◌, ◌==◌, if◌then◌else◌, List, length, ℤ, pos, Option, Some, None, Result, Ok, Err}
use Rattle.std.specs.Int.{w8, w32}
use Rattle.cet_isa.specs.declared.register.Reg.{Reg}
use Rattle.cet_isa.specs.declared.operand.Mem.{Mem}
use Rattle.cet_isa.specs.declared.operand.Rm.{Rm}
use Rattle.cet_isa.specs.declared.operand.Rm.TheVariants as rm
use Rattle.cet_isa.specs.declared.instruction.Insn.{Insn}
use Rattle.cet_isa.specs.declared.decode_error.DecodeError.{DecodeError}
use Rattle.cet_isa.specs.declared.decode_error.DecodeError.TheVariants.{Outside}
use Rattle.cet_isa.specs.Reader.{Read, ◌>>=◌, byte_at, unsigned_at, signed_at}
use Rattle.cet_isa.specs.Operand.{number_width, Displacement, nothing, disp8, disp32, Address, displaced, has_sib, modrm_address, sib_address, is_register, names_rm, rm_register, names_register, middle_field, reg_register, is_rex}
use Rattle.cet_isa.specs.Row.{End, Alone, Signed8, Signed32, Unsigned8, Operand, NoOperand, NoMore, RegisterOrMemory, Memory, Register, Row, NoRow, Ends, Constant, RegAndRm, RegAndMemory, ModRm, Escape}
use Rattle.cet_isa.specs.PrefixedMap.{Prefix, none, mandatory, lock, notrack, pads, pads_segment, takes_rex, row}

abbrev pub displacement_at : Displacement → List ℕ → Read ℤ
displacement_at nothing bytes = Ok (pos 0, bytes)
displacement_at disp8 bytes = signed_at w8 bytes
displacement_at disp32 bytes = signed_at w32 bytes

abbrev pub address_at : Option Address → List ℕ → Read Mem
address_at None bytes = Err Outside
address_at (Some a) bytes = displacement_at a.displacement bytes >>= λ d. Ok (displaced a d.0, d.1)

abbrev pub memory_at : Option ℕ → ℕ → List ℕ → Read Mem
memory_at rex modrm bytes =
    if has_sib modrm then byte_at bytes >>= (λ sib. address_at (sib_address rex modrm sib.0) sib.1) else address_at (modrm_address rex modrm) bytes

abbrev pub rm_at : Option ℕ → Bool → ℕ → List ℕ → Read Rm
rm_at rex is_byte modrm bytes =
    if is_register modrm
    then (if names_rm rex is_byte modrm then Ok (rm.Reg (rm_register rex modrm), bytes) else Err Outside)
    else memory_at rex modrm bytes >>= λ mem. Ok (rm.Mem mem.0, mem.1)

abbrev pub memory_operand_at : Option ℕ → ℕ → List ℕ → Read Mem
memory_operand_at rex modrm bytes = if is_register modrm then Err Outside else memory_at rex modrm bytes

abbrev pub reg_and_rm_at : Option ℕ → Bool → Bool → List ℕ → Read (Reg × Rm)
reg_and_rm_at rex byte_reg byte_rm bytes = byte_at bytes >>= λ modrm.
    if names_register rex byte_reg (middle_field modrm.0)
    then rm_at rex byte_rm modrm.0 modrm.1 >>= (λ x. Ok ((reg_register rex modrm.0, x.0), x.1))
    else Err Outside

abbrev pub reg_and_memory_at : Option ℕ → Bool → List ℕ → Read (Reg × Mem)
reg_and_memory_at rex byte_reg bytes = byte_at bytes >>= λ modrm.
    if names_register rex byte_reg (middle_field modrm.0)
    then memory_operand_at rex modrm.0 modrm.1 >>= (λ x. Ok ((reg_register rex modrm.0, x.0), x.1))
    else Err Outside

abbrev pub end_at : End → List ℕ → Read Insn
end_at (Alone i) bytes = Ok (i, bytes)
end_at (Signed8 f) bytes = signed_at w8 bytes >>= λ z. Ok (f z.0, z.1)
end_at (Signed32 f) bytes = signed_at w32 bytes >>= λ z. Ok (f z.0, z.1)
end_at (Unsigned8 f) bytes = unsigned_at w8 bytes >>= λ n. Ok (f n.0, n.1)

abbrev pub operand_at : Option ℕ → ℕ → Operand → List ℕ → Read Insn
operand_at rex modrm NoOperand bytes = Err Outside
operand_at rex modrm (NoMore i) bytes = Ok (i, bytes)
operand_at rex modrm (RegisterOrMemory is_byte end) bytes = rm_at rex is_byte modrm bytes >>= λ x. end_at (end x.0) x.1
operand_at rex modrm (Memory end) bytes = memory_operand_at rex modrm bytes >>= λ x. end_at (end x.0) x.1
operand_at rex modrm (Register end) bytes = if is_register modrm && names_rm rex false modrm then end_at (end (rm_register rex modrm)) bytes else Err Outside

abbrev pub row_at : Option ℕ → Row → List ℕ → Read Insn
row_at rex NoRow bytes = Err Outside
row_at rex (Ends end) bytes = end_at end bytes
row_at rex (Constant w f) bytes = unsigned_at (number_width w) bytes >>= λ n. Ok (f n.0, n.1)
row_at rex (RegAndRm byte_reg byte_rm end) bytes = reg_and_rm_at rex byte_reg byte_rm bytes >>= λ x. end_at (end x.0.0 x.0.1) x.1
row_at rex (RegAndMemory byte_reg end) bytes = reg_and_memory_at rex byte_reg bytes >>= λ x. end_at (end x.0.0 x.0.1) x.1
row_at rex (ModRm f) bytes = byte_at bytes >>= λ modrm. operand_at rex modrm.0 (f modrm.0) modrm.1
row_at rex (Escape f) bytes = byte_at bytes >>= λ opcode. row_at rex (f opcode.0) opcode.1

-- behind a prefix and a REX
abbrev pub opcode_at : Prefix → Option ℕ → List ℕ → Read Insn
opcode_at prefix rex bytes = byte_at bytes >>= λ opcode. row_at rex (row prefix rex opcode.0) opcode.1

abbrev pub rex_at : Prefix → ℕ → List ℕ → Read Insn
rex_at prefix byte bytes = if takes_rex prefix (Some byte) then opcode_at prefix (Some byte) bytes else Err Outside

-- behind a prefix: a REX and an opcode, or an opcode
abbrev pub after_prefix : Prefix → List ℕ → Read Insn
after_prefix prefix bytes = byte_at bytes >>= λ first.
    if is_rex first.0 then rex_at prefix first.0 first.1 else row_at None (row prefix None first.0) first.1

-- behind 66, n + 1 times, what is no 66
abbrev pub behind_pads : ℕ → ℕ → List ℕ → Read Insn
behind_pads n first bytes = if first == 0x2E then opcode_at (pads_segment (suc n)) None bytes else row_at None (row (pads n) None first) bytes

-- behind 66, n + 1 times, where so many more may follow
unfoldable pub after_pads : ℕ → ℕ → List ℕ → Read Insn
after_pads zero n bytes = byte_at bytes >>= λ first. if first.0 == 0x66 then Err Outside else behind_pads n first.0 first.1
after_pads (suc left) n bytes = byte_at bytes >>= λ first. if first.0 == 0x66 then after_pads left (suc n) first.1 else behind_pads n first.0 first.1

unfoldable pub instruction_at : List ℕ → Read Insn
instruction_at bytes = byte_at bytes >>= λ first.
    if is_rex first.0 then rex_at none first.0 first.1 else
    if first.0 == 0xF3 then after_prefix mandatory first.1 else
    if first.0 == 0xF0 then after_prefix lock first.1 else
    if first.0 == 0x3E then after_prefix notrack first.1 else
    if first.0 == 0x66 then after_pads 5 0 first.1 else
    if first.0 == 0x2E then opcode_at (pads_segment 0) None first.1 else
    row_at None (row none None first.0) first.1

-- the value and the length of its form, or why there is none
abbrev pub Decoding : Type 0
Decoding = Result (Insn × ℕ) DecodeError

unfoldable pub decoded : List ℕ → Decoding
decoded bytes = instruction_at bytes >>= λ x. Ok (x.0, length bytes - length x.1)
