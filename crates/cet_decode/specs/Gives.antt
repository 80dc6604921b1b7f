-- What a function returned, seen by view, is what reading gives.
use Rattle.std.specs.Prelude.{◌≡◌, ℕ, ◌%◌, ◌||◌, ◌&&◌, ◌==◌, false, ℤ, Bool, List, if◌then◌else◌, Option, Some, None, Result, Ok, Err}
use Rattle.cet_isa.specs.declared.decode_error.DecodeError.{DecodeError}
use Rattle.cet_isa.specs.declared.decode_error.DecodeError.TheVariants.{Outside}
use Rattle.std.specs.Int.{w8, w32}
use Rattle.cet_isa.specs.declared.register.Reg.{Reg}
use Rattle.cet_isa.specs.declared.operand.Rm.{Rm}
use Rattle.cet_isa.specs.declared.operand.Width.{Width}
use Rattle.cet_isa.specs.declared.operation.ShiftOp.{ShiftOp}
use Rattle.cet_isa.specs.Reader.{Read, ◌>>=◌, byte_at, signed_at}
use Rattle.cet_isa.specs.Decoded.{rm_at}
use Rattle.cet_isa.specs.OpcodeMap.{shift_op, is_byte}
use Rattle.cet_isa.specs.Operand.{names_register, middle_field, reg_register, register, extended, rex_r, rex_x, rex_b, is_register, names_rm, rm_register}

abbrev pub Gives : {X Y : Type 0} → (X → Y) → Result X DecodeError → Result Y DecodeError → Type 0
Gives view (Ok x) read = read ≡ Ok (view x)
Gives view (Err e) read = read ≡ Err e

-- a choice that may be none
abbrev pub or_outside : {X : Type 0} → Option X → Result X DecodeError
or_outside None = Err Outside
or_outside (Some x) = Ok x

-- the register of ModRM's reg field
abbrev pub reg_at : Option ℕ → Bool → ℕ → Result Reg DecodeError
reg_at rex is_byte modrm = if names_register rex is_byte (middle_field modrm) then Ok (reg_register rex modrm) else Err Outside

-- the register in an opcode's low three bits
abbrev pub opcode_register_at : Option ℕ → ℕ → Result Reg DecodeError
opcode_register_at rex opcode = if rex_r rex || rex_x rex then Err Outside else Ok (register (extended (rex_b rex) (opcode % 8)))

-- a constant of 8 bits for a byte, else of 32 bits
abbrev pub immediate_at : Width → List ℕ → Read ℤ
immediate_at w bytes = if is_byte w then signed_at w8 bytes else signed_at w32 bytes

-- ModRM with that extension of the opcode and a register
abbrev pub shadow_register_at : Option ℕ → ℕ → List ℕ → Read Reg
shadow_register_at rex digit bytes = if rex_r rex then Err Outside else byte_at bytes >>= λ modrm.
    if middle_field modrm.0 == digit then (if is_register modrm.0 && names_rm rex false modrm.0 then Ok (rm_register rex modrm.0, modrm.1) else Err Outside) else Err Outside
