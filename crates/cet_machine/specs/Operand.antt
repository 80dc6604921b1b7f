-- Operands: registers at a width, addresses, and memory (SDM volume 1, 3.4.1.1 and 3.7; volume 2, 2.1.5 and 2.2.1.6).
-- While an instruction runs, rip is already the address of the next one.
use Rattle.std.specs.Prelude.{ℕ, ◌+◌, ◌*◌, ◌/◌, ◌%◌, ◌^◌, ℤ, if◌then◌else◌, Option, Some, None, slice_index, slice_set, ok_or, Result, Ok}
use Rattle.std.specs.Int.{w64, cast_unsigned}
use Rattle.cet_isa.specs.declared.register.Reg.{Reg}
use Rattle.cet_isa.specs.declared.operand.Width.{Width}
use Rattle.cet_isa.specs.declared.operand.Width.TheVariants.{B1, B4, B8}
use Rattle.cet_isa.specs.declared.operand.Mem.{Mem}
use Rattle.cet_isa.specs.declared.operand.Rm.{Rm}
use Rattle.cet_isa.specs.declared.operand.Rm.TheVariants as rm
use Rattle.cet_isa.specs.declared.fault.Fault.{Fault}
use Rattle.cet_isa.specs.declared.fault.Fault.TheVariants.{Page}
use Rattle.cet_isa.specs.declared.registers.Regs.{Regs}
use Rattle.cet_isa.specs.Canonical.{number}
use Rattle.cet_machine.specs.Memory.{load, store}
use Rattle.cet_machine.specs.Arithmetic.{bits, bytes_of}
use Rattle.cet_machine.specs.Machine.{Machine, Effect, ◌>>=◌, displaced}

-- ---- registers

-- all 64 bits
abbrev pub value : Regs → Reg → ℕ
value R reg = slice_index R.r (number reg)

-- the bits of a 64-bit number that an operand of this width has
abbrev pub low : Width → ℕ → ℕ
low B1 n = n % 2 ^ 8
low B4 n = n % 2 ^ 32
low B8 n = n

abbrev pub value_at : Width → Regs → Reg → ℕ
value_at w R reg = low w (value R reg)

abbrev pub with_value : Regs → Reg → ℕ → Regs
with_value R reg v = record R { r = slice_set R.r (number reg) v }

-- what a register holds after a result of this width: 32 bits clear its upper half, 8 bits leave its others (3.4.1.1)
abbrev pub merged : Width → ℕ → ℕ → ℕ
merged B1 old v = old / 256 * 256 + v
merged B4 old v = v
merged B8 old v = v

-- m with a result of this width in a register
abbrev pub put : Width → Reg → ℕ → Machine → Machine
put w reg v m = record m { regs = with_value m.regs reg (merged w (value m.regs reg) v) }

-- ---- constants: sign-extended to 64 bits, of which the operand's bits count

abbrev pub immediate : Width → ℤ → ℕ
immediate w imm = cast_unsigned w64 imm % 2 ^ bits w

-- ---- memory

-- a register that is no part of an address counts as 0
abbrev pub part : Regs → Option Reg → ℕ
part R None = 0
part R (Some reg) = value R reg

-- base + index * scale + disp, or next instruction + disp
abbrev pub address : Regs → Mem → ℕ
address R mem = displaced (if mem.rip then R.rip else part R mem.base + part R mem.index * mem.scale) mem.disp

-- the number of this width at an address
abbrev pub load_at : Width → ℕ → Machine → Result ℕ Fault
load_at w a m = ok_or (load m.memory a (bytes_of w)) (Page a)

abbrev pub store_at : Width → ℕ → ℕ → Machine → Effect
store_at w a v m = ok_or (store m.memory a (bytes_of w) v) (Page a) >>= λ memory. Ok (record m { memory = memory })

-- ---- a register or memory

abbrev pub read : Width → Rm → Machine → Result ℕ Fault
read w (rm.Reg reg) m = Ok (value_at w m.regs reg)
read w (rm.Mem mem) m = load_at w (address m.regs mem) m

abbrev pub write : Width → Rm → ℕ → Machine → Effect
write w (rm.Reg reg) v m = Ok (put w reg v m)
write w (rm.Mem mem) v m = store_at w (address m.regs mem) v m
