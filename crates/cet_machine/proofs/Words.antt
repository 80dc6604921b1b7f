-- Registers and loaded numbers stay below 2^64: moves and arithmetic.
use Rattle.std.proofs.Common.{ℕ, ◌/◌, ◌^◌, ◌<◌, inl, inr, List, length, nat_lt, All, ℤ, IfOk, ok_or, sym, subst, arith, lit<}
use Rattle.std.specs.Int.{w64, cast_unsigned}
use Rattle.std.proofs.Math.Nat.{mod-lt, div-lt_iff_lt-mul}
use Rattle.std.proofs.lemmas.Bool.{cases_Bool, ltb-true, ltb-false}
use Rattle.std.proofs.lemmas.Nat.{pow_pos}
use Rattle.std.proofs.lemmas.List.{get_or_past}
use Rattle.std.proofs.lemmas.List.Elements.{All-get_or, All-set}
use Rattle.cet_isa.specs.declared.register.Reg.{Reg}
use Rattle.cet_isa.specs.declared.operand.Width.{Width}
use Rattle.cet_isa.specs.declared.operand.Width.TheVariants.{B1, B4, B8}
use Rattle.cet_isa.specs.declared.operand.Rm.{Rm}
use Rattle.cet_isa.specs.declared.operand.Rm.TheVariants as rm
use Rattle.cet_isa.specs.declared.fault.Fault.TheVariants.{Page}
use Rattle.cet_isa.specs.declared.registers.Flags.{Flags}
use Rattle.cet_isa.specs.declared.registers.Regs.{Regs}
use Rattle.cet_isa.specs.Canonical.{number}
use Rattle.cet_machine.specs.declared.memory.Region.{Region}
use Rattle.cet_machine.specs.Arithmetic.{bits, bytes_of}
use Rattle.cet_machine.specs.Memory.{is_any, load, store, low_bytes}
use Rattle.cet_machine.specs.MemoryLaws.{HaveBytes}
use Rattle.cet_machine.specs.MachineLaws.{KeepsRegions, HasWords}
use Rattle.cet_machine.specs.Machine.{Machine, with_flags}
use Rattle.cet_machine.specs.Operand.{value, low, value_at, merged, put, immediate, address, load_at, store_at, read, write}
use Rattle.cet_machine.proofs.MemoryBytes.{IsByteList-low_bytes}
use Rattle.cet_machine.proofs.MemoryReads.{load_fits}
use Rattle.cet_machine.proofs.Keeps.{write_keeps, after_ok, ok_or_some}

-- ---- registers

pub value_fits : (R : Regs) (reg : Reg) → All (λ v. v < 2 ^ 64) R.r → value R reg < 2 ^ 64
value_fits R reg all = elim (cases_Bool (nat_lt (number reg) (length R.r))) [
  | inl within ↦ All-get_or (λ v. v < 2 ^ 64) R.r (number reg) 0 (ltb-true (number reg) (length R.r) within) all
  | inr past ↦ subst (λ (v : ℕ). v < 2 ^ 64) (sym (get_or_past R.r (number reg) 0 (ltb-false (number reg) (length R.r) past))) (pow_pos 64)
]

pub low_fits : (w : Width) (n : ℕ) → n < 2 ^ 64 → low w n < 2 ^ bits w
low_fits B1 n below = mod-lt n (lit< tt)
low_fits B4 n below = mod-lt n (lit< tt)
low_fits B8 n below = below

pub value_at_fits : (w : Width) (m : Machine) (reg : Reg) → HasWords m → value_at w m.regs reg < 2 ^ bits w
value_at_fits w m reg h = low_fits w (value m.regs reg) (value_fits m.regs reg h.registers)

pub immediate_fits : (w : Width) (imm : ℤ) → immediate w imm < 2 ^ bits w
immediate_fits w imm = mod-lt (cast_unsigned w64 imm) (pow_pos (bits w))

merged_fits : (w : Width) (old v : ℕ) → old < 2 ^ 64 → v < 2 ^ bits w → merged w old v < 2 ^ 64
merged_fits B1 old v below fits =
    let upper : old / 256 < 2 ^ 56 = (div-lt_iff_lt-mul {k = 256} {x = old} {y = 2 ^ 56} (lit< tt)).1 below in
    omega (arith, upper, fits)
merged_fits B4 old v below fits = omega (arith, fits)
merged_fits B8 old v below fits = fits

pub put_words : (w : Width) (reg : Reg) (v : ℕ) (m : Machine) → HasWords m → v < 2 ^ bits w → HasWords (put w reg v m)
put_words w reg v m h fits = record {
  memory = h.memory;
  registers = All-set (λ n. n < 2 ^ 64) m.regs.r (number reg) (merged w (value m.regs reg) v) (merged_fits w (value m.regs reg) v (value_fits m.regs reg h.registers) fits) h.registers;
  rip = h.rip;
  ssp = h.ssp;
  mask = h.mask;
}

pub flags_words : (flags : Flags) (m : Machine) → HasWords m → HasWords (with_flags flags m)
flags_words flags m h = record { memory = h.memory; registers = h.registers; rip = h.rip; ssp = h.ssp; mask = h.mask }

pub memory_words : (m : Machine) (N : List Region) → HasWords m → HaveBytes N → HasWords (record m { memory = N })
memory_words m N h bytes = record { memory = bytes; registers = h.registers; rip = h.rip; ssp = h.ssp; mask = h.mask }

-- ---- memory

bytes_are_bits : (w : Width) (v : ℕ) → v < 256 ^ bytes_of w → v < 2 ^ bits w
bytes_are_bits B1 v below = below
bytes_are_bits B4 v below = below
bytes_are_bits B8 v below = below

pub load_words : (w : Width) (a : ℕ) (m : Machine) → HasWords m → IfOk (load_at w a m) (λ v. v < 2 ^ bits w)
load_words w a m h =
    ok_or_some (load m.memory a (bytes_of w)) (Page a) (λ v. v < 2 ^ bits w) (λ v e. bytes_are_bits w v (load_fits is_any m.memory a (bytes_of w) v h.memory e))

pub store_words : (w : Width) (a v : ℕ) (m : Machine) → HasWords m → IfOk (store_at w a v m) HasWords
store_words w a v m h =
    after_ok (ok_or (store m.memory a (bytes_of w) v) (Page a)) _ (KeepsRegions m.memory) HasWords
    (ok_or_some (store m.memory a (bytes_of w) v) (Page a) (KeepsRegions m.memory)
    (λ N e. write_keeps m.memory N a (low_bytes (bytes_of w) v) (IsByteList-low_bytes (bytes_of w) v) e))
    (λ N k. memory_words m N h (k.bytes h.memory))

pub read_words : (w : Width) (operand : Rm) (m : Machine) → HasWords m → IfOk (read w operand m) (λ v. v < 2 ^ bits w)
read_words w (rm.Reg reg) m h = value_at_fits w m reg h
read_words w (rm.Mem mem) m h = load_words w (address m.regs mem) m h

pub write_words : (w : Width) (operand : Rm) (v : ℕ) (m : Machine) → HasWords m → v < 2 ^ bits w → IfOk (write w operand v m) HasWords
write_words w (rm.Reg reg) v m h fits = put_words w reg v m h fits
write_words w (rm.Mem mem) v m h fits = store_words w (address m.regs mem) v m h
