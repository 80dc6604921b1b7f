-- What an instruction works on: the memory of the process and the registers of one thread (SDM volume 1, 3.2.1). What is refused is a fault
-- alone, so that nothing can have changed: the state is the one before the instruction (SDM volume 3, "Exception Classifications", faults).
use Rattle.std.specs.Prelude.{ℕ, ◌+◌, ◌-◌, ◌%◌, ◌^◌, List, ℤ, Bool, if◌then◌else◌, Result, Ok, Err}
use Rattle.std.specs.Int.{w64, cast_unsigned}
use Rattle.cet_isa.specs.declared.fault.Fault.{Fault}
use Rattle.cet_isa.specs.declared.registers.Regs.{Regs}
use Rattle.cet_isa.specs.declared.registers.Flags.{Flags}
use Rattle.cet_machine.specs.declared.memory.Region.{Region}

pub record Machine : Type 0 where
  pub memory : List Region
  pub regs : Regs

-- what an instruction comes to: a new machine, or a fault
abbrev pub Effect : Type 0
Effect = Result Machine Fault

-- one part after another; the first refusal is the whole's
infixl 10 ◌>>=◌
abbrev pub ◌>>=◌ : {A B E : Type 0} → Result A E → (A → Result B E) → Result B E
(Ok x) >>= f = f x
(Err e) >>= f = Err e

-- the condition holds, or this is the refusal
abbrev pub demand : {E : Type 0} → Bool → E → Result (Unit {0}) E
demand condition e = if condition then Ok tt else Err e

-- ---- addresses are sums modulo 2^64 (SDM volume 1, 3.3.7 and 3.7.5)

abbrev pub plus : ℕ → ℕ → ℕ
plus a n = (a + n) % 2 ^ 64

-- for n up to 2^64
abbrev pub minus : ℕ → ℕ → ℕ
minus a n = (a + (2 ^ 64 - n)) % 2 ^ 64

-- a with a displacement
abbrev pub displaced : ℕ → ℤ → ℕ
displaced a d = (a + cast_unsigned w64 d) % 2 ^ 64

-- ---- changes of one part

abbrev pub with_flags : Flags → Machine → Machine
with_flags flags m = record m { regs = record (m.regs) { flags = flags } }

-- the next instruction is the one at a
abbrev pub going_to : ℕ → Machine → Machine
going_to a m = record m { regs = record (m.regs) { rip = a } }

abbrev pub with_ssp : ℕ → Machine → Machine
with_ssp ssp m = record m { regs = record (m.regs) { ssp = ssp } }

abbrev pub with_tracker : Bool → Machine → Machine
with_tracker waiting m = record m { regs = record (m.regs) { waiting = waiting } }
