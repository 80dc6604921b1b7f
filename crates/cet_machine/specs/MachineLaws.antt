-- Laws of registers, and of what a step and a signal leave as it was.
use Rattle.std.specs.Prelude.{◌≡◌, ◌≢◌, ℕ, ◌<◌, ◌^◌, Bool, true, false, List, length, All, Ok}
use Rattle.std.specs.List.{filter}
use Rattle.cet_isa.specs.declared.register.Reg.{Reg}
use Rattle.cet_isa.specs.declared.register.Reg.TheVariants.{Rcx, R11}
use Rattle.cet_isa.specs.declared.registers.Regs.{Regs}
use Rattle.cet_isa.specs.declared.registers.Mode.{Mode}
use Rattle.cet_machine.specs.declared.action.Action.{Action}
use Rattle.cet_machine.specs.declared.memory.Kind.{Kind}
use Rattle.cet_machine.specs.declared.memory.Kind.TheVariants.{Code, Read, Write, Shadow}
use Rattle.cet_machine.specs.declared.memory.Region.{Region}
use Rattle.cet_machine.specs.Arithmetic.{flags_word}
use Rattle.cet_machine.specs.Memory.{bytes_at}
use Rattle.cet_machine.specs.MemoryLaws.{SameShape, HaveBytes}
use Rattle.cet_machine.specs.Machine.{Machine}
use Rattle.cet_machine.specs.Operand.{value, with_value}
use Rattle.cet_machine.specs.Step.{step, Next, Syscall}
use Rattle.cet_machine.specs.Signal.{deliver}

-- ---- registers

-- a register that is written has what was written
abbrev pub WrittenIsRead : Type 0
WrittenIsRead = (R : Regs) (reg : Reg) (v : ℕ) → length R.r ≡ 16 → value (with_value R reg v) reg ≡ v

-- every other register is as before
abbrev pub OthersStay : Type 0
OthersStay = (R : Regs) (reg other : Reg) (v : ℕ) → other ≢ reg → value (with_value R reg v) other ≡ value R other

-- there are as many registers as before
abbrev pub CountStays : Type 0
CountStays = (R : Regs) (reg : Reg) (v : ℕ) → length (with_value R reg v).r ≡ length R.r

-- ---- steps

-- neither Write nor Shadow: what no instruction writes
abbrev pub is_fixed : Kind → Bool
is_fixed Code = true
is_fixed Read = true
is_fixed Write = false
is_fixed Shadow = false

-- N has the regions of M, and of those that are neither Write nor Shadow the bytes too
pub record KeepsRegions (M N : List Region) : Type 0 where
  pub shape : SameShape M N
  pub fixed : filter (λ r. is_fixed r.kind) N ≡ filter (λ r. is_fixed r.kind) M
  -- what is read of kinds that are neither
  pub reads : (kinds : Kind → Bool) → kinds Write ≡ false → kinds Shadow ≡ false → (a n : ℕ) → bytes_at kinds N a n ≡ bytes_at kinds M a n
  -- bytes stay below 256
  pub bytes : HaveBytes M → HaveBytes N

-- the same regions, and as many registers
abbrev pub Follows : Machine → Machine → Type 0
Follows m n = KeepsRegions m.memory n.memory × (length n.regs.r ≡ length m.regs.r)

abbrev pub StepKeeps : Type 0
StepKeeps = (mode : Mode) (free : ℕ) (m n : Machine) → step mode free m ≡ Next n → Follows m n

-- a SYSCALL changes rip, rcx and r11 alone: the next address in the first two, and the flags in r11
abbrev pub after_syscall : ℕ → Regs → Regs
after_syscall next R = with_value (with_value (record R { rip = next }) Rcx next) R11 (flags_word R.flags)

abbrev pub SyscallKeeps : Type 0
SyscallKeeps = (mode : Mode) (free : ℕ) (m : Machine) (R : Regs) → step mode free m ≡ Syscall R → (next : ℕ) × (R ≡ after_syscall next m.regs)

-- memory has bytes, and what the thread has are numbers of 64 bits
pub record HasWords (m : Machine) : Type 0 where
  pub memory : HaveBytes m.memory
  pub registers : All (λ v. v < 2 ^ 64) m.regs.r
  pub rip : m.regs.rip < 2 ^ 64
  pub ssp : m.regs.ssp < 2 ^ 64
  pub mask : m.regs.mask < 2 ^ 64

abbrev pub StepKeepsWords : Type 0
StepKeepsWords = (mode : Mode) (free : ℕ) (m n : Machine) → HasWords m → step mode free m ≡ Next n → HasWords n

abbrev pub SyscallKeepsWords : Type 0
SyscallKeepsWords = (mode : Mode) (free : ℕ) (m : Machine) (R : Regs) → HasWords m → step mode free m ≡ Syscall R → HasWords (record { memory = m.memory; regs = R })

-- ---- signals

abbrev pub DeliverKeeps : Type 0
DeliverKeeps = (mode : Mode) (action : Action) (signo : ℕ) (m n : Machine) → deliver mode action signo m ≡ Ok n → Follows m n
