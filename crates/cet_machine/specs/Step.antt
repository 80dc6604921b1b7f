-- One step of a thread: the tracker's test, then the instruction at rip (SDM volume 1, chapter "Control-flow Enforcement Technology (CET)", "Indirect Branch
-- Tracking"; volume 2, 2.1).
use Rattle.std.specs.Prelude.{ℕ, List, [], ◌∷◌, length, Bool, true, false, not, ◌&&◌, ◌==◌, nat_eq, if◌then◌else◌, Ok, Err}
use Rattle.std.specs.List.{starts_with}
use Rattle.cet_isa.specs.declared.instruction.Insn.{Insn}
use Rattle.cet_isa.specs.declared.instruction.Insn.TheVariants as insn
use Rattle.cet_isa.specs.declared.decode_error.DecodeError.TheVariants.{Short, Outside}
use Rattle.cet_isa.specs.declared.fault.Fault.{Fault}
use Rattle.cet_isa.specs.declared.fault.Fault.TheVariants.{EndBranch, Page, Undefined}
use Rattle.cet_isa.specs.declared.registers.Mode.{Mode}
use Rattle.cet_isa.specs.declared.registers.Regs.{Regs}
use Rattle.cet_isa.specs.Decoded.{Decoding, decoded}
use Rattle.cet_machine.specs.Memory.{fetched}
use Rattle.cet_machine.specs.Machine.{Machine, Effect, plus, going_to}
use Rattle.cet_machine.specs.Meaning.{meaning}

-- where a step ends: at the next instruction; in the kernel by a SYSCALL, which changes registers alone; or in a fault, which tells no
-- state, since nothing has changed
pub data StepEnd : Type 0 where
  Next : Machine → StepEnd
  Syscall : Regs → StepEnd
  Faulted : Fault → StepEnd

abbrev pub is_syscall : Insn → Bool
is_syscall insn.Syscall = true
is_syscall i = false

abbrev pub step_end : Insn → Effect → StepEnd
step_end i (Ok m) = if is_syscall i then Syscall m.regs else Next m
step_end i (Err f) = Faulted f

-- an instruction of n bytes
abbrev pub executed : Insn → ℕ → Mode → ℕ → Machine → StepEnd
executed i n mode free m = step_end i (meaning i mode free (going_to (plus m.regs.rip n) m))

-- what the fetched bytes were decoded to. Bytes that end inside a form are a page fault at the address after them.
abbrev pub executed_if_form : Decoding → ℕ → Mode → ℕ → Machine → StepEnd
executed_if_form (Ok x) fetched mode free m = executed x.0 x.1 mode free m
executed_if_form (Err Short) fetched mode free m = Faulted (Page (plus m.regs.rip fetched))
executed_if_form (Err Outside) fetched mode free m = Faulted Undefined

-- the bytes of ENDBR64
abbrev pub endbr64_bytes : List ℕ
endbr64_bytes = 0xF3 ∷ 0x0F ∷ 0x1E ∷ 0xFA ∷ []

-- over the code bytes from rip on. A tracker that waits asks for an ENDBR64 before anything else of the code is looked at.
abbrev pub step_over : List ℕ → Mode → ℕ → Machine → StepEnd
step_over code mode free m =
    if length code == 0 then Faulted (Page m.regs.rip) else
    if m.regs.waiting && not (starts_with nat_eq code endbr64_bytes) then Faulted EndBranch else
    executed_if_form (decoded code) (length code) mode free m

unfoldable pub step : Mode → ℕ → Machine → StepEnd
step mode free m = step_over (fetched m.memory m.regs.rip) mode free m
