-- A process: its memory, its threads, and what the kernel keeps of it (Linux: clone(2), sigaction(2), read(2) and write(2) for the parts; CET is
-- locked on as in Documentation/arch/x86/shstk.rst, "Application Enabling"). The one input, the one output and `fresh` are this project's own.
use Rattle.std.specs.Prelude.{ℕ, ◌+◌, ◌-◌, ◌*◌, ◌==◌, if◌then◌else◌, List, [], ◌∷◌, length, slice_get, slice_set, Option, None, is_some, option_and_then}
use Rattle.std.specs.Int.{from_bool}
use Rattle.cet_isa.specs.declared.registers.Regs.{Regs}
use Rattle.cet_isa.specs.declared.registers.Mode.{Mode}
use Rattle.cet_machine.specs.declared.action.Action.{Action}
use Rattle.cet_machine.specs.declared.memory.Region.{Region}
use Rattle.cet_process.specs.declared.outcome.Outcome.{Outcome}
use Rattle.cet_process.specs.declared.view.View.{View}

pub record State : Type 0 where
  pub memory : List Region
  -- the same from start to end: the features are locked before the first instruction
  pub mode : Mode
  -- by number: the registers of each thread that was ever made, or none where it has ended
  pub threads : List (Option Regs)
  -- what is done at each signal, 1 to 64, or none where no action is registered
  pub actions : List (Option Action)
  -- the input that is left to read
  pub input : List ℕ
  pub output : List ℕ
  -- an address above all that was ever mapped, and a gap
  pub fresh : ℕ
  -- how the process ended: Ended or Died, or none while it lives
  pub end : Option Outcome

-- none where the thread never lived or has ended. The threads of a process that ended count as they stood then.
abbrev pub regs_of : State → ℕ → Option Regs
regs_of S t = option_and_then (λ thread. thread) (slice_get S.threads t)

abbrev pub with_thread : ℕ → Option Regs → State → State
with_thread t thread S = record S { threads = slice_set S.threads t thread }

-- none where signo is not 1 to 64, or no action is registered
abbrev pub action_of : State → ℕ → Option Action
action_of S signo = if signo == 0 then None else option_and_then (λ action. action) (slice_get S.actions (signo - 1))

-- bit n is 1 where thread n lives
abbrev pub live_bits : List (Option Regs) → ℕ
live_bits [] = 0
live_bits (thread ∷ threads) = from_bool (is_some thread) + 2 * live_bits threads

abbrev pub view : State → View
view S = record { threads = length S.threads; live = live_bits S.threads; fresh = S.fresh }
