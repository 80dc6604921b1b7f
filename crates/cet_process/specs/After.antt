-- What one event does to a process, and what it comes to. A fault ends the process as its default action does (Linux, signal(7), SIGSEGV, SIGILL
-- and SIGFPE), exit(2) a thread, exit_group(2) all of them; a signal is delivered as sigaction(2) says, and where it would not be, the
-- event is ignored: this project's own.
use Rattle.std.specs.Prelude.{ℕ, ◌-◌, ◌%◌, ◌==◌, Bool, nat_lt, if◌then◌else◌, Option, Some, None, is_some, is_none, Result, Ok, Err}
use Rattle.std.specs.List.{list_all}
use Rattle.cet_isa.specs.declared.register.Reg.TheVariants.{Rax, Rdi}
use Rattle.cet_isa.specs.declared.registers.Regs.{Regs}
use Rattle.cet_isa.specs.declared.fault.Fault.{Fault}
use Rattle.cet_machine.specs.declared.action.Action.{Action}
use Rattle.cet_machine.specs.Arithmetic.{bit}
use Rattle.cet_machine.specs.Machine.{Machine}
use Rattle.cet_machine.specs.Operand.{value, with_value}
use Rattle.cet_machine.specs.Signal.{deliver, sigreturn}
use Rattle.cet_machine.specs.Step as machine
use Rattle.cet_machine.specs.Step.{StepEnd}
use Rattle.cet_process.specs.declared.event.Event.{Event}
use Rattle.cet_process.specs.declared.event.Event.TheVariants.{Step, Signal}
use Rattle.cet_process.specs.declared.outcome.Outcome.{Outcome}
use Rattle.cet_process.specs.declared.outcome.Outcome.TheVariants.{Ran, Ignored, Ended, Died}
use Rattle.cet_process.specs.State.{State, regs_of, with_thread, action_of}
use Rattle.cet_process.specs.Call.{Answer, refused, enosys, read, write, mmap, rt_sigaction, sched_yield, clone, arch_prctl, gettid, map_shadow_stack}

-- the state after an event, and what the event came to
abbrev pub After : Type 0
After = State × Outcome

-- ---- ends

abbrev pub ended : Outcome → State → After
ended outcome S = (record S { end = Some outcome }, outcome)

-- Thread t, which stands at R, meets a fault: all stays as it was before the instruction, or before the signal.
abbrev pub died : ℕ → Regs → Fault → State → After
died t R fault S = ended (Died t fault R.rip) S

-- the status is the low byte
abbrev pub exited : ℕ → State → After
exited status S = ended (Ended (status % 256)) S

-- ---- system calls. R are the registers before the SYSCALL, R' those after it.

-- the answer goes to rax
abbrev pub answered : ℕ → Regs → Answer → After
answered t R' answer = (with_thread t (Some (with_value R' Rax answer.1)) answer.0, Ran)

-- 15: the registers come from the frame, rax too
abbrev pub rt_sigreturn : ℕ → Regs → Result Regs Fault → State → After
rt_sigreturn t R (Ok restored) S = (with_thread t (Some restored) S, Ran)
rt_sigreturn t R (Err fault) S = died t R fault S

-- 60: the thread ends, and with the last one the process
abbrev pub exit : ℕ → ℕ → State → After
exit t status S =
    let rest = with_thread t None S in
    if list_all is_none rest.threads then exited status rest else (rest, Ran)

-- 231: the process ends, and its threads count as they stand
abbrev pub exit_group : ℕ → Regs → ℕ → State → After
exit_group t R' status S = exited status (with_thread t (Some R') S)

-- the call whose number is in rax; any other is ENOSYS
unfoldable pub called : ℕ → ℕ → Regs → Regs → State → After
called t answer R R' S =
    let number = value R' Rax in
    if number == 0 then answered t R' (read answer R' S) else
    if number == 1 then answered t R' (write R' S) else
    if number == 9 then answered t R' (mmap answer R' S) else
    if number == 13 then answered t R' (rt_sigaction R' S) else
    if number == 15 then rt_sigreturn t R (sigreturn S.mode (record { memory = S.memory; regs = R' })) S else
    if number == 24 then answered t R' (sched_yield S) else
    if number == 56 then answered t R' (clone answer R' S) else
    if number == 60 then exit t (value R' Rdi) S else
    if number == 158 then answered t R' (arch_prctl R' S) else
    if number == 186 then answered t R' (gettid t S) else
    if number == 231 then exit_group t R' (value R' Rdi) S else
    if number == 453 then answered t R' (map_shadow_stack answer R' S) else
    answered t R' (refused enosys S)

-- ---- a step of a thread that stands at R

abbrev pub with_machine : ℕ → Machine → State → State
with_machine t m S = with_thread t (Some m.regs) (record S { memory = m.memory })

abbrev pub after_step_end : ℕ → ℕ → Regs → StepEnd → State → After
after_step_end t answer R (machine.Next m) S = (with_machine t m S, Ran)
after_step_end t answer R (machine.Syscall R') S = called t answer R R' S
after_step_end t answer R (machine.Faulted fault) S = died t R fault S

-- no step where the thread does not live, or `free` is above 15
abbrev pub after_step : ℕ → ℕ → ℕ → Option Regs → State → After
after_step t free answer None S = (S, Ignored)
after_step t free answer (Some R) S =
    if nat_lt 15 free then (S, Ignored) else
    after_step_end t answer R (machine.step S.mode free (record { memory = S.memory; regs = R })) S

-- ---- a signal to a thread that stands at R

abbrev pub after_delivery : ℕ → Regs → Result Machine Fault → State → After
after_delivery t R (Ok m) S = (with_machine t m S, Ran)
after_delivery t R (Err fault) S = died t R fault S

abbrev pub is_blocked : ℕ → Regs → Bool
is_blocked signo R = bit R.mask (signo - 1)

-- no delivery where the thread does not live, the number is no signal's, no action is registered, or the signal is blocked
abbrev pub after_signal : ℕ → ℕ → Option Regs → Option Action → State → After
after_signal t signo None action S = (S, Ignored)
after_signal t signo (Some R) None S = (S, Ignored)
after_signal t signo (Some R) (Some action) S =
    if is_blocked signo R then (S, Ignored) else
    after_delivery t R (deliver S.mode action signo (record { memory = S.memory; regs = R })) S

-- ---- an event

abbrev pub after_living : State → Event → After
after_living S (Step t free answer) = after_step t free answer (regs_of S t) S
after_living S (Signal t signo) = after_signal t signo (regs_of S t) (action_of S signo) S

-- a process that has ended ignores every event
unfoldable pub after : State → Event → After
after S e = if is_some S.end then (S, Ignored) else after_living S e
