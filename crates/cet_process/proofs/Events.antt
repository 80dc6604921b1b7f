-- What an event keeps, and a list of events.
use Rattle.std.proofs.Common.{◌≡◌, ℕ, inl, inr, ◌==◌, nat_lt, [], ◌∷◌, length, Option, Some, None, is_some, Result, Ok, Err, IfOk, ok_or, refl, sym, ap, subst, ◌∙◌}
use Rattle.std.specs.Option.{option_and_then}
use Rattle.std.proofs.lemmas.Bool.{cond-true}
use Rattle.std.proofs.lemmas.List.{length-set}
use Rattle.std.proofs.lemmas.List.Elements.{All-get_or}
use Rattle.std.proofs.lemmas.Option.{slice_get_cases}
use Rattle.cet_isa.specs.declared.register.Reg.TheVariants.{Rax, Rcx, Rdi, R11, Rsp}
use Rattle.cet_isa.specs.declared.fault.Fault.{Fault}
use Rattle.cet_isa.specs.declared.fault.Fault.TheVariants.{Page, General}
use Rattle.cet_isa.specs.declared.registers.Regs.{Regs}
use Rattle.cet_isa.specs.declared.registers.Mode.{Mode}
use Rattle.cet_isa.specs.Canonical.{number}
use Rattle.cet_machine.specs.declared.action.Action.{Action}
use Rattle.cet_machine.specs.Arithmetic.{flags_word}
use Rattle.cet_machine.specs.Memory.{is_any, bytes_at}
use Rattle.cet_machine.specs.Machine.{Machine, demand, minus}
use Rattle.cet_machine.specs.MachineLaws.{Follows, after_syscall}
use Rattle.cet_machine.specs.Operand.{value, with_value}
use Rattle.cet_machine.specs.Signal.{deliver, sigreturn, returned_ssp, frame_size}
use Rattle.cet_machine.specs.Step as machine
use Rattle.cet_machine.specs.Step.{StepEnd, step}
use Rattle.cet_machine.proofs.Keeps.{after_any}
use Rattle.cet_machine.proofs.StepKeeps.{step_keeps, syscall_keeps, deliver_keeps}
use Rattle.cet_process.specs.declared.event.Event.{Event}
use Rattle.cet_process.specs.declared.event.Event.TheVariants.{Step, Signal}
use Rattle.cet_process.specs.declared.outcome.Outcome.TheVariants.{Ignored}
use Rattle.cet_process.specs.State.{State, regs_of, action_of}
use Rattle.cet_process.specs.Call.{refused, enosys, read, write, mmap, rt_sigaction, sched_yield, clone, arch_prctl, gettid, map_shadow_stack}
use Rattle.cet_process.specs.After.{died, rt_sigreturn, called, with_machine, after_step_end, after_step, after_delivery, is_blocked, after_signal, after_living, after}
use Rattle.cet_process.specs.Run.{state_after}
use Rattle.cet_process.specs.Laws.{HasRegisters, IsWellFormed, Keeps, EventKeeps, RunKeeps, EndStays, RunInParts}
use Rattle.cet_process.proofs.Kept.{either, keeps_all, keeps_then, regions_kept, thread_kept, end_kept, read_keeps, write_call_keeps, mmap_keeps, map_shadow_stack_keeps, rt_sigaction_keeps, clone_keeps, arch_prctl_keeps, answered_keeps, exit_keeps, exit_group_keeps}

-- ---- registers

has_registers : (t : ℕ) (S : State) → IsWellFormed S → HasRegisters (regs_of S t)
has_registers t S w = elim ((slice_get_cases S.threads t).1) [
  | inl (x, below, found, same) ↦
      subst (λ (o : Option (Option Regs)). HasRegisters (option_and_then (λ thread. thread) o)) (sym found)
      (subst HasRegisters same (All-get_or HasRegisters S.threads t x below w.registers))
  | inr (past, none) ↦ subst (λ (o : Option (Option Regs)). HasRegisters (option_and_then (λ thread. thread) o)) (sym none) tt
]

-- a frame has 16 registers
returned_count : (mode : Mode) (m : Machine) → IfOk (sigreturn mode m) (λ R. length R.r ≡ 16)
unfolding sigreturn
returned_count mode m =
    let a = minus (value m.regs Rsp) 8 in
    after_any (ok_or (bytes_at is_any m.memory a frame_size) (Page a)) _ (λ R. length R.r ≡ 16) (λ bytes.
    after_any (demand _ General) _ (λ R. length R.r ≡ 16) (λ mark.
    after_any (returned_ssp mode m) _ (λ R. length R.r ≡ 16) (λ ssp. refl)))

syscall_count : (next : ℕ) (R : Regs) → length (after_syscall next R).r ≡ length R.r
syscall_count next R = length-set (with_value (record R { rip = next }) Rcx next).r (number R11) (flags_word R.flags) ∙ length-set R.r (number Rcx) next

-- ---- a step

died_keeps : (t : ℕ) (R : Regs) (fault : Fault) (S : State) → IsWellFormed S → Keeps S (died t R fault S).0
died_keeps t R fault S w = end_kept S _ w

sigreturn_keeps : (t : ℕ) (R : Regs) (x : Result Regs Fault) (S : State) → IsWellFormed S → IfOk x (λ R. length R.r ≡ 16) → Keeps S (rt_sigreturn t R x S).0
sigreturn_keeps t R (Ok restored) S w has = thread_kept S t (Some restored) w has
sigreturn_keeps t R (Err fault) S w has = died_keeps t R fault S w

called_keeps : (t answer : ℕ) (R R' : Regs) (S : State) → IsWellFormed S → length R'.r ≡ 16 → Keeps S (called t answer R R' S).0
unfolding called gettid sched_yield
called_keeps t answer R R' S w has =
    let number = value R' Rax in
    either (number == 0) S _ _ (answered_keeps t R' (read answer R' S) S has (read_keeps answer R' S w))
    (either (number == 1) S _ _ (answered_keeps t R' (write R' S) S has (write_call_keeps R' S w))
    (either (number == 9) S _ _ (answered_keeps t R' (mmap answer R' S) S has (mmap_keeps answer R' S w))
    (either (number == 13) S _ _ (answered_keeps t R' (rt_sigaction R' S) S has (rt_sigaction_keeps R' S w))
    (either (number == 15) S _ _
    (sigreturn_keeps t R (sigreturn S.mode (record { memory = S.memory; regs = R' })) S w (returned_count S.mode (record { memory = S.memory; regs = R' })))
    (either (number == 24) S _ _ (answered_keeps t R' (sched_yield S) S has (keeps_all S w))
    (either (number == 56) S _ _ (answered_keeps t R' (clone answer R' S) S has (clone_keeps answer R' S w has))
    (either (number == 60) S _ _ (exit_keeps t (value R' Rdi) S w)
    (either (number == 158) S _ _ (answered_keeps t R' (arch_prctl R' S) S has (arch_prctl_keeps R' S w))
    (either (number == 186) S _ _ (answered_keeps t R' (gettid t S) S has (keeps_all S w))
    (either (number == 231) S _ _ (exit_group_keeps t R' (value R' Rdi) S w has)
    (either (number == 453) S _ _ (answered_keeps t R' (map_shadow_stack answer R' S) S has (map_shadow_stack_keeps answer R' S w))
    (answered_keeps t R' (refused enosys S) S has (keeps_all S w)))))))))))))

machine_keeps : (t : ℕ) (R : Regs) (m : Machine) (S : State) → IsWellFormed S → length R.r ≡ 16 → Follows (record { memory = S.memory; regs = R }) m → Keeps S (with_machine t m S)
machine_keeps t R m S w has follows =
    let changed = record S { memory = m.memory } in
    let first : Keeps S changed = regions_kept S m.memory w follows.0 in
    keeps_then S changed (with_machine t m S) first (thread_kept changed t (Some m.regs) first.well_formed (follows.1 ∙ has))

step_end_keeps : (t answer : ℕ) (R : Regs) (e : StepEnd) (S : State) → IsWellFormed S → length R.r ≡ 16
    → ((m : Machine) → e ≡ machine.Next m → Follows (record { memory = S.memory; regs = R }) m)
    → ((R' : Regs) → e ≡ machine.Syscall R' → (next : ℕ) × (R' ≡ after_syscall next R))
    → Keeps S (after_step_end t answer R e S).0
step_end_keeps t answer R (machine.Next m) S w has next enters = machine_keeps t R m S w has (next m refl)
step_end_keeps t answer R (machine.Syscall R') S w has next enters =
    let (a, after_call) = enters R' refl in
    called_keeps t answer R R' S w (ap (λ (Q : Regs). length Q.r) after_call ∙ syscall_count a R ∙ has)
step_end_keeps t answer R (machine.Faulted fault) S w has next enters = died_keeps t R fault S w

after_step_keeps : (t free answer : ℕ) (thread : Option Regs) (S : State) → IsWellFormed S → HasRegisters thread → Keeps S (after_step t free answer thread S).0
after_step_keeps t free answer None S w has = keeps_all S w
after_step_keeps t free answer (Some R) S w has =
    let m : Machine = record { memory = S.memory; regs = R } in
    either (nat_lt 15 free) S _ _ (keeps_all S w)
    (step_end_keeps t answer R (step S.mode free m) S w has (step_keeps S.mode free m) (syscall_keeps S.mode free m))

-- ---- a signal

delivery_keeps : (t : ℕ) (R : Regs) (x : Result Machine Fault) (S : State) → IsWellFormed S → length R.r ≡ 16
    → ((m : Machine) → x ≡ Ok m → Follows (record { memory = S.memory; regs = R }) m) → Keeps S (after_delivery t R x S).0
delivery_keeps t R (Ok m) S w has delivered = machine_keeps t R m S w has (delivered m refl)
delivery_keeps t R (Err fault) S w has delivered = died_keeps t R fault S w

after_signal_keeps : (t signo : ℕ) (thread : Option Regs) (action : Option Action) (S : State) → IsWellFormed S → HasRegisters thread → Keeps S (after_signal t signo thread action S).0
after_signal_keeps t signo None action S w has = keeps_all S w
after_signal_keeps t signo (Some R) None S w has = keeps_all S w
after_signal_keeps t signo (Some R) (Some action) S w has =
    let m : Machine = record { memory = S.memory; regs = R } in
    either (is_blocked signo R) S _ _ (keeps_all S w)
    (delivery_keeps t R (deliver S.mode action signo m) S w has (λ n e. deliver_keeps S.mode action signo m n e))

-- ---- events

living_keeps : (S : State) (e : Event) → IsWellFormed S → Keeps S (after_living S e).0
living_keeps S (Step t free answer) w = after_step_keeps t free answer (regs_of S t) S w (has_registers t S w)
living_keeps S (Signal t signo) w = after_signal_keeps t signo (regs_of S t) (action_of S signo) S w (has_registers t S w)

pub event_keeps : EventKeeps
unfolding after
event_keeps S e w = either (is_some S.end) S _ _ (keeps_all S w) (living_keeps S e w)

pub run_keeps : RunKeeps
unfolding state_after
run_keeps S [] w = keeps_all S w
run_keeps S (e ∷ events) w =
    let first = event_keeps S e w in
    keeps_then S (after S e).0 _ first (run_keeps (after S e).0 events first.well_formed)

pub end_stays : EndStays
unfolding after
end_stays S e end ends = cond-true (is_some S.end) (S, Ignored) (after_living S e) (ap is_some ends)

pub run_in_parts : RunInParts
unfolding state_after
run_in_parts S [] back = refl
run_in_parts S (e ∷ front) back = run_in_parts (after S e).0 front back
