-- An event leaves the end of a process as it was, or ends it by its outcome.
use Rattle.std.proofs.Common.{◌≡◌, ℕ, ◌⊎◌, inl, inr, Bool, true, false, not, ◌||◌, ◌==◌, nat_lt, nat_le, length, Option, Some, None, is_some, is_none, Result, Ok, Err, refl, if◌then◌else◌}
use Rattle.std.specs.List.{list_all}
use Rattle.cet_isa.specs.declared.register.Reg.TheVariants.{Rax, Rdx, Rsi, Rdi, R10}
use Rattle.cet_isa.specs.declared.registers.Regs.{Regs}
use Rattle.cet_isa.specs.declared.fault.Fault.{Fault}
use Rattle.cet_machine.specs.declared.action.Action.{Action}
use Rattle.cet_machine.specs.Memory.{legal}
use Rattle.cet_machine.specs.Machine.{Machine}
use Rattle.cet_machine.specs.Operand.{value}
use Rattle.cet_machine.specs.Signal.{deliver, sigreturn, are_action_flags}
use Rattle.cet_machine.specs.Step as machine
use Rattle.cet_machine.specs.Step.{StepEnd, step}
use Rattle.cet_process.specs.declared.event.Event.{Event}
use Rattle.cet_process.specs.declared.event.Event.TheVariants.{Step, Signal}
use Rattle.cet_process.specs.declared.outcome.Outcome.{Outcome}
use Rattle.cet_process.specs.State.{State, regs_of, with_thread, action_of}
use Rattle.cet_process.specs.Start.{page_above, shadow_stack_size}
use Rattle.cet_process.specs.Call.{Answer, refused, enosys, is_readable, is_writable, output_limit, maps_private_memory, maps_shadow_stack, action_at, takes_action, thread_limit, changes_features, read, write, mmap, map_shadow_stack, rt_sigaction, sched_yield, clone, arch_prctl, gettid}
use Rattle.cet_process.specs.After.{After, answered, rt_sigreturn, exit, exit_group, called, after_step_end, after_step, after_delivery, is_blocked, after_signal, after_living, after}

-- either of two, as the test says
same_end : {B : Type 0} (b : Bool) (end : Option Outcome) (x y : State × B) → x.0.end ≡ end → y.0.end ≡ end → (if b then x else y).0.end ≡ end
same_end true end x y h k = h
same_end false end x y h k = k

-- ---- no call but exit and exit_group ends a process

read_end : (answer : ℕ) (R : Regs) (S : State) → (read answer R S).0.end ≡ S.end
unfolding read
read_end answer R S =
    same_end (not (value R Rdi == 0)) S.end _ _ refl
    (same_end (value R Rdx == 0) S.end _ _ refl
    (same_end (not (is_writable S (value R Rsi) (value R Rdx))) S.end _ _ refl refl))

write_end : (R : Regs) (S : State) → (write R S).0.end ≡ S.end
unfolding write
write_end R S =
    same_end (not ((value R Rdi == 1) || (value R Rdi == 2))) S.end _ _ refl
    (same_end (value R Rdx == 0) S.end _ _ refl
    (same_end (not (is_readable S (value R Rsi) (value R Rdx))) S.end _ _ refl
    (same_end (nat_le output_limit (length S.output)) S.end _ _ refl refl)))

mmap_end : (answer : ℕ) (R : Regs) (S : State) → (mmap answer R S).0.end ≡ S.end
unfolding mmap
mmap_end answer R S =
    same_end (not (maps_private_memory R)) S.end _ _ refl
    (same_end (not (legal S.memory answer (page_above (value R Rsi)))) S.end _ _ refl refl)

either_token : (b : Bool) (S T : State) (end : Option Outcome) → S.end ≡ end → T.end ≡ end → (if b then S else T).end ≡ end
either_token true S T end h k = h
either_token false S T end h k = k

map_shadow_stack_end : (answer : ℕ) (R : Regs) (S : State) → (map_shadow_stack answer R S).0.end ≡ S.end
unfolding map_shadow_stack
map_shadow_stack_end answer R S =
    same_end (not S.mode.shstk) S.end _ _ refl
    (same_end (not (maps_shadow_stack R)) S.end _ _ refl
    (same_end (not (legal S.memory answer (value R Rsi))) S.end _ _ refl
    (either_token (value R Rdx == 1) _ _ S.end refl refl)))

rt_sigaction_end : (R : Regs) (S : State) → (rt_sigaction R S).0.end ≡ S.end
unfolding rt_sigaction
rt_sigaction_end R S =
    same_end (not (value R R10 == 8)) S.end _ _ refl
    (same_end (not (takes_action (value R Rdi))) S.end _ _ refl
    (same_end (not (value R Rdx == 0)) S.end _ _ refl
    (same_end (value R Rsi == 0) S.end _ _ refl
    (same_end (not (is_readable S (value R Rsi) 32)) S.end _ _ refl
    (same_end (not (are_action_flags (action_at S (value R Rsi)).flags)) S.end _ _ refl refl)))))

clone_end : (answer : ℕ) (R : Regs) (S : State) → (clone answer R S).0.end ≡ S.end
unfolding clone
clone_end answer R S =
    same_end (not (value R Rdi == 0x50f00) || (value R Rsi == 0)) S.end _ _ refl
    (same_end (nat_le thread_limit (length S.threads)) S.end _ _ refl
    (same_end (not S.mode.shstk) S.end _ _ refl
    (same_end (not (legal S.memory answer shadow_stack_size)) S.end _ _ refl refl)))

arch_prctl_end : (R : Regs) (S : State) → (arch_prctl R S).0.end ≡ S.end
unfolding arch_prctl
arch_prctl_end R S =
    same_end (changes_features (value R Rdi)) S.end _ _
    (same_end ((value R Rsi == 0) || nat_lt 3 (value R Rsi)) S.end _ _ refl refl)
    (same_end (value R Rdi == 0x5003) S.end _ _ refl
    (same_end (not (value R Rdi == 0x5005)) S.end _ _ refl
    (same_end (not (is_writable S (value R Rsi) 8)) S.end _ _ refl refl)))

-- ---- what an event comes to

-- the end is as it was, or is the outcome
EndsBy : State → After → Type 0
EndsBy S x = (x.0.end ≡ S.end) ⊎ (x.0.end ≡ Some x.1)

either_ends : (b : Bool) (S : State) (x y : After) → EndsBy S x → EndsBy S y → EndsBy S (if b then x else y)
either_ends true S x y h k = h
either_ends false S x y h k = k

sigreturn_ends : (t : ℕ) (R : Regs) (x : Result Regs Fault) (S : State) → EndsBy S (rt_sigreturn t R x S)
unfolding EndsBy
sigreturn_ends t R (Ok restored) S = inl refl
sigreturn_ends t R (Err fault) S = inr refl

exit_ends : (t status : ℕ) (S : State) → EndsBy S (exit t status S)
unfolding EndsBy
exit_ends t status S = either_ends (list_all is_none (with_thread t None S).threads) S _ _ (inr refl) (inl refl)

answered_ends : (t : ℕ) (R : Regs) (x : Answer) (S : State) → x.0.end ≡ S.end → EndsBy S (answered t R x)
unfolding EndsBy
answered_ends t R x S e = inl e

exit_group_ends : (t : ℕ) (R : Regs) (status : ℕ) (S : State) → EndsBy S (exit_group t R status S)
unfolding EndsBy
exit_group_ends t R status S = inr refl

called_ends : (t answer : ℕ) (R R' : Regs) (S : State) → EndsBy S (called t answer R R' S)
unfolding called gettid sched_yield
called_ends t answer R R' S =
    let number = value R' Rax in
    either_ends (number == 0) S _ _ (answered_ends t R' (read answer R' S) S (read_end answer R' S))
    (either_ends (number == 1) S _ _ (answered_ends t R' (write R' S) S (write_end R' S))
    (either_ends (number == 9) S _ _ (answered_ends t R' (mmap answer R' S) S (mmap_end answer R' S))
    (either_ends (number == 13) S _ _ (answered_ends t R' (rt_sigaction R' S) S (rt_sigaction_end R' S))
    (either_ends (number == 15) S _ _ (sigreturn_ends t R (sigreturn S.mode (record { memory = S.memory; regs = R' })) S)
    (either_ends (number == 24) S _ _ (answered_ends t R' (sched_yield S) S refl)
    (either_ends (number == 56) S _ _ (answered_ends t R' (clone answer R' S) S (clone_end answer R' S))
    (either_ends (number == 60) S _ _ (exit_ends t (value R' Rdi) S)
    (either_ends (number == 158) S _ _ (answered_ends t R' (arch_prctl R' S) S (arch_prctl_end R' S))
    (either_ends (number == 186) S _ _ (answered_ends t R' (gettid t S) S refl)
    (either_ends (number == 231) S _ _ (exit_group_ends t R' (value R' Rdi) S)
    (either_ends (number == 453) S _ _ (answered_ends t R' (map_shadow_stack answer R' S) S (map_shadow_stack_end answer R' S))
    (answered_ends t R' (refused enosys S) S refl))))))))))))

step_end_ends : (t answer : ℕ) (R : Regs) (e : StepEnd) (S : State) → EndsBy S (after_step_end t answer R e S)
unfolding EndsBy
step_end_ends t answer R (machine.Next m) S = inl refl
step_end_ends t answer R (machine.Syscall R') S = called_ends t answer R R' S
step_end_ends t answer R (machine.Faulted fault) S = inr refl

after_step_ends : (t free answer : ℕ) (thread : Option Regs) (S : State) → EndsBy S (after_step t free answer thread S)
unfolding EndsBy
after_step_ends t free answer None S = inl refl
after_step_ends t free answer (Some R) S =
    either_ends (nat_lt 15 free) S _ _ (inl refl) (step_end_ends t answer R (step S.mode free (record { memory = S.memory; regs = R })) S)

delivery_ends : (t : ℕ) (R : Regs) (x : Result Machine Fault) (S : State) → EndsBy S (after_delivery t R x S)
unfolding EndsBy
delivery_ends t R (Ok m) S = inl refl
delivery_ends t R (Err fault) S = inr refl

after_signal_ends : (t signo : ℕ) (thread : Option Regs) (action : Option Action) (S : State) → EndsBy S (after_signal t signo thread action S)
unfolding EndsBy
after_signal_ends t signo None action S = inl refl
after_signal_ends t signo (Some R) None S = inl refl
after_signal_ends t signo (Some R) (Some action) S =
    either_ends (is_blocked signo R) S _ _ (inl refl) (delivery_ends t R (deliver S.mode action signo (record { memory = S.memory; regs = R })) S)

living_ends : (S : State) (e : Event) → EndsBy S (after_living S e)
living_ends S (Step t free answer) = after_step_ends t free answer (regs_of S t) S
living_ends S (Signal t signo) = after_signal_ends t signo (regs_of S t) (action_of S signo) S

pub event_ends : (S : State) (e : Event) → ((after S e).0.end ≡ S.end) ⊎ ((after S e).0.end ≡ Some (after S e).1)
unfolding after EndsBy
event_ends S e = either_ends (is_some S.end) S _ _ (inl refl) (living_ends S e)
