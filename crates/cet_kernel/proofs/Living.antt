-- A thread that lives goes on living through a system call that answers in rax.
use Rattle.std.specs.Prelude.{IsSome}
use Rattle.std.proofs.Common.{◌≡◌, ℕ, zero, suc, ◌+◌, Bool, true, false, not, ◌||◌, ◌==◌, nat_lt, nat_le, List, [], ◌∷◌, ◌++◌, length, Option, Some, is_some, slice_get, refl, ap, ◌∙◌, if◌then◌else◌}
use Rattle.std.specs.Option.{option_and_then}
use Rattle.cet_isa.specs.declared.register.Reg.TheVariants.{Rdx, Rsi, Rdi, R10}
use Rattle.cet_isa.specs.declared.registers.Regs.{Regs}
use Rattle.cet_machine.specs.declared.memory.Kind.TheVariants.{Shadow}
use Rattle.cet_machine.specs.Memory.{legal}
use Rattle.cet_machine.specs.Operand.{value}
use Rattle.cet_machine.specs.Signal.{are_action_flags}
use Rattle.cet_process.specs.State.{State, regs_of}
use Rattle.cet_process.specs.Start.{page_above, shadow_stack_size}
use Rattle.cet_process.specs.Call.{Answer, is_readable, is_writable, with_mapping, output_limit, maps_private_memory, maps_shadow_stack, with_token, action_at, takes_action, thread_limit, child_regs, with_child, changes_features, read, write, mmap, map_shadow_stack, rt_sigaction, clone, arch_prctl, gettid, sched_yield}
use Rattle.cet_kernel.specs.Parts.{answer_of}
use Rattle.cet_kernel.proofs.Threads.{lives}

-- thread t lives after it, if it did before
abbrev LivesOn : ℕ → State → Answer → Type 0
LivesOn t S x = IsSome (regs_of S t) → IsSome (regs_of x.0 t)

either : (t : ℕ) (S : State) (b : Bool) (x y : Answer) → LivesOn t S x → LivesOn t S y → LivesOn t S (if b then x else y)
either t S true x y h k = h
either t S false x y h k = k

either_state : (t : ℕ) (S : State) (b : Bool) (x y : State) (v : ℕ) → LivesOn t S (x, v) → LivesOn t S (y, v) → LivesOn t S ((if b then x else y), v)
either_state t S true x y v h k = h
either_state t S false x y v h k = k

there_still : (ts us : List (Option Regs)) (t : ℕ) (x : Option Regs) → slice_get ts t ≡ Some x → slice_get (ts ++ us) t ≡ Some x
there_still [] us t x e = absurd (cc)
there_still (y ∷ ts) us zero x e = e
there_still (y ∷ ts) us (suc t) x e = there_still ts us t x e

child_lives_on : (t : ℕ) (S T : State) (child : Regs) → T.threads ≡ S.threads → LivesOn t S (with_child child T)
child_lives_on t S T child same living =
    let l = lives S.threads t living in
    ap (λ (ts : List (Option Regs)). is_some (option_and_then (λ thread. thread) (slice_get (ts ++ Some child ∷ []) t))) same
    ∙ ap (λ (o : Option (Option Regs)). is_some (option_and_then (λ thread. thread) o)) (there_still S.threads (Some child ∷ []) t (Some l.regs) l.there)

read_lives_on : (t answer : ℕ) (R : Regs) (S : State) → LivesOn t S (read answer R S)
unfolding read
read_lives_on t answer R S =
    either t S (not (value R Rdi == 0)) _ _ (λ h. h) (either t S (value R Rdx == 0) _ _ (λ h. h) (either t S (not (is_writable S (value R Rsi) (value R Rdx))) _ _ (λ h. h) (λ h. h)))

write_lives_on : (t : ℕ) (R : Regs) (S : State) → LivesOn t S (write R S)
unfolding write
write_lives_on t R S =
    either t S (not ((value R Rdi == 1) || (value R Rdi == 2))) _ _ (λ h. h)
    (either t S (value R Rdx == 0) _ _ (λ h. h)
    (either t S (not (is_readable S (value R Rsi) (value R Rdx))) _ _ (λ h. h) (either t S (nat_le output_limit (length S.output)) _ _ (λ h. h) (λ h. h))))

mmap_lives_on : (t answer : ℕ) (R : Regs) (S : State) → LivesOn t S (mmap answer R S)
unfolding mmap
mmap_lives_on t answer R S =
    either t S (not (maps_private_memory R)) _ _ (λ h. h) (either t S (not (legal S.memory answer (page_above (value R Rsi)))) _ _ (λ h. h) (λ h. h))

sigaction_lives_on : (t : ℕ) (R : Regs) (S : State) → LivesOn t S (rt_sigaction R S)
unfolding rt_sigaction
sigaction_lives_on t R S =
    either t S (not (value R R10 == 8)) _ _ (λ h. h) (either t S (not (takes_action (value R Rdi))) _ _ (λ h. h) (either t S (not (value R Rdx == 0)) _ _ (λ h. h)
    (either t S (value R Rsi == 0) _ _ (λ h. h) (either t S (not (is_readable S (value R Rsi) 32)) _ _ (λ h. h)
    (either t S (not (are_action_flags (action_at S (value R Rsi)).flags)) _ _ (λ h. h) (λ h. h))))))

clone_lives_on : (t answer : ℕ) (R : Regs) (S : State) → LivesOn t S (clone answer R S)
unfolding clone
clone_lives_on t answer R S =
    let mapped = with_mapping answer shadow_stack_size Shadow S in
    either t S (not (value R Rdi == 0x50f00) || (value R Rsi == 0)) _ _ (λ h. h) (either t S (nat_le thread_limit (length S.threads)) _ _ (λ h. h)
    (either t S (not S.mode.shstk) _ _ (child_lives_on t S S (child_regs R) refl) (either t S (not (legal S.memory answer shadow_stack_size)) _ _ (λ h. h)
    (child_lives_on t S mapped (record (child_regs R) { ssp = answer + shadow_stack_size }) refl))))

prctl_lives_on : (t : ℕ) (R : Regs) (S : State) → LivesOn t S (arch_prctl R S)
unfolding arch_prctl
prctl_lives_on t R S =
    either t S (changes_features (value R Rdi)) _ _ (either t S ((value R Rsi == 0) || nat_lt 3 (value R Rsi)) _ _ (λ h. h) (λ h. h))
    (either t S (value R Rdi == 0x5003) _ _ (λ h. h) (either t S (not (value R Rdi == 0x5005)) _ _ (λ h. h) (either t S (not (is_writable S (value R Rsi) 8)) _ _ (λ h. h) (λ h. h))))

shadow_stack_lives_on : (t answer : ℕ) (R : Regs) (S : State) → LivesOn t S (map_shadow_stack answer R S)
unfolding map_shadow_stack
shadow_stack_lives_on t answer R S =
    let mapped = with_mapping answer (value R Rsi) Shadow S in
    either t S (not S.mode.shstk) _ _ (λ h. h) (either t S (not (maps_shadow_stack R)) _ _ (λ h. h) (either t S (not (legal S.memory answer (value R Rsi))) _ _ (λ h. h)
    (either_state t S (value R Rdx == 1) (with_token (answer + value R Rsi) mapped) mapped answer (λ h. h) (λ h. h))))

pub answer_lives_on : (number thread answer t : ℕ) (R : Regs) (S : State) → IsSome (regs_of S t) → IsSome (regs_of (answer_of number thread answer R S).0 t)
unfolding gettid sched_yield
answer_lives_on number thread answer t R S =
    either t S (number == 0) _ _ (read_lives_on t answer R S) (either t S (number == 1) _ _ (write_lives_on t R S)
    (either t S (number == 9) _ _ (mmap_lives_on t answer R S) (either t S (number == 13) _ _ (sigaction_lives_on t R S)
    (either t S (number == 24) _ _ (λ h. h) (either t S (number == 56) _ _ (clone_lives_on t answer R S)
    (either t S (number == 158) _ _ (prctl_lives_on t R S) (either t S (number == 186) _ _ (λ h. h)
    (either t S (number == 453) _ _ (shadow_stack_lives_on t answer R S) (λ h. h)))))))))
