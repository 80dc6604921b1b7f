-- The call whose number is in rax, by its number.
use Rattle.std.proofs.Common.{◌≡◌, ℕ, Some, Bool, true, false, ◌==◌, ◌≢◌, refl, sym, ap, ◌∙◌, ne_eqb, if◌then◌else◌}
use Rattle.cet_isa.specs.declared.register.Reg.TheVariants.{Rax, Rdi}
use Rattle.cet_isa.specs.declared.registers.Regs.{Regs}
use Rattle.cet_machine.specs.Operand.{value, with_value}
use Rattle.cet_process.specs.declared.outcome.Outcome.TheVariants.{Ran}
use Rattle.cet_machine.specs.Signal.{sigreturn}
use Rattle.cet_process.specs.State.{State, with_thread}
use Rattle.cet_process.specs.Call.{Answer, refused, enosys, read, write, mmap, rt_sigaction, sched_yield, clone, arch_prctl, gettid, map_shadow_stack}
use Rattle.cet_process.specs.After.{After, answered, rt_sigreturn, exit, exit_group, called}
use Rattle.cet_kernel.specs.Parts.{answer_of}

-- one call more on each side
split : (b : Bool) (f : Answer → After) (x y : Answer) (rest : After) → rest ≡ f y → (if b then f x else rest) ≡ f (if b then x else y)
split true f x y rest e = refl
split false f x y rest e = e

-- a call that it is not
skip : (b : Bool) (x rest y : After) → b ≡ false → rest ≡ y → (if b then x else rest) ≡ y
skip true x rest y not_it e = absurd (cc)
skip false x rest y not_it e = e

-- a choice by number, of three whole ends and of answers
by_number : (n : ℕ) (f : Answer → After) (c0 c1 c9 c13 c24 c56 c158 c186 c453 other : Answer) (e15 e60 e231 : After) → (n == 15) ≡ false → (n == 60) ≡ false → (n == 231) ≡ false
    → (if n == 0 then f c0 else if n == 1 then f c1 else if n == 9 then f c9 else if n == 13 then f c13 else if n == 15 then e15 else if n == 24 then f c24 else
    if n == 56 then f c56 else if n == 60 then e60 else if n == 158 then f c158 else if n == 186 then f c186 else if n == 231 then e231 else if n == 453 then f c453 else f other)
    ≡ f (if n == 0 then c0 else if n == 1 then c1 else if n == 9 then c9 else if n == 13 then c13 else if n == 24 then c24 else if n == 56 then c56 else
    if n == 158 then c158 else if n == 186 then c186 else if n == 453 then c453 else other)
by_number n f c0 c1 c9 c13 c24 c56 c158 c186 c453 other e15 e60 e231 not_15 not_60 not_231 =
    split (n == 0) f c0 _ _ (split (n == 1) f c1 _ _ (split (n == 9) f c9 _ _ (split (n == 13) f c13 _ _ (skip (n == 15) e15 _ _ not_15
    (split (n == 24) f c24 _ _ (split (n == 56) f c56 _ _ (skip (n == 60) e60 _ _ not_60 (split (n == 158) f c158 _ _ (split (n == 186) f c186 _ _
    (skip (n == 231) e231 _ _ not_231 (split (n == 453) f c453 other _ refl)))))))))))

pub called_other : (t answer n : ℕ) (R Q : Regs) (S : State) → n ≡ value Q Rax → n ≢ 15 → n ≢ 60 → n ≢ 231 → called t answer R Q S ≡ answered t Q (answer_of n t answer Q S)
unfolding called
called_other t answer n R Q S of_n not_15 not_60 not_231 =
    by_number (value Q Rax) (answered t Q) (read answer Q S) (write Q S) (mmap answer Q S) (rt_sigaction Q S) (sched_yield S) (clone answer Q S) (arch_prctl Q S) (gettid t S)
    (map_shadow_stack answer Q S) (refused enosys S)
    (rt_sigreturn t R (sigreturn S.mode (record { memory = S.memory; regs = Q })) S) (exit t (value Q Rdi) S) (exit_group t Q (value Q Rdi) S)
    (ne_eqb (value Q Rax) 15 (λ e. not_15 (of_n ∙ e))) (ne_eqb (value Q Rax) 60 (λ e. not_60 (of_n ∙ e))) (ne_eqb (value Q Rax) 231 (λ e. not_231 (of_n ∙ e)))
    ∙ ap (λ (k : ℕ). answered t Q (answer_of k t answer Q S)) (sym of_n)

pub called_15 : (t answer n : ℕ) (R Q : Regs) (S : State) → n ≡ value Q Rax → n ≡ 15
    → called t answer R Q S ≡ rt_sigreturn t R (sigreturn S.mode (record { memory = S.memory; regs = Q })) S
unfolding called
called_15 t answer n R Q S of_n is = rw (← of_n) (rw is refl)

pub called_60 : (t answer n : ℕ) (R Q : Regs) (S : State) → n ≡ value Q Rax → n ≡ 60 → called t answer R Q S ≡ exit t (value Q Rdi) S
unfolding called
called_60 t answer n R Q S of_n is = rw (← of_n) (rw is refl)

pub called_231 : (t answer n : ℕ) (R Q : Regs) (S : State) → n ≡ value Q Rax → n ≡ 231 → called t answer R Q S ≡ exit_group t Q (value Q Rdi) S
unfolding called
called_231 t answer n R Q S of_n is = rw (← of_n) (rw is refl)

-- after an answer
pub answered_is : (t answer n rax : ℕ) (R Q A : Regs) (S T U : State) → ◌≡◌ {A = Answer} (T, rax) (answer_of n t answer Q S) → A ≡ with_value Q Rax rax → U ≡ with_thread t (Some A) T
    → n ≡ value Q Rax → n ≢ 15 → n ≢ 60 → n ≢ 231 → ◌≡◌ {A = After} (U, Ran) (called t answer R Q S)
answered_is t answer n rax R Q A S T U done of_regs of_state of_n not_15 not_60 not_231 =
    ap (λ (V : State). (V, Ran)) (of_state ∙ ap (λ (B : Regs). with_thread t (Some B) T) of_regs)
    ∙ ap (answered t Q) done
    ∙ sym (called_other t answer n R Q S of_n not_15 not_60 not_231)
