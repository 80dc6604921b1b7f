use Rattle.std.proofs.Common.{ℕ, sym, ap, subst, ◌∙◌}
use Rattle.std.specs.Prelude.{IsSome}
use Rattle.cet_process.specs.State.{regs_of}
use Rattle.cet_process.specs.Call.{Answer}
use Rattle.cet_process.specs.After.{exit, exit_group}
use Rattle.cet_kernel.proofs.Called.{called_15, called_60, called_231, answered_is}
use Rattle.cet_kernel.proofs.Living.{answer_lives_on}
use Rattle.cet_kernel.proofs.Mapped.{on_err, called_adds}
use Rattle.cet_kernel.proofs.process.Process.call.Goals as goal

pub returns-then-number-eq-RT_SIGRETURN-clause-done : goal.returns-then-number-eq-RT_SIGRETURN-clause-done
returns-then-number-eq-RT_SIGRETURN-clause-done c =
    c.rt_sigreturn.ensures
    ∙ sym (called_15 c.args.thread c.args.answer c.value-number.result c.args.before.now c.args.regs.now c.args.self.now c.value-number.ensures c.if-number-eq-RT_SIGRETURN.true)

pub returns-then-number-eq-EXIT-clause-done : goal.returns-then-number-eq-EXIT-clause-done
returns-then-number-eq-EXIT-clause-done c =
    c.exit.ensures ∙ ap (λ (v : ℕ). exit c.args.thread v c.args.self.now) c.value.ensures
    ∙ sym (called_60 c.args.thread c.args.answer c.value-number.result c.args.before.now c.args.regs.now c.args.self.now c.value-number.ensures c.if-number-eq-EXIT.true)

pub returns-then-number-eq-EXIT_GROUP-clause-done : goal.returns-then-number-eq-EXIT_GROUP-clause-done
returns-then-number-eq-EXIT_GROUP-clause-done c =
    c.exit_group.ensures ∙ ap (λ (v : ℕ). exit_group c.args.thread c.args.regs.now v c.args.self.now) c.value-then-number-eq-EXIT_GROUP.ensures
    ∙ sym (called_231 c.args.thread c.args.answer c.value-number.result c.args.before.now c.args.regs.now c.args.self.now c.value-number.ensures c.if-number-eq-EXIT_GROUP.true)

pub returns-in_err-rax-clause-maps : goal.returns-in_err-rax-clause-maps
returns-in_err-rax-clause-maps c =
    on_err c.from_residual.result (called_adds c.args.thread c.args.answer c.value-number.result c.args.before.now c.args.regs.now c.args.self.now c.value-number.ensures
    c.if-number-eq-RT_SIGRETURN.false c.if-number-eq-EXIT.false c.if-number-eq-EXIT_GROUP.false c.in_err-rax.ensures.maps)

pub set_regs-requires-clause-lives : goal.set_regs-requires-clause-lives
set_regs-requires-clause-lives c =
    subst (λ (x : Answer). IsSome (regs_of x.0 c.args.thread)) (sym c.in_ok-rax.ensures.done)
    (answer_lives_on c.value-number.result c.args.thread c.args.answer c.args.thread c.args.regs.now c.args.self.now c.requires.lives)

pub returns-clause-done : goal.returns-clause-done
returns-clause-done c =
    answered_is c.args.thread c.args.answer c.value-number.result c.in_ok-rax.rax c.args.before.now c.args.regs.now c.with_value.result c.args.self.now c.answer_of.new.self c.set_regs.new.self
    c.in_ok-rax.ensures.done c.with_value.ensures c.set_regs.ensures c.value-number.ensures c.if-number-eq-RT_SIGRETURN.false c.if-number-eq-EXIT.false c.if-number-eq-EXIT_GROUP.false
