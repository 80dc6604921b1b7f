use Rattle.std.proofs.Common.{sym, ◌∙◌}
use Rattle.cet_kernel.proofs.Started.{started_is}
use Rattle.cet_kernel.proofs.loading.load.Goals as goal

pub returns-in-Ok-new-clause-loaded : goal.returns-in-Ok-new-clause-loaded
returns-in-Ok-new-clause-loaded c =
    started_is c.args.image.now c.args.input.now c.in-Ok-new.process c.mode_of-mode.result c.in-Ok.memory c.first_regs.result (sym c.load_error.ensures ∙ c.in_default.is) c.mode_of-mode.ensures
    c.in-Ok.ensures c.first_regs.ensures.value c.in-Ok-new.ensures
