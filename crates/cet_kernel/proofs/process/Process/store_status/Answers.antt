use Rattle.std.proofs.Common.{◌∙◌}
use Rattle.cet_kernel.proofs.States.{status_done, status_refused}
use Rattle.cet_kernel.proofs.process.Process.store_status.Goals.{in-Ok, in-Err}
use Rattle.cet_kernel.proofs.process.Process.store_status.Goals as goal

pub returns : goal.returns
returns c = elim c.match-store.branch [
  | in-Ok w ↦ status_done c.self.inside c.args.self.now c.args.a c.from.result c.store.new.self c.match-store.result c.self.view_is c.from.ensures w.in-Ok.ensures.ok w.result-is
  | in-Err w ↦
      status_refused c.self.inside c.args.self.now c.args.a c.from.result c.store.new.self c.match-store.result c.self.view_is w.in-Err.ensures.err.1 w.in-Err.ensures.unchanged
      (w.result-is ∙ w.refused.ensures)
]
