use Rattle.std.proofs.Common.{refl}
use Rattle.cet_kernel.proofs.process.Process.new.Goals as goal

pub returns : goal.returns
returns c = rw c.in_ok-push.ensures.items (rw c.in_ok-threads.ensures.items (rw c.in_ok-actions.ensures.items (rw c.in_ok-input.ensures.items (rw c.in_ok-output.ensures.items refl))))
