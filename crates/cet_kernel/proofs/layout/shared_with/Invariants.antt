use Rattle.std.proofs.Common.{◌≡◌, take, None}
use Rattle.std.specs.List.{find}
use Rattle.cet_process.specs.Start.{share_a_page}
use Rattle.cet_kernel.proofs.layout.shared_with.Given as goal

abbrev pub invariant-loop-t : goal.invariant-loop-t
invariant-loop-t l = find (share_a_page l.fn.s) (take l.t-index l.later) ≡ None
