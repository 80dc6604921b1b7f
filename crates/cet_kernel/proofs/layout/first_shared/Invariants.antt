use Rattle.std.proofs.Common.{◌≡◌, drop}
use Rattle.cet_process.specs.Start.{first_shared}
use Rattle.cet_kernel.proofs.layout.first_shared.Given as goal

abbrev pub invariant-loop-i : goal.invariant-loop-i
invariant-loop-i l = first_shared l.fn.segments ≡ first_shared (drop l.i l.fn.segments)
