use Rattle.std.proofs.Common.{◌≡◌, ◌≤◌, drop, length}
use Rattle.cet_asm.specs.Assembled.{first_late}
use Rattle.cet_asm.specs.Whole.{end_of}
use Rattle.cet_asm.specs.Tables.{targets_at}
use Rattle.cet_asm.proofs.late.first_late.Given as goal

abbrev pub invariant-loop-n : goal.invariant-loop-n
invariant-loop-n l = record {
  within : l.n ≤ length l.placed;
  fault : l.fault ≡ first_late (targets_at l.targets) (drop l.n l.placed);
  end : l.end ≡ end_of (drop l.n l.placed);
}

abbrev pub decreases-loop-n : goal.decreases-loop-n
decreases-loop-n l = l.n
