use Rattle.std.proofs.Common.{◌≡◌, ◌≤◌, drop, reverse, length}
use Rattle.cet_asm.specs.Assembled.{definitions}
use Rattle.cet_asm.specs.Whole.{end_of}
use Rattle.cet_asm.proofs.definition.definitions.Given as goal

abbrev pub invariant-loop-n : goal.invariant-loop-n
invariant-loop-n l = record {
  within : l.n ≤ length l.placed;
  found : reverse l.found.items ≡ definitions (drop l.n l.placed);
  end : l.end ≡ end_of (drop l.n l.placed);
}

abbrev pub decreases-loop-n : goal.decreases-loop-n
decreases-loop-n l = l.n
