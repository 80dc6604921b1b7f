use Rattle.std.proofs.Common.{◌≡◌, ◌++◌, replicate}
use Rattle.cet_asm.proofs.bytes.append_zeros.Given as goal

abbrev pub invariant-loop-done : goal.invariant-loop-done
invariant-loop-done l = l.out ≡ l.initial.out ++ replicate l._done 0
