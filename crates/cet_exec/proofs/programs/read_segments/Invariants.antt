use Rattle.std.proofs.Common.{◌≡◌}
use Rattle.cet_elf.specs.Below.{each_below}
use Rattle.cet_exec.specs.Programs.{segment_at}
use Rattle.cet_exec.proofs.programs.read_segments.Given as goal

abbrev pub invariant-loop-i : goal.invariant-loop-i
invariant-loop-i l = l.segments ≡ each_below l.i (segment_at l.bytes)
