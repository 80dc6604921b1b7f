use Rattle.std.proofs.Common.{All, take}
use Rattle.cet_exec.specs.Regular.{IsRegularSegment}
use Rattle.cet_exec.proofs.tests.are_regular_segments.Given as goal

abbrev pub invariant-loop-s : goal.invariant-loop-s
invariant-loop-s l = All IsRegularSegment (take l.s-index l.segments)
