use Rattle.std.proofs.Common.{take, All}
use Rattle.cet_exec.specs.Regular.{SegmentFits}
use Rattle.cet_exec.specs.Layout.{AddsSegments}
use Rattle.cet_exec.proofs.segments.add_segments.Given as goal

abbrev pub invariant-loop-number : goal.invariant-loop-number
invariant-loop-number l = record {
  adds : AddsSegments l.linked l.fn.layout l.layout (take l.number l.segments);
  fit : All SegmentFits (take l.number l.segments);
}
