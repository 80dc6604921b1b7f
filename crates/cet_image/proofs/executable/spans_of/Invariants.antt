use Rattle.std.proofs.Common.{◌≡◌, take}
use Rattle.cet_image.specs.Faults.{spans_of}
use Rattle.cet_image.proofs.executable.spans_of.Given as goal

abbrev pub invariant-loop-segment : goal.invariant-loop-segment
invariant-loop-segment l = l.spans ≡ spans_of (take l.segment-index l.segments)
