use Rattle.std.proofs.Common.{◌≡◌, take}
use Rattle.cet_image.specs.Executable.{segments_of}
use Rattle.cet_image.proofs.executable.segments_of.Given as goal

abbrev pub invariant-loop-segment : goal.invariant-loop-segment
invariant-loop-segment l = l.copies ≡ segments_of (take l.segment-index l.segments)
