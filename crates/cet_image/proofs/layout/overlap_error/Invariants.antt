use Rattle.std.proofs.Common.{◌≡◌, drop}
use Rattle.cet_image.specs.Faults.{overlap_error}
use Rattle.cet_image.proofs.layout.overlap_error.Given as goal

abbrev pub invariant-loop-i : goal.invariant-loop-i
invariant-loop-i l = overlap_error l.segments ≡ overlap_error (drop l.i l.segments)
