use Rattle.std.proofs.Common.{◌≡◌, take, not, None}
use Rattle.std.specs.List.{find}
use Rattle.cet_process.specs.Start.{is_in_place}
use Rattle.cet_kernel.proofs.layout.load_error.Given as goal

abbrev pub invariant-loop-segment : goal.invariant-loop-segment
invariant-loop-segment l = find (λ s. not (is_in_place s)) (take l.segment-index l.segments) ≡ None
