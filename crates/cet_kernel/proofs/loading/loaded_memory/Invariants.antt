use Rattle.std.proofs.Common.{◌≡◌, [], take, map}
use Rattle.std.specs.List.{fold}
use Rattle.cet_machine.specs.Memory.{with_region}
use Rattle.cet_process.specs.Start.{region_of}
use Rattle.cet_kernel.proofs.loading.loaded_memory.Given as goal

abbrev pub invariant-loop-segment : goal.invariant-loop-segment
invariant-loop-segment l = l.memory ≡ fold with_region [] (map region_of (take l.segment-index l.segments))
