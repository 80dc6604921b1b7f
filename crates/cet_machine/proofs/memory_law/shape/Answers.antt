use Rattle.cet_machine.proofs.MemoryReads.{stored_keeps_shape}
use Rattle.cet_machine.proofs.MemoryRegions.{same_shape_held, same_shape_disjoint}
use Rattle.cet_machine.proofs.memory_law.shape.Goals as goal

pub returns : goal.returns
returns c = record { kept = stored_keeps_shape; held = same_shape_held; disjoint = same_shape_disjoint }
