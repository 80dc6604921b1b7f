use Rattle.cet_machine.proofs.MemoryReads.{one_holder, held_within}
use Rattle.cet_machine.proofs.memory_law.holder.Goals as goal

pub returns : goal.returns
returns c = record { one = one_holder; within = held_within }
