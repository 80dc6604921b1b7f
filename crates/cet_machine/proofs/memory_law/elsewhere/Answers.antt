use Rattle.cet_machine.proofs.MemoryReads.{stored_keeps_other_regions, stored_keeps_other_kinds, stored_keeps_reads_of_other_kinds, stored_keeps_reads_elsewhere}
use Rattle.cet_machine.proofs.memory_law.elsewhere.Goals as goal

pub returns : goal.returns
returns c = record { other_kinds = stored_keeps_other_kinds; other_regions = stored_keeps_other_regions; reads_of_other_kinds = stored_keeps_reads_of_other_kinds; reads = stored_keeps_reads_elsewhere }
