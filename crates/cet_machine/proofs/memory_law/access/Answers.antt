use Rattle.cet_machine.proofs.MemoryReads.{read_where_held, held_where_read, stored_where_held, held_where_stored}
use Rattle.cet_machine.proofs.memory_law.access.Goals as goal

pub returns : goal.returns
returns c = record { read = read_where_held; read_only_there = held_where_read; stored = stored_where_held; stored_only_there = held_where_stored }
