use Rattle.cet_machine.proofs.MemoryReads.{stored_is_read, stored_is_read_within, stored_is_fetched}
use Rattle.cet_machine.proofs.memory_law.read_back.Goals as goal

pub returns : goal.returns
returns c = record { whole = stored_is_read; part = stored_is_read_within; code = stored_is_fetched }
