use Rattle.cet_machine.proofs.MemoryPlace.{place_keeps_bytes}
use Rattle.cet_machine.proofs.MemoryReads.{load_fits, stored_keeps_bytes}
use Rattle.cet_machine.proofs.memory_law.bytes.Goals as goal

pub returns : goal.returns
returns c = record { load = load_fits; stored = stored_keeps_bytes; placed = place_keeps_bytes }
