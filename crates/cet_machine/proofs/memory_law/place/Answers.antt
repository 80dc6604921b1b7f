use Rattle.cet_machine.proofs.MemoryPlace.{placed_where_free, free_where_placed, legal_is_placed, legal_is_apart}
use Rattle.cet_machine.proofs.memory_law.place.Goals as goal

pub returns : goal.returns
returns c = record { where_free = placed_where_free; only_there = free_where_placed; legal = legal_is_placed; apart = legal_is_apart }
