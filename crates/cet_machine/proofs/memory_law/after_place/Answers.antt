use Rattle.cet_machine.proofs.MemoryPlace.{place_keeps_disjoint, place_keeps_others, place_keeps_held, placed_is_zero}
use Rattle.cet_machine.proofs.memory_law.after_place.Goals as goal

pub returns : goal.returns
returns c = record { disjoint = place_keeps_disjoint; others = place_keeps_others; held = place_keeps_held; zero = placed_is_zero }
