use Rattle.std.proofs.Common.{refl, rules}
use Rattle.cet_asm.proofs.assembly.place.Goals as goal

pub loop-numbered-init : goal.loop-numbered-init
loop-numbered-init c = record {
  kept = c.new-assembly.ensures.kept;
  sized = c.new-assembly.ensures.sized;
  so_far = rw (c.new-assembly.ensures.none, c.new-assembly.ensures.state, c.into_iter-numbered-iterator.ensures.into_iter_gives.0, c.in-Ok.ensures) refl;
  left = search rules;
}
