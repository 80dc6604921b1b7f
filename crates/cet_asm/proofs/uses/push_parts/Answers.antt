use Rattle.std.proofs.Common.{arith}
use Rattle.cet_asm.proofs.UseLemmas.{IsAlong-start, IsAlong-more}
use Rattle.cet_asm.proofs.uses.push_parts.Goals as goal

pub loop-part-init : goal.loop-part-init
loop-part-init c = record { near = omega arith; along = IsAlong-start c.args.parts.now c.args.spot.now c.args.out.now.items }

pub loop-part-preserved : goal.loop-part-preserved
loop-part-preserved c = record {
  near = omega arith;
  along = rw c.part_size-place.ensures.size (IsAlong-more c.args.parts.now c.args.spot.now c.args.out.now.items c.loop-part.out.items c.push_part.new.out.items c.loop-part.place c.loop-part.part-index c.part-item.result c.loop-part.invariant.along c.loop-part-test.true c.part-item.is c.in_ok-push_part.ensures);
}
