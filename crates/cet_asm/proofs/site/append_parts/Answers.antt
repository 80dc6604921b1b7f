use Rattle.std.proofs.Common.{◌≤◌, ◌++◌, length, arith}
use Rattle.cet_asm.specs.Emitted.{parts_emitted}
use Rattle.cet_asm.proofs.SiteParts.{parts_more, parts_end}
use Rattle.cet_asm.proofs.site.append_parts.Goals as goal

pub loop-part-preserved : goal.loop-part-preserved
loop-part-preserved c = record {
  near = omega (arith, c.loop-part.invariant.near, c.part_size-place.ensures.small);
  bytes = parts_more c.args.parts.now c.args.spot.now c.loop-part.place c.loop-part.part-index c.part_size-place.result c.part-item.result c.loop-part.out c.append_part.new.out (c.args.out.now ++ (parts_emitted c.args.parts.now c.args.spot.now 0 c.args.parts.now).bytes) c.loop-part-test.true c.part-item.is c.part_size-place.ensures.size c.in_ok-append_part.ensures c.loop-part.invariant.bytes;
}

pub returns : goal.returns
returns c =
    let all : length c.args.parts.now ≤ c.loop-part.part-index = omega arith in
    parts_end c.args.parts.now c.args.spot.now c.loop-part.place c.loop-part.part-index c.loop-part.out (c.args.out.now ++ (parts_emitted c.args.parts.now c.args.spot.now 0 c.args.parts.now).bytes) all c.loop-part.invariant.bytes
