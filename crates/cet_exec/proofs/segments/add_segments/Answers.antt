use Rattle.std.proofs.Common.{subst}
use Rattle.std.proofs.lemmas.List.Elements.{All-more}
use Rattle.cet_exec.specs.Regular.{SegmentFits}
use Rattle.cet_exec.proofs.Layouts.{Adds-more}
use Rattle.cet_exec.proofs.segments.add_segments.Goals as goal

pub loop-number-preserved : goal.loop-number-preserved
loop-number-preserved c =
    let xs = c.args.segments.now in
    let i = c.loop-number.number in
    let s = c.index-segments-number.result in
    let is = c.index-segments-number.is in
    record {
      adds = Adds-more _ _ _ _ xs i s c.loop-number-test.true is c.loop-number.invariant.adds c.in_ok-add_segment.ensures.adds;
      fit = All-more SegmentFits xs i s c.loop-number-test.true c.loop-number.invariant.fit (subst SegmentFits is c.in_ok-add_segment.ensures.fits);
    }
