use Rattle.std.proofs.Common.{subst, sym, arith}
use Rattle.std.proofs.lemmas.List.{take_all}
use Rattle.std.proofs.lemmas.List.Elements.{All-more, All-same}
use Rattle.cet_exec.specs.Regular.{IsRegularSegment}
use Rattle.cet_exec.proofs.tests.are_regular_segments.Goals as goal

pub loop-s-preserved : goal.loop-s-preserved
loop-s-preserved c =
    All-more IsRegularSegment c.args.segments.now c.loop-s.s-index c.s-item.result c.loop-s-test.true c.loop-s.invariant (subst IsRegularSegment c.s-item.is (c.is_regular_segment.ensures c.if-not-is_regular_segment.false))

pub returns : goal.returns
returns c truth = All-same IsRegularSegment _ _ (sym (take_all c.loop-s.s-index c.args.segments.now (omega arith))) c.loop-s.invariant
