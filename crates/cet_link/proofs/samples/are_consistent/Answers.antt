use Rattle.std.proofs.Common.{subst, sym, arith}
use Rattle.std.proofs.lemmas.List.Elements.{All-more, All-same}
use Rattle.cet_elf.specs.Consistent.{IsConsistent}
use Rattle.cet_link.proofs.LoopLemmas.{take_all}
use Rattle.cet_link.proofs.samples.are_consistent.Goals as goal

pub loop-object-preserved : goal.loop-object-preserved
loop-object-preserved c =
    All-more IsConsistent c.args.objects.now c.loop-object.object-index c.object-item.result c.loop-object-test.true c.loop-object.invariant (subst IsConsistent c.object-item.is (c.is_consistent.ensures c.if-not-is_consistent.false))

pub returns : goal.returns
returns c truth = All-same IsConsistent _ _ (sym (take_all c.args.objects.now c.loop-object.object-index (omega arith))) c.loop-object.invariant
