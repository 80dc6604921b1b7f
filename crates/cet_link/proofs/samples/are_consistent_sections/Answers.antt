use Rattle.std.proofs.Common.{subst, sym, arith}
use Rattle.std.proofs.lemmas.List.Elements.{All-more, All-same}
use Rattle.cet_elf.specs.Consistent.{IsConsistentSection}
use Rattle.cet_link.proofs.LoopLemmas.{take_all}
use Rattle.cet_link.proofs.samples.are_consistent_sections.Goals as goal

pub loop-section-preserved : goal.loop-section-preserved
loop-section-preserved c =
    All-more (IsConsistentSection c.args.symbols) c.args.sections.now c.loop-section.section-index c.section-item.result c.loop-section-test.true c.loop-section.invariant (subst (IsConsistentSection c.args.symbols) c.section-item.is (c.is_consistent_section.ensures c.if-not-is_consistent_section.false))

pub returns : goal.returns
returns c truth = All-same (IsConsistentSection c.args.symbols) _ _ (sym (take_all c.args.sections.now c.loop-section.section-index (omega arith))) c.loop-section.invariant
