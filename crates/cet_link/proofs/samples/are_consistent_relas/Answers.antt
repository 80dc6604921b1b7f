use Rattle.std.proofs.Common.{pos, sym, arith}
use Rattle.std.proofs.lemmas.List.Elements.{All-more, All-same}
use Rattle.cet_elf.specs.declared.object.Rela.{Rela}
use Rattle.cet_elf.specs.Consistent.{IsConsistentRela}
use Rattle.cet_link.proofs.LoopLemmas.{take_all}
use Rattle.cet_link.proofs.samples.are_consistent_relas.Goals as goal

abbrev none_there : Rela
none_there = record { offset = 0; kind = 0; symbol = 0; addend = pos 0 }

pub loop-rela-preserved : goal.loop-rela-preserved
loop-rela-preserved c =
    All-more (IsConsistentRela c.args.symbols c.args.size) c.args.relocations.now c.loop-rela.rela-index none_there c.loop-rela-test.true c.loop-rela.invariant (c.is_consistent_rela.ensures c.if-not-is_consistent_rela.false)

pub returns : goal.returns
returns c truth = All-same (IsConsistentRela c.args.symbols c.args.size) _ _ (sym (take_all c.args.relocations.now c.loop-rela.rela-index (omega arith))) c.loop-rela.invariant
