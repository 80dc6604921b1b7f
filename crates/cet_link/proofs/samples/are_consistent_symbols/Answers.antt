use Rattle.std.proofs.Common.{subst, sym, arith}
use Rattle.std.proofs.lemmas.List.Elements.{All-more, All-same}
use Rattle.cet_elf.specs.Consistent.{IsConsistentSymbol}
use Rattle.cet_link.proofs.LoopLemmas.{take_all}
use Rattle.cet_link.proofs.samples.are_consistent_symbols.Goals as goal

pub loop-symbol-preserved : goal.loop-symbol-preserved
loop-symbol-preserved c =
    All-more (IsConsistentSymbol c.args.sections) c.args.symbols.now c.loop-symbol.symbol-index c.symbol-item.result c.loop-symbol-test.true c.loop-symbol.invariant (subst (IsConsistentSymbol c.args.sections) c.symbol-item.is (c.is_consistent_symbol.ensures c.if-not-is_consistent_symbol.false))

pub returns : goal.returns
returns c truth = All-same (IsConsistentSymbol c.args.sections) _ _ (sym (take_all c.args.symbols.now c.loop-symbol.symbol-index (omega arith))) c.loop-symbol.invariant
