use Rattle.std.proofs.Common.{subst, sym, arith}
use Rattle.std.proofs.lemmas.List.{take_all}
use Rattle.std.proofs.lemmas.List.Elements.{All-more, All-same}
use Rattle.cet_exec.specs.Regular.{IsRegularSymbol}
use Rattle.cet_exec.proofs.tests.are_regular_symbols.Goals as goal

pub loop-s-preserved : goal.loop-s-preserved
loop-s-preserved c =
    All-more IsRegularSymbol c.args.symbols.now c.loop-s.s-index c.s-item.result c.loop-s-test.true c.loop-s.invariant (subst IsRegularSymbol c.s-item.is (c.is_regular_symbol.ensures c.if-not-is_regular_symbol.false))

pub returns : goal.returns
returns c truth = All-same IsRegularSymbol _ _ (sym (take_all c.loop-s.s-index c.args.symbols.now (omega arith))) c.loop-s.invariant
