use Rattle.std.proofs.Common.{◌≤◌, length, take, sym, subst, arith, rules}
use Rattle.std.proofs.lemmas.List.{take_all}
use Rattle.std.proofs.lemmas.List.Elements.{All-more, All-same}
use Rattle.cet_elf.specs.Consistent.{IsConsistentSymbol}
use Rattle.cet_asm.proofs.regular.are_symbols.Goals as goal

pub loop-symbol-preserved : goal.loop-symbol-preserved
loop-symbol-preserved c =
    let here : IsConsistentSymbol c.args.sections c.symbol-item.result = search rules in
    All-more (IsConsistentSymbol c.args.sections) c.args.symbols.now c.loop-symbol.symbol-index c.symbol-item.result c.loop-symbol-test.true c.loop-symbol.invariant (subst (IsConsistentSymbol c.args.sections) c.symbol-item.is here)

pub returns : goal.returns
returns c =
    let whole : length c.args.symbols.now ≤ c.loop-symbol.symbol-index = omega arith in
    λ t. All-same (IsConsistentSymbol c.args.sections) c.args.symbols.now (take c.loop-symbol.symbol-index c.args.symbols.now) (sym (take_all c.loop-symbol.symbol-index c.args.symbols.now whole)) c.loop-symbol.invariant
