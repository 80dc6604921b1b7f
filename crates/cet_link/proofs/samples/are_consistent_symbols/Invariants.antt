use Rattle.std.proofs.Common.{All, take}
use Rattle.cet_elf.specs.Consistent.{IsConsistentSymbol}
use Rattle.cet_link.proofs.samples.are_consistent_symbols.Given as goal

abbrev pub invariant-loop-symbol : goal.invariant-loop-symbol
invariant-loop-symbol l = All (IsConsistentSymbol l.sections) (take l.symbol-index l.symbols)
