use Rattle.std.proofs.Common.{take, All}
use Rattle.cet_elf.specs.Consistent.{IsConsistentSymbol}
use Rattle.cet_asm.proofs.regular.are_symbols.Given as goal

abbrev pub invariant-loop-symbol : goal.invariant-loop-symbol
invariant-loop-symbol l = All (IsConsistentSymbol l.sections) (take l.symbol-index l.symbols)
