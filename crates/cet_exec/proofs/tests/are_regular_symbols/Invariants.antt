use Rattle.std.proofs.Common.{All, take}
use Rattle.cet_exec.specs.Regular.{IsRegularSymbol}
use Rattle.cet_exec.proofs.tests.are_regular_symbols.Given as goal

abbrev pub invariant-loop-s : goal.invariant-loop-s
invariant-loop-s l = All IsRegularSymbol (take l.s-index l.symbols)
