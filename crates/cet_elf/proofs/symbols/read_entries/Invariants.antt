use Rattle.std.proofs.Common.{◌≡◌, []}
use Rattle.cet_elf.specs.Below.{each_below}
use Rattle.cet_elf.specs.ObjectSymbols.{symbol_faults}
use Rattle.cet_elf.specs.Numbers.{AreSymbols}
use Rattle.cet_elf.proofs.symbols.read_entries.Given as goal

abbrev pub invariant-loop-k : goal.invariant-loop-k
invariant-loop-k l = (each_below l.k (symbol_faults l.bytes) ≡ []) × AreSymbols l.bytes l.k l.symbols
