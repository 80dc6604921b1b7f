use Rattle.std.proofs.Common.{◌≡◌, []}
use Rattle.cet_elf.specs.Below.{each_below}
use Rattle.cet_exec.specs.ExecSymbols.{symbol_faults}
use Rattle.cet_exec.proofs.symbols.check_entries.Given as goal

abbrev pub invariant-loop-k : goal.invariant-loop-k
invariant-loop-k l = each_below l.k (symbol_faults l.bytes) ≡ []
