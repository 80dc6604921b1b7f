use Rattle.std.proofs.Common.{◌≡◌}
use Rattle.cet_elf.specs.Below.{each_below}
use Rattle.cet_exec.specs.ExecSymbols.{kept_symbol}
use Rattle.cet_exec.proofs.symbols.read_entries.Given as goal

abbrev pub invariant-loop-k : goal.invariant-loop-k
invariant-loop-k l = l.symbols ≡ each_below l.k (kept_symbol l.bytes)
