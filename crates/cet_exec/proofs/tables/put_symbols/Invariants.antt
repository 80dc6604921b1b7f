use Rattle.std.proofs.Common.{◌≡◌, ◌++◌, length, map, take, All}
use Rattle.std.specs.List.{flat_map}
use Rattle.cet_elf.specs.Written.{symbol_entries, ended}
use Rattle.cet_exec.specs.Regular.{SymbolFits}
use Rattle.cet_exec.specs.Written.{file_symbol}
use Rattle.cet_exec.proofs.tables.put_symbols.Given as goal

abbrev pub invariant-loop-symbol : goal.invariant-loop-symbol
invariant-loop-symbol l = record {
  table : l.table.items ≡ l.fn.table.items ++ symbol_entries (length l.fn.names.items) (map (file_symbol l.segments) (take l.symbol-index l.symbols));
  names : l.names.items ≡ l.fn.names.items ++ flat_map ended (map (λ s. s.name) (map (file_symbol l.segments) (take l.symbol-index l.symbols)));
  fit : All SymbolFits (take l.symbol-index l.symbols);
}
