use Rattle.std.proofs.Common.{◌≡◌, ◌++◌, map, take, vec_len, All}
use Rattle.std.specs.List.{flat_map}
use Rattle.cet_elf.specs.Written.{symbol_entries, ended}
use Rattle.cet_elf.specs.Regular.{SymbolFits}
use Rattle.cet_elf.proofs.tables.put_symbols.Given as goal

abbrev pub invariant-loop-symbol : goal.invariant-loop-symbol
invariant-loop-symbol l = record {
  table : l.table.items ≡ l.fn.table.items ++ symbol_entries (vec_len l.fn.names) (take l.symbol-index l.symbols);
  names : l.names.items ≡ l.fn.names.items ++ flat_map ended (map (λ s. s.name) (take l.symbol-index l.symbols));
  fit : All SymbolFits (take l.symbol-index l.symbols);
}
