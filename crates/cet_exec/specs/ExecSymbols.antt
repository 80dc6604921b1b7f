-- The symbols of an executable: the entries of its first symbol table that are kept, as values (gABI, "Symbol Table").
use Rattle.std.specs.Prelude.{ℕ, ◌==◌, ◌&&◌, not, nat_lt, Bool, true, false, if◌then◌else◌, List, [], ◌∷◌}
use Rattle.cet_elf.specs.declared.error.ElfError.{ElfError}
use Rattle.cet_elf.specs.declared.error.ElfError.TheVariants.{Name}
use Rattle.cet_elf.specs.declared.entries.SymbolEntry.{SymbolEntry}
use Rattle.cet_elf.specs.declared.exec.ExecSymbol.{ExecSymbol}
use Rattle.cet_elf.specs.Below.{each_below}
use Rattle.cet_elf.specs.Faults.{broken}
use Rattle.cet_elf.specs.StringTable.{has_name, name_at}
use Rattle.cet_elf.specs.Entries.{symbol_type, symbol_bind}
use Rattle.cet_elf.specs.ObjectSymbols.{symbol_count, symbol_names, symbol_place, symbol_at, kind_of, bind_of}

-- each entry has a name, which may be empty. Entry 0 is looked at like any other, and any number of entries is
abbrev pub symbol_faults : List ℕ → ℕ → List ElfError
symbol_faults b k = broken (has_name (symbol_names b) (symbol_at b k).name) (Name (symbol_place b k))

unfoldable pub symbols_faults : List ℕ → List ElfError
symbols_faults b = each_below (symbol_count b) (symbol_faults b)

-- the text has no bytes
abbrev pub is_empty_name : List ℕ → Bool
is_empty_name [] = true
is_empty_name (first ∷ others) = false

-- The entry is kept: it is a STT_NOTYPE, STT_OBJECT or STT_FUNC, a STB_LOCAL, STB_GLOBAL or STB_WEAK, not undefined, and its
-- name is not empty
abbrev pub is_plain : SymbolEntry → Bool
is_plain e = nat_lt (symbol_type e) 3 && nat_lt (symbol_bind e) 3 && not (e.section == 0)

abbrev pub is_kept : List ℕ → SymbolEntry → Bool
is_kept b e = is_plain e && not (is_empty_name (name_at (symbol_names b) e.name))

-- the entry as a value
unfoldable pub symbol_of : List ℕ → SymbolEntry → ExecSymbol
symbol_of b e = record {
  name = name_at (symbol_names b) e.name;
  kind = kind_of (symbol_type e);
  bind = bind_of (symbol_bind e);
  value = e.value;
  size = e.size;
}

abbrev pub kept_symbol : List ℕ → ℕ → List ExecSymbol
kept_symbol b k = if is_kept b (symbol_at b k) then symbol_of b (symbol_at b k) ∷ [] else []

unfoldable pub symbols_of : List ℕ → List ExecSymbol
symbols_of b = each_below (symbol_count b) (kept_symbol b)
