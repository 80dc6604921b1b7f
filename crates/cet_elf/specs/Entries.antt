-- Entries of symbol tables (gABI, "Symbol Table", Elf64_Sym) and relocation sections (gABI, "Relocation", Elf64_Rela),
-- each of 24 bytes, for objects and executables.
use Rattle.std.specs.Prelude.{ℕ, ◌+◌, ◌/◌, ◌%◌, ◌==◌, Bool, List}
use Rattle.std.specs.Int.{cast_signed, w64}
use Rattle.cet_elf.specs.declared.entries.SymbolEntry.{SymbolEntry}
use Rattle.cet_elf.specs.declared.entries.RelaEntry.{RelaEntry}
use Rattle.cet_elf.specs.Fields.{byte, half, word, xword}

-- the symbol at an offset: st_name, st_info, st_shndx, st_value and st_size
unfoldable pub symbol_entry : List ℕ → ℕ → SymbolEntry
symbol_entry b at = record {
  name = word b at;
  info = byte b (at + 4);
  section = half b (at + 6);
  value = xword b (at + 8);
  size = xword b (at + 16);
}

-- ELF64_ST_TYPE and ELF64_ST_BIND
abbrev pub symbol_type : SymbolEntry → ℕ
symbol_type e = e.info % 16

abbrev pub symbol_bind : SymbolEntry → ℕ
symbol_bind e = e.info / 16

-- STT_FILE
abbrev pub is_file : SymbolEntry → Bool
is_file e = symbol_type e == 4

-- the relocation at an offset: r_offset, the two halves of r_info, and r_addend
unfoldable pub rela_entry : List ℕ → ℕ → RelaEntry
rela_entry b at = record {
  offset = xword b at;
  kind = word b (at + 8);
  symbol = word b (at + 12);
  addend = cast_signed w64 (xword b (at + 16));
}
