-- The symbols of an object: the entries of its symbol table that are kept, as values (gABI, "Symbol Table").
use Rattle.std.specs.Prelude.{ℕ, ◌+◌, ◌*◌, ◌/◌, ◌==◌, ◌||◌, ◌&&◌, not, nat_lt, nat_le, Bool, if◌then◌else◌, List, [], ◌∷◌, ◌++◌, Option, Some, None}
use Rattle.cet_elf.specs.declared.error.ElfError.{ElfError}
use Rattle.cet_elf.specs.declared.error.ElfError.TheVariants.{Name, Unsupported, SymbolIndex, TooMany}
use Rattle.cet_elf.specs.declared.entries.SectionHeader.{SectionHeader}
use Rattle.cet_elf.specs.declared.entries.SymbolEntry.{SymbolEntry}
use Rattle.cet_elf.specs.declared.object.Symbol.{Symbol}
use Rattle.cet_elf.specs.declared.object.SymbolKind.{SymbolKind}
use Rattle.cet_elf.specs.declared.object.SymbolKind.TheVariants as kinds
use Rattle.cet_elf.specs.declared.object.Bind.{Bind}
use Rattle.cet_elf.specs.declared.object.Bind.TheVariants as binds
use Rattle.cet_elf.specs.declared.object.SymbolPlace.{SymbolPlace}
use Rattle.cet_elf.specs.declared.object.SymbolPlace.TheVariants as places
use Rattle.cet_elf.specs.Below.{each_below, count_below, first_below}
use Rattle.cet_elf.specs.Faults.{broken}
use Rattle.cet_elf.specs.Header.{section_count}
use Rattle.cet_elf.specs.Sections.{section, section_place, string_table}
use Rattle.cet_elf.specs.StringTable.{has_name, name_at}
use Rattle.cet_elf.specs.Entries.{symbol_entry, symbol_type, symbol_bind, is_file}
use Rattle.cet_elf.specs.ObjectSections.{is_symbol_table, is_kept, section_number}

-- the section that is the symbol table, if there is one
unfoldable pub symbol_table : List ℕ → Option ℕ
symbol_table b = first_below (section_count b) (is_symbol_table b)

-- how many entries a table of entries of 24 bytes has. A rest that is shorter is passed over
abbrev pub entry_count : SectionHeader → ℕ
entry_count s = s.size / 24

-- how many entries the symbol table has, its names, and the place and value of entry k
abbrev pub symbol_count_of : List ℕ → Option ℕ → ℕ
symbol_count_of b None = 0
symbol_count_of b (Some i) = entry_count (section b i)

unfoldable pub symbol_count : List ℕ → ℕ
symbol_count b = symbol_count_of b (symbol_table b)

abbrev pub symbol_names_of : List ℕ → Option ℕ → List ℕ
symbol_names_of b None = []
symbol_names_of b (Some i) = string_table b (section b i).link

unfoldable pub symbol_names : List ℕ → List ℕ
symbol_names b = symbol_names_of b (symbol_table b)

abbrev pub symbol_base_of : List ℕ → Option ℕ → ℕ
symbol_base_of b None = 0
symbol_base_of b (Some i) = (section b i).offset

unfoldable pub symbol_place : List ℕ → ℕ → ℕ
symbol_place b k = symbol_base_of b (symbol_table b) + 24 * k

abbrev pub symbol_at : List ℕ → ℕ → SymbolEntry
symbol_at b k = symbol_entry b (symbol_place b k)

-- the types other than STT_FILE (STT_NOTYPE, STT_OBJECT, STT_FUNC, STT_SECTION) and the bindings (STB_LOCAL, STB_GLOBAL,
-- STB_WEAK) that a symbol may have
abbrev pub is_supported_symbol : SymbolEntry → Bool
is_supported_symbol e = nat_lt (symbol_type e) 4 && nat_lt (symbol_bind e) 3

-- st_shndx: a section that is there (SHN_UNDEF is index 0), SHN_ABS or SHN_COMMON
abbrev pub is_section_index : List ℕ → ℕ → Bool
is_section_index b index = nat_lt index (section_count b) || index == 0xfff1 || index == 0xfff2

-- The faults of an entry: its name, and, unless it is a STT_FILE, st_info and st_shndx
unfoldable pub entry_faults : List ℕ → ℕ → SymbolEntry → List ElfError
entry_faults b at e =
    broken (has_name (symbol_names b) e.name) (Name at)
    ++ broken (is_file e || is_supported_symbol e) (Unsupported (at + 4))
    ++ broken (is_file e || is_section_index b e.section) (SymbolIndex (at + 6))

-- entry 0 is not looked at
abbrev pub symbol_faults : List ℕ → ℕ → List ElfError
symbol_faults b k = if k == 0 then [] else entry_faults b (symbol_place b k) (symbol_at b k)

abbrev pub symbol_limit_faults : List ℕ → Option ℕ → List ElfError
symbol_limit_faults b None = []
symbol_limit_faults b (Some i) = broken (nat_le (entry_count (section b i)) 65536) (TooMany (section_place b i))

-- the faults of the symbol table: its number of entries, then its entries
unfoldable pub symbols_faults : List ℕ → List ElfError
symbols_faults b = symbol_limit_faults b (symbol_table b) ++ each_below (symbol_count b) (symbol_faults b)

-- the entry as a value: its type, its binding and its place
unfoldable pub kind_of : ℕ → SymbolKind
kind_of kind =
    if kind == 0 then kinds.None
    else if kind == 1 then kinds.Object
    else if kind == 2 then kinds.Func
    else kinds.Section

unfoldable pub bind_of : ℕ → Bind
bind_of bind = if bind == 0 then binds.Local else if bind == 1 then binds.Global else binds.Weak

-- SHN_UNDEF, SHN_ABS and SHN_COMMON
abbrev pub is_special_index : ℕ → Bool
is_special_index index = index == 0 || index == 0xfff1 || index == 0xfff2

-- a symbol of a section that is not kept becomes absolute
unfoldable pub place_of : List ℕ → ℕ → SymbolPlace
place_of b index =
    if index == 0 then places.Undefined
    else if index == 0xfff1 then places.Absolute
    else if index == 0xfff2 then places.Common
    else if is_kept b index then places.In (section_number b index)
    else places.Absolute

-- and its value becomes 0
unfoldable pub value_of : List ℕ → SymbolEntry → ℕ
value_of b e = if is_special_index e.section || is_kept b e.section then e.value else 0

unfoldable pub symbol_of : List ℕ → SymbolEntry → Symbol
symbol_of b e = record {
  name = name_at (symbol_names b) e.name;
  kind = kind_of (symbol_type e);
  bind = bind_of (symbol_bind e);
  place = place_of b e.section;
  value = value_of b e;
  size = e.size;
}

-- the value that stands for entry 0
abbrev pub null_symbol : Symbol
null_symbol = record { name = []; kind = kinds.None; bind = binds.Local; place = places.Absolute; value = 0; size = 0 }

-- the entries that are kept: all but those of STT_FILE. The number of a kept entry in the object is how many kept ones
-- stand before it
abbrev pub is_kept_symbol : List ℕ → ℕ → Bool
is_kept_symbol b k = k == 0 || not (is_file (symbol_at b k))

abbrev pub symbol_number : List ℕ → ℕ → ℕ
symbol_number b k = count_below k (is_kept_symbol b)

abbrev pub symbol_value : List ℕ → ℕ → Symbol
symbol_value b k = if k == 0 then null_symbol else symbol_of b (symbol_at b k)

abbrev pub kept_symbol : List ℕ → ℕ → List Symbol
kept_symbol b k = if is_kept_symbol b k then symbol_value b k ∷ [] else []

unfoldable pub symbols_of : List ℕ → List Symbol
symbols_of b = each_below (symbol_count b) (kept_symbol b)
