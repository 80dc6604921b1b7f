-- The relocations of an object: the entries of the SHT_RELA sections that are read, as values (psABI, "Relocation Types").
use Rattle.std.specs.Prelude.{ℕ, ◌+◌, ◌*◌, ◌==◌, ◌||◌, ◌&&◌, nat_lt, nat_le, Bool, if◌then◌else◌, List, [], ◌∷◌, ◌++◌}
use Rattle.std.specs.List.{list_any}
use Rattle.cet_elf.specs.declared.error.ElfError.{ElfError}
use Rattle.cet_elf.specs.declared.error.ElfError.TheVariants.{Bounds, RelaType, SymbolIndex, TooMany}
use Rattle.cet_elf.specs.declared.entries.RelaEntry.{RelaEntry}
use Rattle.cet_elf.specs.declared.object.Rela.{Rela}
use Rattle.cet_elf.specs.Below.{each_below, sum_below}
use Rattle.cet_elf.specs.Faults.{broken}
use Rattle.cet_elf.specs.Header.{section_count}
use Rattle.cet_elf.specs.Sections.{section, section_place, stored_size}
use Rattle.cet_elf.specs.Entries.{rela_entry}
use Rattle.cet_elf.specs.ObjectSections.{is_loaded_at, is_note}
use Rattle.cet_elf.specs.ObjectSymbols.{entry_count, symbol_count, symbol_number, is_kept_symbol}

-- the seven types: R_X86_64_NONE, R_X86_64_64, R_X86_64_PC32, R_X86_64_PLT32, R_X86_64_32, R_X86_64_32S, R_X86_64_PC64
abbrev pub is_rela_type : ℕ → Bool
is_rela_type kind = list_any (λ k. kind == k) (0 ∷ 1 ∷ 2 ∷ 4 ∷ 10 ∷ 11 ∷ 24 ∷ [])

-- the size in bytes of the field of such a type
abbrev pub field_size : ℕ → ℕ
field_size kind = if kind == 0 then 0 else if kind == 1 || kind == 24 then 8 else 4

-- the field lies in `size` bytes; a relocation of type 0 has no field
abbrev pub is_field_inside : ℕ → ℕ → ℕ → Bool
is_field_inside kind offset size = kind == 0 || nat_le (offset + field_size kind) size

-- the symbol is an entry of the symbol table that is kept
abbrev pub is_symbol_index : List ℕ → ℕ → Bool
is_symbol_index b k = nat_lt k (symbol_count b) && is_kept_symbol b k

-- Section j is a SHT_RELA that is read: its sh_info names a section that is loaded or is the note
abbrev pub is_target : List ℕ → ℕ → Bool
is_target b i = is_loaded_at b i || (nat_lt i (section_count b) && is_note b i)

unfoldable pub is_read_rela : List ℕ → ℕ → Bool
is_read_rela b j = (section b j).kind == 4 && is_target b (section b j).info

-- how many entries of section j are read, and entry k of them with its place
unfoldable pub rela_count : List ℕ → ℕ → ℕ
rela_count b j = if is_read_rela b j then entry_count (section b j) else 0

abbrev pub rela_place : List ℕ → ℕ → ℕ → ℕ
rela_place b j k = (section b j).offset + 24 * k

abbrev pub rela_at : List ℕ → ℕ → ℕ → RelaEntry
rela_at b j k = rela_entry b (rela_place b j k)

-- the faults of an entry at `at` for a section of `size` stored bytes: its type, its symbol, and its field
unfoldable pub rela_faults : List ℕ → ℕ → ℕ → RelaEntry → List ElfError
rela_faults b size at e =
    broken (is_rela_type e.kind) (RelaType (at + 8) e.kind)
    ++ broken (is_symbol_index b e.symbol) (SymbolIndex (at + 8))
    ++ broken (is_field_inside e.kind e.offset size) (Bounds at)

-- how many bytes the section has that the entries of section j are for
abbrev pub target_size : List ℕ → ℕ → ℕ
target_size b j = stored_size (section b (section b j).info)

-- the faults of entry k of section j
abbrev pub entry_faults : List ℕ → ℕ → ℕ → List ElfError
entry_faults b j k = rela_faults b (target_size b j) (rela_place b j k) (rela_at b j k)

-- at most 1,000,000 entries are read up to section j
abbrev pub is_within_limit : List ℕ → ℕ → Bool
is_within_limit b j = nat_le (sum_below (j + 1) (rela_count b)) 1000000

-- the faults of a section j that is read: the number of entries so far, then its entries
unfoldable pub rela_section_faults : List ℕ → ℕ → List ElfError
rela_section_faults b j =
    if is_read_rela b j then
    broken (is_within_limit b j) (TooMany (section_place b j))
    ++ each_below (rela_count b j) (λ k. rela_faults b (target_size b j) (rela_place b j k) (rela_at b j k))
    else []

unfoldable pub relocations_faults : List ℕ → List ElfError
relocations_faults b = each_below (section_count b) (rela_section_faults b)

-- an entry as a value
unfoldable pub rela_of : List ℕ → RelaEntry → Rela
rela_of b e = record { offset = e.offset; kind = e.kind; symbol = symbol_number b e.symbol; addend = e.addend }

-- the entries of section j that are read
unfoldable pub relas_in : List ℕ → ℕ → List Rela
relas_in b j = each_below (rela_count b j) (λ k. rela_of b (rela_at b j k) ∷ [])

-- the relocations of section i: those in the sections that are for it, in order
unfoldable pub relocations_of : List ℕ → ℕ → List Rela
relocations_of b i = each_below (section_count b) (λ j. if (section b j).info == i then relas_in b j else [])
