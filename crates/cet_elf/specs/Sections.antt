-- The section header table (gABI, "Sections", Elf64_Shdr), the bytes and names of sections, and string tables (gABI,
-- "String Table"), for objects and executables.
use Rattle.std.specs.Prelude.{◌≡◌, ℕ, ◌<◌, true, ◌+◌, ◌*◌, ◌==◌, ◌||◌, nat_le, if◌then◌else◌, List, [], ◌++◌}
use Rattle.cet_elf.specs.declared.error.ElfError.{ElfError}
use Rattle.cet_elf.specs.declared.error.ElfError.TheVariants.{Bounds, Name}
use Rattle.cet_elf.specs.declared.entries.SectionHeader.{SectionHeader}
use Rattle.cet_elf.specs.Below.{each_below}
pub use Rattle.cet_elf.specs.StringTable.{is_zero, has_name, name_at, is_named}
use Rattle.cet_elf.specs.Fields.{word, xword, part, is_part}
use Rattle.cet_elf.specs.Faults.{broken}
use Rattle.cet_elf.specs.Header.{section_table, section_count, section_names_index, HasSectionTable}

-- the section header at an offset: sh_name, sh_type, sh_flags, sh_offset, sh_size, sh_link, sh_info and sh_addralign
unfoldable pub section_header : List ℕ → ℕ → SectionHeader
section_header b at = record {
  name = word b at;
  kind = word b (at + 4);
  flags = xword b (at + 8);
  offset = xword b (at + 24);
  size = xword b (at + 32);
  link = word b (at + 40);
  info = word b (at + 44);
  align = xword b (at + 48);
}

-- where the header of section i stands, and what it has
abbrev pub section_place : List ℕ → ℕ → ℕ
section_place b i = section_table b + 64 * i

abbrev pub section : List ℕ → ℕ → SectionHeader
section b i = section_header b (section_place b i)

-- how many bytes of the file a section has: none where its type is SHT_NOBITS
abbrev pub stored_size : SectionHeader → ℕ
stored_size s = if s.kind == 8 then 0 else s.size

abbrev pub stored : List ℕ → SectionHeader → List ℕ
stored b s = part b s.offset (stored_size s)

-- the string table that is section `index`. Index 0 (SHN_UNDEF) and one past the last section name none, which is as
-- an empty one: it has no name in it
unfoldable pub string_table : List ℕ → ℕ → List ℕ
string_table b index = if index == 0 || nat_le (section_count b) index then [] else stored b (section b index)

-- the names of sections
abbrev pub section_names : List ℕ → List ℕ
section_names b = string_table b (section_names_index b)

-- the bytes of section i are in the file
abbrev pub place_faults : List ℕ → ℕ → List ElfError
place_faults b i = broken (is_part b (section b i).offset (stored_size (section b i))) (Bounds (section_place b i + 24))

-- section i has a name
abbrev pub name_faults : List ℕ → ℕ → List ElfError
name_faults b i = broken (has_name (section_names b) (section b i).name) (Name (section_place b i))

-- the faults of all sections, for objects and executables
unfoldable pub sections_faults : List ℕ → List ElfError
sections_faults b = each_below (section_count b) (place_faults b) ++ each_below (section_count b) (name_faults b)

-- what is then known of the sections: the bytes of each are in the file
pub record HasSections (b : List ℕ) : Type 0 where
  pub table : HasSectionTable b
  pub inside : (i : ℕ) → i < section_count b → is_part b (section b i).offset (stored_size (section b i)) ≡ true
