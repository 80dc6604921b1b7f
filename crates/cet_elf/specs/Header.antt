-- The ELF header (gABI, "ELF Header", Elf64_Ehdr), and what is looked at in it and in its two tables, for objects and
-- executables.
use Rattle.std.specs.Prelude.{ℕ, ◌+◌, ◌*◌, ◌≤◌, ◌<◌, ◌==◌, ◌||◌, nat_le, List, ◌++◌, length}
use Rattle.cet_elf.specs.declared.error.ElfError.{ElfError}
use Rattle.cet_elf.specs.declared.error.ElfError.TheVariants.{Magic, Class, Machine, Kind, Bounds, TooMany}
use Rattle.cet_elf.specs.Fields.{byte, half, word, xword, is_part}
use Rattle.cet_elf.specs.Faults.{broken}

-- e_phoff, e_shoff, e_phnum, e_shnum and e_shstrndx
abbrev pub program_table : List ℕ → ℕ
program_table b = xword b 32

abbrev pub section_table : List ℕ → ℕ
section_table b = xword b 40

abbrev pub program_count : List ℕ → ℕ
program_count b = half b 56

abbrev pub section_count : List ℕ → ℕ
section_count b = half b 60

abbrev pub section_names_index : List ℕ → ℕ
section_names_index b = half b 62

-- e_ident: the magic, ELFCLASS64, ELFDATA2LSB and EV_CURRENT
unfoldable pub ident_faults : List ℕ → List ElfError
ident_faults b =
    broken (nat_le 64 (length b)) (Bounds 0)
    ++ broken (word b 0 == 0x464c457f) (Magic 0)
    ++ broken (byte b 4 == 2) (Class 4)
    ++ broken (byte b 5 == 1) (Class 5)
    ++ broken (byte b 6 == 1) (Class 6)

-- e_type, e_machine (EM_X86_64), e_shentsize and e_phentsize. An entry size is looked at where there is an entry
unfoldable pub kind_faults : ℕ → List ℕ → List ElfError
kind_faults kind b =
    broken (half b 16 == kind) (Kind 16)
    ++ broken (half b 18 == 62) (Machine 18)
    ++ broken (section_count b == 0 || half b 58 == 64) (Kind 58)
    ++ broken (program_count b == 0 || half b 54 == 56) (Kind 54)

-- the number of sections, and the places of the two tables
unfoldable pub table_faults : List ℕ → List ElfError
table_faults b =
    broken (nat_le (section_count b) 4096) (TooMany 60)
    ++ broken (is_part b (section_table b) (64 * section_count b)) (Bounds 40)
    ++ broken (is_part b (program_table b) (56 * program_count b)) (Bounds 32)

-- the faults of the header of a file of this e_type: ET_REL is 1 and ET_EXEC 2
unfoldable pub header_faults : ℕ → List ℕ → List ElfError
header_faults kind b = ident_faults b ++ kind_faults kind b ++ table_faults b

-- what is then known of the section header table: it has at most 4,096 headers, and each is in the file
pub record HasSectionTable (b : List ℕ) : Type 0 where
  pub long : 64 ≤ length b
  pub few : section_count b ≤ 4096
  pub inside : (i : ℕ) → i < section_count b → section_table b + 64 * i + 64 ≤ length b
