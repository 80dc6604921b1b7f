-- The sections of an object: which are loaded, which is the note, which are kept, and what is not supported
-- (gABI, "Sections"; psABI, "Special Sections").
use Rattle.std.specs.Prelude.{ℕ, ◌==◌, ◌||◌, ◌&&◌, not, nat_lt, is_some, Bool, if◌then◌else◌, List, [], ◌∷◌, codes}
use Rattle.std.specs.List.{list_any}
use Rattle.cet_elf.specs.declared.error.ElfError.{ElfError}
use Rattle.cet_elf.specs.declared.error.ElfError.TheVariants.{Unsupported}
use Rattle.cet_elf.specs.declared.entries.SectionHeader.{SectionHeader}
use Rattle.cet_elf.specs.declared.object.Class as classes
use Rattle.cet_elf.specs.declared.object.Class.TheVariants.{Code, Read, Write, Zero, Group}
use Rattle.cet_elf.specs.Below.{count_below, first_below}
use Rattle.cet_elf.specs.Fields.{has_flag}
use Rattle.cet_elf.specs.Faults.{broken}
use Rattle.cet_elf.specs.Header.{section_count}
use Rattle.cet_elf.specs.Sections.{section, section_place, section_names}
use Rattle.cet_elf.specs.StringTable.{is_named}

-- SHF_ALLOC: the section is loaded
abbrev pub is_loaded : SectionHeader → Bool
is_loaded s = has_flag s.flags 0x2

-- SHT_GROUP
abbrev pub is_group : SectionHeader → Bool
is_group s = s.kind == 17

-- the types that a loaded section may have: SHT_PROGBITS, SHT_NOTE, SHT_NOBITS, SHT_X86_64_UNWIND and SHT_GROUP
abbrev pub is_loaded_type : ℕ → Bool
is_loaded_type kind = list_any (λ k. kind == k) (1 ∷ 7 ∷ 8 ∷ 0x70000001 ∷ 17 ∷ [])

-- the flags that a loaded section may have: not SHF_TLS or SHF_COMPRESSED, and SHF_WRITE or SHF_EXECINSTR alone
abbrev pub are_loaded_flags : ℕ → Bool
are_loaded_flags flags = not (has_flag flags 0xc00) && not (has_flag flags 0x1 && has_flag flags 0x4)

-- sh_addralign: a power of two up to 4,096, or 0, which asks for no alignment
abbrev pub is_alignment : ℕ → Bool
is_alignment align = list_any (λ k. align == k) (0 ∷ 1 ∷ 2 ∷ 4 ∷ 8 ∷ 16 ∷ 32 ∷ 64 ∷ 128 ∷ 256 ∷ 512 ∷ 1024 ∷ 2048 ∷ 4096 ∷ [])

-- section i is there and is loaded
abbrev pub is_loaded_at : List ℕ → ℕ → Bool
is_loaded_at b i = nat_lt i (section_count b) && is_loaded (section b i)

-- SHT_SYMTAB
abbrev pub is_symbol_table : List ℕ → ℕ → Bool
is_symbol_table b i = (section b i).kind == 2

-- the property note (psABI, "Special Sections"): SHT_NOTE of this name, loaded or not
unfoldable pub is_note : List ℕ → ℕ → Bool
is_note b i = (section b i).kind == 7 && is_named (section_names b) (section b i).name (codes ".note.gnu.property")

-- Section i is supported. A loaded one has a type and flags as above, and, as a group, an alignment. There is at most one
-- symbol table, and at most one note. There is no SHT_REL for a loaded section, and no SHT_SYMTAB_SHNDX.
abbrev pub is_supported_load : SectionHeader → Bool
is_supported_load s = not (is_loaded s) || (is_loaded_type s.kind && are_loaded_flags s.flags)

abbrev pub is_supported_alignment : SectionHeader → Bool
is_supported_alignment s = not (is_loaded s || is_group s) || is_alignment s.align

abbrev pub is_supported_rel : List ℕ → SectionHeader → Bool
is_supported_rel b s = not (s.kind == 9 && is_loaded_at b s.info) && not (s.kind == 18)

abbrev pub is_only_one : List ℕ → ℕ → Bool
is_only_one b i = not (is_symbol_table b i && is_some (first_below i (is_symbol_table b))) && not (is_note b i && is_some (first_below i (is_note b)))

unfoldable pub is_supported : List ℕ → ℕ → Bool
is_supported b i =
    is_supported_load (section b i) && is_supported_alignment (section b i) && is_supported_rel b (section b i) && is_only_one b i

abbrev pub support_faults : List ℕ → ℕ → List ElfError
support_faults b i = broken (is_supported b i) (Unsupported (section_place b i))

-- the sections of an object that are kept: the loaded ones other than the note, and the groups
abbrev pub is_kept : List ℕ → ℕ → Bool
is_kept b i = (is_loaded (section b i) && not (is_note b i)) || is_group (section b i)

-- the number of a kept section in the object: how many kept ones stand before it
abbrev pub section_number : List ℕ → ℕ → ℕ
section_number b i = count_below i (is_kept b)

-- what a kept section is loaded as
unfoldable pub class_of : SectionHeader → classes.Class
class_of s =
    if is_group s then Group
    else if s.kind == 8 then Zero
    else if has_flag s.flags 0x4 then Code
    else if has_flag s.flags 0x1 then Write
    else Read

-- its alignment: at least 1
abbrev pub align_of : SectionHeader → ℕ
align_of s = if s.align == 0 then 1 else s.align
