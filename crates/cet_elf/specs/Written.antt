-- An object as the bytes of a file: the ELF header, the stored bytes of its sections, and the table of section headers
-- (gABI, "Object Files": "ELF Header", "Sections", "String Table", "Symbol Table", "Relocation"). All fields are
-- little-endian.
use Rattle.std.specs.Prelude.{ℕ, ◌+◌, ◌-◌, ◌*◌, ◌%◌, Bool, true, false, nat_lt, if◌then◌else◌, List, [], ◌∷◌, ◌++◌, length, map, count_by, drop, replicate, codes, Option, Some, None}
use Rattle.std.specs.List.{flat_map, enumerate_from}
use Rattle.std.specs.Int.{w64, cast_unsigned}
use Rattle.byteorder.specs.Endian.{little_bytes}
use Rattle.cet_elf.specs.declared.object.Class.{Class}
use Rattle.cet_elf.specs.declared.object.Class.TheVariants as classes
use Rattle.cet_elf.specs.declared.object.SymbolKind.{SymbolKind}
use Rattle.cet_elf.specs.declared.object.SymbolKind.TheVariants as kinds
use Rattle.cet_elf.specs.declared.object.Bind.{Bind}
use Rattle.cet_elf.specs.declared.object.Bind.TheVariants as binds
use Rattle.cet_elf.specs.declared.object.SymbolPlace.{SymbolPlace}
use Rattle.cet_elf.specs.declared.object.SymbolPlace.TheVariants as places
use Rattle.cet_elf.specs.declared.object.Rela.{Rela}
use Rattle.cet_elf.specs.declared.object.Section.{Section}
use Rattle.cet_elf.specs.declared.object.Symbol.{Symbol}
use Rattle.cet_elf.specs.declared.object.Object.{Object}

-- ---- string tables

-- a name in a string table, ended by a zero byte; an empty name has no bytes of its own
abbrev pub ended : List ℕ → List ℕ
ended [] = []
ended (first ∷ others) = (first ∷ others) ++ 0 ∷ []

-- a zero byte, then the names in order
abbrev pub string_table : List (List ℕ) → List ℕ
string_table names = 0 ∷ flat_map ended names

-- the offset of a name whose bytes stand at `at`: an empty name is the zero byte at 0
abbrev pub name_offset : List ℕ → ℕ → ℕ
name_offset [] at = 0
name_offset (first ∷ others) at = at

-- ---- sections of a file

-- A section of a file: what its header says, but for the places of its name and of its bytes, and the bytes that are
-- stored for it. `size` is sh_size, which for SHT_NOBITS is not their number.
pub record Part : Type 0 where
  pub name : List ℕ
  pub kind : ℕ
  pub flags : ℕ
  pub address : ℕ
  pub size : ℕ
  pub link : ℕ
  pub info : ℕ
  pub align : ℕ
  pub entry_size : ℕ
  pub content : List ℕ

-- stored bytes, and zeros up to the next multiple of 8
abbrev pub padded : List ℕ → List ℕ
padded content = content ++ replicate ((8 - length content % 8) % 8) 0

-- a section of a file, the place of its bytes in the file, and where its name stands in the table of section names
pub record Placed : Type 0 where
  pub part : Part
  pub place : ℕ
  pub name_at : ℕ

-- sections whose bytes stand one after another from `place` on, and their names from `name_at` on
abbrev pub placed : ℕ → ℕ → List Part → List Placed
placed place name_at [] = []
placed place name_at (part ∷ others) =
    record { part = part; place = place; name_at = name_at }
    ∷ placed (place + length (padded part.content)) (name_at + length (ended part.name)) others

-- Elf64_Shdr: sh_name, sh_type, sh_flags, sh_addr, sh_offset, sh_size, sh_link, sh_info, sh_addralign, sh_entsize
abbrev pub section_header : Placed → List ℕ
section_header p =
    little_bytes 4 (name_offset p.part.name p.name_at) ++ (little_bytes 4 p.part.kind ++ (little_bytes 8 p.part.flags
    ++ (little_bytes 8 p.part.address ++ (little_bytes 8 p.place ++ (little_bytes 8 p.part.size
    ++ (little_bytes 4 p.part.link ++ (little_bytes 4 p.part.info ++ (little_bytes 8 p.part.align
    ++ little_bytes 8 p.part.entry_size))))))))

-- the table of section headers, which begins with that of the null section
abbrev pub section_headers : List Placed → List ℕ
section_headers sections = replicate 64 0 ++ flat_map section_header sections

-- ---- the ELF header

-- e_ident: the magic, ELFCLASS64, ELFDATA2LSB, EV_CURRENT, and zeros
abbrev pub identification : List ℕ
identification = 0x7f ∷ 0x45 ∷ 0x4c ∷ 0x46 ∷ 2 ∷ 1 ∷ 1 ∷ replicate 9 0

-- e_type (ET_REL), e_machine (EM_X86_64), e_version, e_entry, and e_phoff: there are no program headers
abbrev pub object_kind : List ℕ
object_kind = little_bytes 2 1 ++ (little_bytes 2 62 ++ (little_bytes 4 1 ++ (little_bytes 8 0 ++ little_bytes 8 0)))

-- e_shoff, e_flags, e_ehsize, e_phentsize, e_phnum, e_shentsize, e_shnum and e_shstrndx: the section headers stand at
-- `place`, are `count` with the null one, and the last is that of the table of section names
abbrev pub object_tables : ℕ → ℕ → List ℕ
object_tables place count =
    little_bytes 8 place ++ (little_bytes 4 0 ++ (little_bytes 2 64 ++ (little_bytes 2 0 ++ (little_bytes 2 0
    ++ (little_bytes 2 64 ++ (little_bytes 2 count ++ little_bytes 2 (count - 1)))))))

-- Elf64_Ehdr
abbrev pub object_header : ℕ → ℕ → List ℕ
object_header place count = identification ++ (object_kind ++ object_tables place count)

-- ---- the sections of an object

-- SHT_PROGBITS, or SHT_NOBITS for zeros that are not stored
abbrev pub type_of : Class → ℕ
type_of classes.Code = 1
type_of classes.Read = 1
type_of classes.Write = 1
type_of classes.Zero = 8
type_of classes.Group = 17

-- SHF_ALLOC, with SHF_WRITE where it is written and SHF_EXECINSTR where it is executed
abbrev pub flags_of : Class → ℕ
flags_of classes.Code = 6
flags_of classes.Read = 2
flags_of classes.Write = 3
flags_of classes.Zero = 3
flags_of classes.Group = 0

abbrev pub section_part : Section → Part
section_part s = record {
  name = s.name;
  kind = type_of s.class;
  flags = flags_of s.class;
  address = 0;
  size = s.size;
  link = 0;
  info = 0;
  align = s.align;
  entry_size = 0;
  content = s.bytes;
}

-- SHT_NOTE, SHF_ALLOC
abbrev pub note_part : List ℕ → Part
note_part bytes = record {
  name = codes ".note.gnu.property";
  kind = 7;
  flags = 2;
  address = 0;
  size = length bytes;
  link = 0;
  info = 0;
  align = 8;
  entry_size = 0;
  content = bytes;
}

abbrev pub note_parts : Option (List ℕ) → List Part
note_parts None = []
note_parts (Some bytes) = note_part bytes ∷ []

-- SHT_STRTAB
abbrev pub string_part : List ℕ → List ℕ → Part
string_part name table = record {
  name = name;
  kind = 3;
  flags = 0;
  address = 0;
  size = length table;
  link = 0;
  info = 0;
  align = 0;
  entry_size = 0;
  content = table;
}

-- Elf64_Rela: r_offset, the lower half of r_info, which is the type, and its upper half, which is the symbol, and r_addend
abbrev pub rela_bytes : Rela → List ℕ
rela_bytes r =
    little_bytes 8 r.offset ++ (little_bytes 4 r.kind ++ (little_bytes 4 r.symbol ++ little_bytes 8 (cast_unsigned w64 r.addend)))

abbrev pub rela_table : List Rela → List ℕ
rela_table relocations = flat_map rela_bytes relocations

-- SHT_RELA for the section of the object numbered `number`, which is the section `number + 1` of the file; sh_link is the
-- symbol table and sh_info that section
abbrev pub rela_part : ℕ → ℕ → Section → Part
rela_part symtab number s = record {
  name = codes ".rela" ++ s.name;
  kind = 4;
  flags = 0;
  address = 0;
  size = length (rela_table s.relocations);
  link = symtab;
  info = number + 1;
  align = 8;
  entry_size = 24;
  content = rela_table s.relocations;
}

abbrev pub has_relocations : Section → Bool
has_relocations s = nat_lt 0 (length s.relocations)

-- the relocation section of a section, where it has relocations
abbrev pub relas_of : ℕ → ℕ → Section → List Part
relas_of symtab number s = if has_relocations s then rela_part symtab number s ∷ [] else []

abbrev pub rela_parts : ℕ → List Section → List Part
rela_parts symtab sections = flat_map (λ s. relas_of symtab s.0 s.1) (enumerate_from 0 sections)

-- ---- the symbol table

-- STT_NOTYPE, STT_FUNC, STT_OBJECT, STT_SECTION
abbrev pub kind_number : SymbolKind → ℕ
kind_number kinds.None = 0
kind_number kinds.Object = 1
kind_number kinds.Func = 2
kind_number kinds.Section = 3

-- STB_LOCAL, STB_GLOBAL, STB_WEAK
abbrev pub bind_number : Bind → ℕ
bind_number binds.Local = 0
bind_number binds.Global = 1
bind_number binds.Weak = 2

-- SHN_UNDEF, SHN_ABS, SHN_COMMON, or the number in the file of a section of the object
abbrev pub section_number : SymbolPlace → ℕ
section_number places.Undefined = 0
section_number places.Absolute = 0xfff1
section_number places.Common = 0xfff2
section_number (places.In section) = section + 1

-- Elf64_Sym: st_name, st_info, st_other, st_shndx, st_value, st_size
abbrev pub symbol_bytes : ℕ → Symbol → List ℕ
symbol_bytes name_at s =
    little_bytes 4 (name_offset s.name name_at) ++ (little_bytes 1 (bind_number s.bind * 16 + kind_number s.kind)
    ++ (little_bytes 1 0 ++ (little_bytes 2 (section_number s.place) ++ (little_bytes 8 s.value ++ little_bytes 8 s.size))))

-- symbols whose names stand one after another from `name_at` on
abbrev pub symbol_entries : ℕ → List Symbol → List ℕ
symbol_entries name_at [] = []
symbol_entries name_at (s ∷ others) = symbol_bytes name_at s ++ symbol_entries (name_at + length (ended s.name)) others

abbrev pub is_local : Bind → Bool
is_local binds.Local = true
is_local binds.Global = false
is_local binds.Weak = false

-- one more than the index of the last local symbol, and 0 without one
abbrev pub locals_end : List Symbol → ℕ
locals_end [] = 0
locals_end (s ∷ others) = if nat_lt 0 (locals_end others) then locals_end others + 1 else (if is_local s.bind then 1 else 0)

-- the symbols but for the null one, which has 24 zero bytes as its entry and no name
abbrev pub named : List Symbol → List Symbol
named symbols = drop 1 symbols

abbrev pub symbol_table : List Symbol → List ℕ
symbol_table symbols = replicate 24 0 ++ symbol_entries 1 (named symbols)

-- SHT_SYMTAB; sh_link is the table of the symbols' names, the next section
abbrev pub symbol_part : ℕ → List Symbol → Part
symbol_part symtab symbols = record {
  name = codes ".symtab";
  kind = 2;
  flags = 0;
  address = 0;
  size = length (symbol_table symbols);
  link = symtab + 1;
  info = locals_end symbols;
  align = 8;
  entry_size = 24;
  content = symbol_table symbols;
}

-- ---- the file

-- the number in the file of the symbol table: it stands behind the null section, the sections of the object, the note and
-- the relocation sections
abbrev pub symtab_number : Object → ℕ
symtab_number o = length o.sections + length (note_parts o.notes) + count_by has_relocations o.sections + 1

-- the names of the symbols
abbrev pub symbol_names : List Symbol → List ℕ
symbol_names symbols = string_table (map (λ s. s.name) (named symbols))

-- the sections before the table of section names
abbrev pub named_parts : Object → List Part
named_parts o =
    map section_part o.sections ++ (note_parts o.notes ++ (rela_parts (symtab_number o) o.sections
    ++ (symbol_part (symtab_number o) o.symbols ∷ string_part (codes ".strtab") (symbol_names o.symbols) ∷ [])))

-- the table of section names, its own name being the last
abbrev pub names_part : Object → Part
names_part o =
    string_part (codes ".shstrtab") (string_table (map (λ p. p.name) (named_parts o) ++ codes ".shstrtab" ∷ []))

-- the sections of the file but for the null one, in its order
abbrev pub parts : Object → List Part
parts o = named_parts o ++ names_part o ∷ []

-- the stored bytes, each section's at a multiple of 8
abbrev pub stored : List Part → List ℕ
stored sections = flat_map (λ p. padded p.content) sections

-- The file: the header, the stored bytes, and the section headers.
abbrev pub written : Object → List ℕ
written o =
    object_header (64 + length (stored (parts o))) (length (parts o) + 1) ++ (stored (parts o) ++ section_headers (placed 64 1 (parts o)))
