-- An executable as the bytes of a file: the ELF header, the program headers, the bytes of its segments, and its sections (gABI, "Object
-- Files": "ELF Header", "Program Header", "Sections", "String Table", "Symbol Table"; Linux extensions to the gABI, "Program Property", for
-- PT_GNU_PROPERTY). All fields are little-endian. Which sections there are, their names, and where everything stands is this project's own.
use Rattle.std.specs.Prelude.{ℕ, ◌+◌, ◌-◌, ◌*◌, ◌%◌, ◌==◌, ◌&&◌, nat_le, nat_lt, is_some, Bool, true, false, if◌then◌else◌, List, [], ◌∷◌, ◌++◌, length, map, replicate, codes, position, slice_get, Option, Some, None}
use Rattle.std.specs.List.{flat_map, starts_with}
use Rattle.std.specs.Fmt.{decimal}
use Rattle.byteorder.specs.Endian.{little_bytes}
use Rattle.cet_elf.specs.declared.object.Symbol.{Symbol}
use Rattle.cet_elf.specs.declared.object.SymbolPlace.{SymbolPlace}
use Rattle.cet_elf.specs.declared.object.SymbolPlace.TheVariants as places
use Rattle.cet_elf.specs.declared.exec.Exec.{Exec}
use Rattle.cet_elf.specs.declared.exec.ExecSegment.{ExecSegment}
use Rattle.cet_elf.specs.declared.exec.ExecSymbol.{ExecSymbol}
use Rattle.cet_elf.specs.Fields.{has_flag}
use Rattle.cet_elf.specs.ObjectSymbols.{null_symbol}
use Rattle.cet_elf.specs.Written.{Part, Placed, ended, string_table, string_part, symbol_part, symbol_names, section_headers, identification}
use Rattle.cet_exec.specs.declared.programs.ProgramHeader.{ProgramHeader}
use Rattle.cet_exec.specs.Programs.{is_load}

-- ---- pieces of a file, one after another

-- how many zeros lead from `end` to the least multiple of `align` that is not below it, and that multiple
abbrev pub gap : ℕ → ℕ → ℕ
gap align end = (align - end % align) % align

abbrev pub aligned : ℕ → ℕ → ℕ
aligned align end = end + gap align end

-- pieces from `end` on, each at the least multiple of `align` that is not below the end of the one before, with zeros between
abbrev pub spaced : ℕ → ℕ → List (List ℕ) → List ℕ
spaced align end [] = []
spaced align end (piece ∷ others) = (replicate (gap align end) 0 ++ piece) ++ spaced align (aligned align end + length piece) others

-- a section, and the place of its bytes in the file
pub record Laid : Type 0 where
  pub part : Part
  pub place : ℕ

-- sections whose bytes stand so
abbrev pub laid : ℕ → ℕ → List Part → List Laid
laid align end [] = []
laid align end (part ∷ others) = record { part = part; place = aligned align end } ∷ laid align (aligned align end + length part.content) others

abbrev pub contents : List Part → List (List ℕ)
contents parts = map (λ part. part.content) parts

-- ---- program headers

-- Elf64_Phdr: p_type, p_flags, p_offset, p_vaddr, p_paddr, p_filesz, p_memsz and p_align. A physical address is the virtual one; a PT_LOAD is
-- aligned to a page and the note to 8
abbrev pub program_bytes : ProgramHeader → List ℕ
program_bytes p =
    little_bytes 4 p.kind ++ (little_bytes 4 p.flags ++ (little_bytes 8 p.offset ++ (little_bytes 8 p.start ++ (little_bytes 8 p.start
    ++ (little_bytes 8 p.stored_size ++ (little_bytes 8 p.size ++ little_bytes 8 (if is_load p then 4096 else 8)))))))

-- the PT_LOAD of a segment whose bytes stand at `place`
abbrev pub load : ExecSegment → ℕ → ProgramHeader
load s place = record { kind = 1; flags = s.flags; offset = place; start = s.start; stored_size = length s.bytes; size = s.size }

-- those of segments whose bytes stand from `end` on, each at a multiple of 4,096
abbrev pub loads : ℕ → List ExecSegment → List ProgramHeader
loads end [] = []
loads end (s ∷ others) = load s (aligned 4096 end) ∷ loads (aligned 4096 end + length s.bytes) others

-- the stored bytes of the segments
abbrev pub bytes_of : List ExecSegment → List (List ℕ)
bytes_of segments = map (λ s. s.bytes) segments

-- the note stands first in a segment that is read alone, PF_R
abbrev pub begins_with : List ℕ → ExecSegment → Bool
begins_with note s = s.flags == 4 && starts_with (λ a b. a == b) s.bytes note

abbrev pub at_index : List ProgramHeader → Option ℕ → Option ProgramHeader
at_index programs None = None
at_index programs (Some i) = slice_get programs i

-- the PT_LOAD of the first such segment
abbrev pub home : List ℕ → List ExecSegment → List ProgramHeader → Option ProgramHeader
home note segments programs = at_index programs (position (begins_with note) segments)

-- PT_GNU_PROPERTY, PF_R
abbrev pub property : List ℕ → ℕ → ℕ → ProgramHeader
property note place address = record { kind = 0x6474e553; flags = 4; offset = place; start = address; stored_size = length note; size = length note }

-- The program header of the note. It is that part of the segment in which it stands first; where there is none it is not in memory, its address
-- is 0, and it has bytes of its own at the first multiple of 8 from `end` on
abbrev pub note_program : List ℕ → ℕ → Option ProgramHeader → ProgramHeader
note_program note end None = property note (aligned 8 end) 0
note_program note end (Some segment) = property note segment.offset segment.start

abbrev pub own_bytes : List ℕ → Option ProgramHeader → List (List ℕ)
own_bytes note None = note ∷ []
own_bytes note (Some segment) = []

abbrev pub note_count : Exec → ℕ
note_count e = if is_some e.notes then 1 else 0

-- the end of the header and of the program headers
abbrev pub front_size : Exec → ℕ
front_size e = 64 + 56 * (length e.segments + note_count e)

abbrev pub load_programs : Exec → List ProgramHeader
load_programs e = loads (front_size e) e.segments

-- the end of the bytes of the segments
abbrev pub segments_end : Exec → ℕ
segments_end e = front_size e + length (spaced 4096 (front_size e) (bytes_of e.segments))

-- what there is of the note, with these segments, these PT_LOAD and this end: its program header, and the bytes of its own
abbrev pub note_programs : List ExecSegment → List ProgramHeader → ℕ → Option (List ℕ) → List ProgramHeader
note_programs segments programs end None = []
note_programs segments programs end (Some note) = note_program note end (home note segments programs) ∷ []

abbrev pub note_bytes : List ExecSegment → List ProgramHeader → Option (List ℕ) → List (List ℕ)
note_bytes segments programs None = []
note_bytes segments programs (Some note) = own_bytes note (home note segments programs)

abbrev pub programs : Exec → List ProgramHeader
programs e = load_programs e ++ note_programs e.segments (load_programs e) (segments_end e) e.notes

abbrev pub own_note : Exec → List (List ℕ)
own_note e = note_bytes e.segments (load_programs e) e.notes

-- the end of the note's own bytes
abbrev pub note_end : Exec → ℕ
note_end e = segments_end e + length (spaced 8 (segments_end e) (own_note e))

-- ---- sections

-- SHF_ALLOC, with SHF_WRITE where PF_W is set and SHF_EXECINSTR where PF_X is
abbrev pub section_flags : ℕ → ℕ
section_flags flags = 2 + (if has_flag flags 2 then 1 else 0) + (if has_flag flags 1 then 4 else 0)

-- SHT_PROGBITS: the stored bytes of a segment
abbrev pub segment_part : List ℕ → ExecSegment → Part
segment_part name s = record {
  name = name;
  kind = 1;
  flags = section_flags s.flags;
  address = s.start;
  size = length s.bytes;
  link = 0;
  info = 0;
  align = 0;
  entry_size = 0;
  content = s.bytes;
}

-- the first list is the second one, or what is left of it without some of its items
abbrev pub is_left_of : List ℕ → List ℕ → Bool
is_left_of [] [] = true
is_left_of (x ∷ xs) [] = false
is_left_of [] (y ∷ ys) = true
is_left_of (x ∷ xs) (y ∷ ys) = if x == y then is_left_of xs ys else is_left_of (x ∷ xs) ys

-- the segments are those that a link editor makes here: PF_R and PF_X, PF_R alone, PF_R and PF_W, in this order, each at most once
abbrev pub is_linked : List ExecSegment → Bool
is_linked segments = is_left_of (map (λ s. s.flags) segments) (5 ∷ 4 ∷ 6 ∷ [])

-- the name of a segment's section: by its flags, and in other executables by its number
abbrev pub segment_name : Bool → ℕ → ℕ → List ℕ
segment_name true number flags = if flags == 5 then codes ".text" else if flags == 4 then codes ".rodata" else codes ".data"
segment_name false number flags = codes ".seg" ++ decimal number

-- the sections of segments numbered from `number` on
abbrev pub segment_parts : Bool → ℕ → List ExecSegment → List Part
segment_parts linked number [] = []
segment_parts linked number (s ∷ others) = segment_part (segment_name linked number s.flags) s ∷ segment_parts linked (number + 1) others

-- SHT_NOTE, SHF_ALLOC
abbrev pub note_part : List ℕ → ℕ → Part
note_part note address = record {
  name = codes ".note.gnu.property";
  kind = 7;
  flags = 2;
  address = address;
  size = length note;
  link = 0;
  info = 0;
  align = 8;
  entry_size = 0;
  content = note;
}

-- the section of the note, where its program header says
abbrev pub note_section : List ℕ → ProgramHeader → Laid
note_section note p = record { part = note_part note p.start; place = p.offset }

abbrev pub note_sections : List ExecSegment → List ProgramHeader → ℕ → Option (List ℕ) → List Laid
note_sections segments programs end None = []
note_sections segments programs end (Some note) = note_section note (note_program note end (home note segments programs)) ∷ []

-- the sections of the segments and of the note
abbrev pub loaded_sections : Exec → List Laid
loaded_sections e =
    laid 4096 (front_size e) (segment_parts (is_linked e.segments) 0 e.segments)
    ++ note_sections e.segments (load_programs e) (segments_end e) e.notes

-- ---- symbols

-- an address is that of a stored byte of the segment
abbrev pub is_stored_in : ℕ → ExecSegment → Bool
is_stored_in address s = nat_le s.start address && nat_lt address (s.start + length s.bytes)

abbrev pub place_in : Option ℕ → SymbolPlace
place_in None = places.Absolute
place_in (Some number) = places.In number

-- A symbol as an entry of the symbol table. It counts from the section of the first segment that stores a byte at its value, and from none,
-- SHN_ABS, where there is no such segment
abbrev pub file_symbol : List ExecSegment → ExecSymbol → Symbol
file_symbol segments s = record {
  name = s.name;
  kind = s.kind;
  bind = s.bind;
  place = place_in (position (is_stored_in s.value) segments);
  value = s.value;
  size = s.size;
}

-- the symbols of the file, the null one first
abbrev pub file_symbols : Exec → List Symbol
file_symbols e = null_symbol ∷ map (file_symbol e.segments) e.symbols

-- ---- the file

-- the number in the file of the symbol table: it stands behind the null section, the sections of the segments, and the note
abbrev pub symtab_number : Exec → ℕ
symtab_number e = length e.segments + note_count e + 1

-- the symbol table and the names of the symbols
abbrev pub symbol_parts : Exec → List Part
symbol_parts e = symbol_part (symtab_number e) (file_symbols e) ∷ string_part (codes ".strtab") (symbol_names (file_symbols e)) ∷ []

abbrev pub laid_names : List Laid → List (List ℕ)
laid_names sections = map (λ l. l.part.name) sections

-- the names of sections, its own being the last
abbrev pub names_part : Exec → Part
names_part e =
    string_part (codes ".shstrtab") (string_table (laid_names (loaded_sections e) ++ (map (λ p. p.name) (symbol_parts e) ++ codes ".shstrtab" ∷ [])))

-- the sections that are in no segment, each at a multiple of 8
abbrev pub table_parts : Exec → List Part
table_parts e = symbol_parts e ++ names_part e ∷ []

-- the sections of the file but for the null one, in its order
abbrev pub sections : Exec → List Laid
sections e = loaded_sections e ++ laid 8 (note_end e) (table_parts e)

-- sections whose names stand one after another from `name_at` on
abbrev pub named : ℕ → List Laid → List Placed
named name_at [] = []
named name_at (l ∷ others) = record { part = l.part; place = l.place; name_at = name_at } ∷ named (name_at + length (ended l.part.name)) others

abbrev pub section_table : Exec → List ℕ
section_table e = section_headers (named 1 (sections e))

-- where the section headers stand
abbrev pub section_table_place : Exec → ℕ
section_table_place e = aligned 8 (note_end e + length (spaced 8 (note_end e) (contents (table_parts e))))

-- e_type (ET_EXEC), e_machine (EM_X86_64), e_version, e_entry, and e_phoff: the program headers stand at 64
abbrev pub exec_kind : ℕ → List ℕ
exec_kind entry = little_bytes 2 2 ++ (little_bytes 2 62 ++ (little_bytes 4 1 ++ (little_bytes 8 entry ++ little_bytes 8 64)))

-- e_shoff, e_flags, e_ehsize, e_phentsize, e_phnum, e_shentsize, e_shnum and e_shstrndx: the section headers stand at `place`, are `count` with
-- the null one, and the last is that of the names of sections
abbrev pub exec_tables : ℕ → ℕ → ℕ → List ℕ
exec_tables place programs count =
    little_bytes 8 place ++ (little_bytes 4 0 ++ (little_bytes 2 64 ++ (little_bytes 2 56 ++ (little_bytes 2 programs
    ++ (little_bytes 2 64 ++ (little_bytes 2 count ++ little_bytes 2 (count - 1)))))))

-- Elf64_Ehdr
abbrev pub exec_header : ℕ → ℕ → ℕ → ℕ → List ℕ
exec_header entry place programs count = identification ++ (exec_kind entry ++ exec_tables place programs count)

-- The file: the header; the program headers; the bytes of the segments, each at a multiple of 4,096; those of the note, where they stand in no
-- segment; and, each at a multiple of 8, the symbol table, the names of symbols, the names of sections, and the section headers.
abbrev pub written : Exec → List ℕ
written e =
    exec_header e.entry (section_table_place e) (length (programs e)) (length (sections e) + 1) ++ (flat_map program_bytes (programs e)
    ++ (spaced 4096 (front_size e) (bytes_of e.segments)
    ++ (spaced 8 (segments_end e) (own_note e)
    ++ spaced 8 (note_end e) (contents (table_parts e) ++ section_table e ∷ []))))
