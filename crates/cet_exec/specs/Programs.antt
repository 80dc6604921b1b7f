-- Program headers (gABI, "Program Header", Elf64_Phdr) of executables: which are segments, which is the note, and what is
-- not supported.
use Rattle.std.specs.Prelude.{ℕ, ◌+◌, ◌*◌, ◌≤◌, ◌<◌, ◌==◌, ◌||◌, ◌&&◌, not, nat_lt, nat_le, is_some, Bool, if◌then◌else◌, List, [], ◌∷◌, ◌++◌, length, Option, Some, None}
use Rattle.cet_elf.specs.declared.error.ElfError.{ElfError}
use Rattle.cet_elf.specs.declared.error.ElfError.TheVariants.{Bounds, Unsupported}
use Rattle.cet_elf.specs.declared.exec.ExecSegment.{ExecSegment}
use Rattle.cet_elf.specs.Below.{each_below, first_below}
use Rattle.cet_elf.specs.Fields.{word, xword, part, is_part}
use Rattle.cet_elf.specs.Faults.{broken}
use Rattle.cet_elf.specs.Header.{program_table, program_count}
use Rattle.cet_exec.specs.declared.programs.ProgramHeader.{ProgramHeader}

-- the program header at an offset: p_type, p_flags, p_offset, p_vaddr, p_filesz and p_memsz
unfoldable pub program_header : List ℕ → ℕ → ProgramHeader
program_header b at = record {
  kind = word b at;
  flags = word b (at + 4);
  offset = xword b (at + 8);
  start = xword b (at + 16);
  stored_size = xword b (at + 32);
  size = xword b (at + 40);
}

-- where program header i stands, and what it has
abbrev pub program_place : List ℕ → ℕ → ℕ
program_place b i = program_table b + 56 * i

abbrev pub program : List ℕ → ℕ → ProgramHeader
program b i = program_header b (program_place b i)

-- PT_LOAD
abbrev pub is_load : ProgramHeader → Bool
is_load p = p.kind == 1

-- PT_GNU_PROPERTY
abbrev pub is_property : ProgramHeader → Bool
is_property p = p.kind == 0x6474e553

-- PT_DYNAMIC, PT_INTERP and PT_TLS: the executable is not static
abbrev pub is_dynamic : ProgramHeader → Bool
is_dynamic p = p.kind == 2 || p.kind == 3 || p.kind == 7

-- the stored bytes that a program header names are in the file
abbrev pub is_stored : List ℕ → ProgramHeader → Bool
is_stored b p = is_part b p.offset p.stored_size

-- program header i is a PT_GNU_PROPERTY
abbrev pub is_note : List ℕ → ℕ → Bool
is_note b i = is_property (program b i)

-- The faults of a PT_LOAD at `at`: it has no more stored bytes than bytes of memory, none where it has no memory, and the
-- stored ones are in the file
abbrev pub load_faults : List ℕ → ℕ → ProgramHeader → List ElfError
load_faults b at p = broken (nat_le p.stored_size p.size) (Bounds (at + 32)) ++ broken (is_stored b p) (Bounds (at + 8))

-- the faults of a PT_GNU_PROPERTY at `at`: its bytes are in the file, and none stands before it
abbrev pub property_faults : List ℕ → ℕ → Bool → ProgramHeader → List ElfError
property_faults b at is_second p = broken (is_stored b p) (Bounds (at + 8)) ++ broken (not is_second) (Unsupported at)

-- the faults of program header i. Other types than those above are passed over
unfoldable pub program_faults : List ℕ → ℕ → List ElfError
program_faults b i =
    if is_load (program b i) then load_faults b (program_place b i) (program b i)
    else if is_note b i then property_faults b (program_place b i) (is_some (first_below i (is_note b))) (program b i)
    else broken (not (is_dynamic (program b i))) (Unsupported (program_place b i))

-- the faults of all program headers, by index
unfoldable pub programs_faults : List ℕ → List ElfError
programs_faults b = each_below (program_count b) (program_faults b)

-- the bytes of the file that a program header names
abbrev pub stored : List ℕ → ProgramHeader → List ℕ
stored b p = part b p.offset p.stored_size

-- a PT_LOAD as a value
unfoldable pub segment_of : List ℕ → ProgramHeader → ExecSegment
segment_of b p = record { start = p.start; size = p.size; flags = p.flags; bytes = stored b p }

-- a PT_LOAD without memory gives no segment
abbrev pub is_segment : ProgramHeader → Bool
is_segment p = is_load p && nat_lt 0 p.size

abbrev pub segment_at : List ℕ → ℕ → List ExecSegment
segment_at b i = if is_segment (program b i) then segment_of b (program b i) ∷ [] else []

unfoldable pub segments_of : List ℕ → List ExecSegment
segments_of b = each_below (program_count b) (segment_at b)

-- the bytes of the PT_GNU_PROPERTY, where there is one
abbrev pub bytes_of : List ℕ → Option ℕ → Option (List ℕ)
bytes_of b None = None
bytes_of b (Some i) = Some (stored b (program b i))

unfoldable pub notes_of : List ℕ → Option (List ℕ)
notes_of b = bytes_of b (first_below (program_count b) (is_note b))

-- what is known of the program headers where the header has no fault: each is in the file
pub record HasProgramTable (b : List ℕ) : Type 0 where
  pub long : 64 ≤ length b
  pub inside : (i : ℕ) → i < program_count b → program_place b i + 56 ≤ length b
