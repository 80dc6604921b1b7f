-- How the writer builds a file: the bytes, the program headers, the section headers and the section names grow side by side.
use Rattle.std.specs.Prelude.{◌≡◌, ℕ, Bool, List, [], ◌∷◌, ◌++◌, length, replicate, Option}
use Rattle.std.specs.List.{flat_map}
use Rattle.cet_elf.specs.declared.exec.ExecSegment.{ExecSegment}
use Rattle.cet_elf.specs.Written.{Part, section_header, ended}
use Rattle.cet_exec.specs.declared.layout.Layout.{Layout}
use Rattle.cet_exec.specs.declared.programs.ProgramHeader.{ProgramHeader}
use Rattle.cet_exec.specs.Written.{gap, aligned, spaced, Laid, laid, contents, load, loads, bytes_of, note_bytes, note_programs, note_sections, segment_name, segment_part, segment_parts, laid_names, named}

-- these have been added at the end of each: bytes of the file, program headers, and sections with their headers and names
pub record Adds (old new : Layout) (bytes : List ℕ) (programs : List ProgramHeader) (sections : List Laid) : Type 0 where
  pub bytes_added : new.bytes.items ≡ old.bytes.items ++ bytes
  pub programs_added : new.programs.items ≡ old.programs.items ++ programs
  pub headers : new.headers.items ≡ old.headers.items ++ flat_map section_header (named (length old.names.items) sections)
  pub names : new.names.items ≡ old.names.items ++ flat_map ended (laid_names sections)

-- nothing has been added yet: room for the ELF header and the program headers, the null section's header, and the zero byte of the names
pub record IsStart (front : ℕ) (new : Layout) : Type 0 where
  pub bytes : new.bytes.items ≡ replicate front 0
  pub programs : new.programs.items ≡ []
  pub headers : new.headers.items ≡ replicate 64 0
  pub names : new.names.items ≡ 0 ∷ []

-- where the file ends
abbrev pub end_of : Layout → ℕ
end_of l = length l.bytes.items

-- a piece has been added at the next multiple of `align`
abbrev pub AddsPiece : ℕ → Layout → Layout → List ℕ → Type 0
AddsPiece align old new piece = Adds old new (replicate (gap align (end_of old)) 0 ++ piece) [] []

-- a segment, with this number and a name as in the file of a link editor or not
abbrev pub AddsSegment : Bool → ℕ → Layout → Layout → ExecSegment → Type 0
AddsSegment linked number old new s =
    Adds old new (replicate (gap 4096 (end_of old)) 0 ++ s.bytes) (load s (aligned 4096 (end_of old)) ∷ [])
    (record { part = segment_part (segment_name linked number s.flags) s; place = aligned 4096 (end_of old) } ∷ [])

abbrev pub AddsSegments : Bool → Layout → Layout → List ExecSegment → Type 0
AddsSegments linked old new segments =
    Adds old new (spaced 4096 (end_of old) (bytes_of segments)) (loads (end_of old) segments) (laid 4096 (end_of old) (segment_parts linked 0 segments))

-- the note, where there is one
abbrev pub AddsNote : List ExecSegment → Layout → Layout → Option (List ℕ) → Type 0
AddsNote segments old new notes =
    Adds old new (spaced 8 (end_of old) (note_bytes segments old.programs.items notes)) (note_programs segments old.programs.items (end_of old) notes)
    (note_sections segments old.programs.items (end_of old) notes)

-- a section, and sections, that are in no segment
abbrev pub AddsPart : Layout → Layout → Part → Type 0
AddsPart old new part = Adds old new (replicate (gap 8 (end_of old)) 0 ++ part.content) [] (record { part = part; place = aligned 8 (end_of old) } ∷ [])

abbrev pub AddsParts : Layout → Layout → List Part → Type 0
AddsParts old new parts = Adds old new (spaced 8 (end_of old) (contents parts)) [] (laid 8 (end_of old) parts)
