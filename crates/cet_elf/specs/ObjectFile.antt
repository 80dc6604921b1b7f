-- Relocatable objects: which bytes are which object, and the faults of bytes that are none (gABI, "Object Files"; psABI,
-- "Object Files"). That these faults are told, and their order, is this project's.
use Rattle.std.specs.Prelude.{◌≡◌, ℕ, if◌then◌else◌, List, [], ◌∷◌, ◌++◌, Option, Some, None}
use Rattle.cet_elf.specs.declared.error.ElfError.{ElfError}
use Rattle.cet_elf.specs.declared.object.Object.{Object}
use Rattle.cet_elf.specs.declared.object.Section.{Section}
use Rattle.cet_elf.specs.Below.{each_below, first_below}
use Rattle.cet_elf.specs.Faults.{first}
use Rattle.cet_elf.specs.Header.{header_faults, section_count}
use Rattle.cet_elf.specs.Sections.{section, stored, section_names, sections_faults}
use Rattle.cet_elf.specs.StringTable.{name_at}
use Rattle.cet_elf.specs.ObjectSections.{is_note, is_kept, class_of, align_of, support_faults}
use Rattle.cet_elf.specs.ObjectSymbols.{symbols_faults, symbols_of}
use Rattle.cet_elf.specs.ObjectRelocations.{relocations_faults, relocations_of}

-- The faults in the order in which they are looked for: the header; the places, then the names of all sections; the
-- sections of kinds that are not supported; the symbols; the relocations. Each is looked for where none stands before it,
-- so only the first says something of the file.
unfoldable pub object_faults : List ℕ → List ElfError
object_faults b =
    header_faults 1 b
    ++ sections_faults b
    ++ each_below (section_count b) (support_faults b)
    ++ symbols_faults b
    ++ relocations_faults b

unfoldable pub object_fault : List ℕ → Option ElfError
object_fault b = first (object_faults b)

-- Section i as a value. A group keeps its bytes and its size as any other section with stored bytes does.
unfoldable pub section_of : List ℕ → ℕ → Section
section_of b i = record {
  name = name_at (section_names b) (section b i).name;
  class = class_of (section b i);
  align = align_of (section b i);
  size = (section b i).size;
  bytes = stored b (section b i);
  relocations = relocations_of b i;
}

abbrev pub kept_section : List ℕ → ℕ → List Section
kept_section b i = if is_kept b i then section_of b i ∷ [] else []

unfoldable pub sections_of : List ℕ → List Section
sections_of b = each_below (section_count b) (kept_section b)

-- the bytes of a section, where there is one
abbrev pub bytes_of : List ℕ → Option ℕ → Option (List ℕ)
bytes_of b None = None
bytes_of b (Some i) = Some (stored b (section b i))

-- the bytes of the note
unfoldable pub notes_of : List ℕ → Option (List ℕ)
notes_of b = bytes_of b (first_below (section_count b) (is_note b))

-- the object that bytes without a fault are
unfoldable pub object_of : List ℕ → Object
object_of b = record { sections = sections_of b; symbols = symbols_of b; notes = notes_of b }

-- the bytes are the object
pub record IsObjectFile (b : List ℕ) (o : Object) : Type 0 where
  pub no_fault : object_faults b ≡ []
  pub is_object : o ≡ object_of b
