-- Where sections stand in memory: this project's own. The classes are Code, Read and Write, with the sections of zeros behind those of
-- Write. In a class sections stand by input and then by index, each at the next multiple of its alignment.
use Rattle.std.specs.Prelude.{ℕ, ◌+◌, Bool, true, false, if◌then◌else◌, List, [], ◌∷◌, ◌++◌, length, take, Option, slice_get}
use Rattle.std.specs.Int.{next_multiple_of}
use Rattle.std.specs.List.{flat_map}
use Rattle.std.specs.Option.{option_map_or}
use Rattle.cet_elf.specs.declared.object.Class.{Class}
use Rattle.cet_elf.specs.declared.object.Class.TheVariants.{Code, Read, Write, Zero, Group}
use Rattle.cet_elf.specs.declared.object.Object.{Object}
use Rattle.cet_elf.specs.declared.object.Section.{Section}

abbrev pub is_class : Class → Class → Bool
is_class Code Code = true
is_class Read Read = true
is_class Write Write = true
is_class Zero Zero = true
is_class Group Group = true
is_class _ _ = false

-- the least multiple of the section's alignment that is not below this end of what stands before it
abbrev pub start_behind : ℕ → Section → ℕ
start_behind end s = next_multiple_of end s.align

-- where what stands before ends, and the sections of a class behind it
abbrev pub end_behind : Class → ℕ → List Section → ℕ
end_behind class end [] = end
end_behind class end (s ∷ others) = end_behind class (if is_class class s.class then start_behind end s + s.size else end) others

-- the sections of all inputs
unfoldable pub all_sections : List Object → List Section
all_sections inputs = flat_map (λ o. o.sections) inputs

-- where each class starts and ends. The merged note, where not empty, stands first in Read
unfoldable pub code_start : ℕ
code_start = 0x401000

unfoldable pub code_end : List Object → ℕ
code_end inputs = end_behind Code code_start (all_sections inputs)

-- a class starts at the least multiple of 4,096 that is not below the end of the one before, also of an empty one
unfoldable pub read_start : List Object → ℕ
read_start inputs = next_multiple_of (code_end inputs) 4096

unfoldable pub note_end : List Object → List ℕ → ℕ
note_end inputs note = read_start inputs + length note

unfoldable pub read_end : List Object → List ℕ → ℕ
read_end inputs note = end_behind Read (note_end inputs note) (all_sections inputs)

unfoldable pub write_start : List Object → List ℕ → ℕ
write_start inputs note = next_multiple_of (read_end inputs note) 4096

-- where the stored sections of Write end, and the zeros behind them
unfoldable pub stored_end : List Object → List ℕ → ℕ
stored_end inputs note = end_behind Write (write_start inputs note) (all_sections inputs)

unfoldable pub write_end : List Object → List ℕ → ℕ
write_end inputs note = end_behind Zero (stored_end inputs note) (all_sections inputs)

-- behind what the sections of a class stand. A group stands nowhere
unfoldable pub front_of : List Object → List ℕ → Class → ℕ
front_of inputs note Code = code_start
front_of inputs note Read = note_end inputs note
front_of inputs note Write = write_start inputs note
front_of inputs note Zero = stored_end inputs note
front_of inputs note Group = 0

-- a section of an input, and the sections before it
abbrev pub sections_of : List Object → ℕ → List Section
sections_of inputs input = option_map_or (λ o. o.sections) (slice_get inputs input) []

abbrev pub section_at : List Object → ℕ → ℕ → Option Section
section_at inputs input number = slice_get (sections_of inputs input) number

abbrev pub sections_before : List Object → ℕ → ℕ → List Section
sections_before inputs input number = all_sections (take input inputs) ++ take number (sections_of inputs input)

-- The place of a section: the least multiple of its alignment that is not below the end of what stands before it in its class
unfoldable pub place : List Object → List ℕ → ℕ → ℕ → ℕ
place inputs note input number =
    option_map_or (λ s. start_behind (end_behind s.class (front_of inputs note s.class) (sections_before inputs input number)) s) (section_at inputs input number) 0
