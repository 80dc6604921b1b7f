-- What the parts of a layout and tables of places and of values say: this project's own.
use Rattle.std.specs.Prelude.{◌≡◌, ℕ, ◌+◌, ◌-◌, false, if◌then◌else◌, List, ◌++◌, length, map, take, slice_get, slice_index, All, Vec}
use Rattle.std.specs.Global.{Global}
use Rattle.std.specs.List.{enumerate_from}
use Rattle.std.specs.Option.{option_map_or}
use Rattle.cet_elf.specs.declared.object.Class.{Class}
use Rattle.cet_elf.specs.declared.object.Class.TheVariants as classes
use Rattle.cet_elf.specs.declared.object.Object.{Object}
use Rattle.cet_elf.specs.declared.object.Section.{Section}
use Rattle.cet_elf.specs.Consistent.{IsAlignment}
use Rattle.cet_link.specs.declared.layout.Ends.{Ends}
use Rattle.cet_link.specs.declared.layout.Frame.{Frame}
use Rattle.cet_link.specs.declared.names.Names.{Names}
use Rattle.cet_link.specs.declared.values.Tables.{Tables}
use Rattle.cet_elf.specs.declared.object.Rela.{Rela}
use Rattle.cet_link.specs.Inputs.{Part, symbols}
use Rattle.cet_link.specs.Linked.{bytes_behind}
use Rattle.cet_link.specs.Patched.{field, last_over}
use Rattle.cet_link.specs.Known.{AreNames}
use Rattle.cet_link.specs.Places.{is_class, start_behind, end_behind, sections_before, section_at, place, code_end, read_start, note_end, read_end, write_start, stored_end, write_end}
use Rattle.cet_link.specs.Values.{value_at}

-- the addresses where the classes start and end
pub record IsFrame (inputs : List Object) (note : List ℕ) (f : Frame) : Type 0 where
  pub code_end : f.code_end ≡ code_end inputs
  pub read_start : f.read_start ≡ read_start inputs
  pub note_end : f.note_end ≡ note_end inputs note
  pub read_end : f.read_end ≡ read_end inputs note
  pub write_start : f.write_start ≡ write_start inputs note
  pub stored_end : f.stored_end ≡ stored_end inputs note
  pub write_end : f.write_end ≡ write_end inputs note

-- where a class ends behind a section more
abbrev pub end_after : Class → ℕ → Section → ℕ
end_after class end s = if is_class class s.class then start_behind end s + s.size else end

-- where the class ends so far. A group stands nowhere
abbrev pub end_in : Ends → Class → ℕ
end_in e classes.Code = e.code
end_in e classes.Read = e.read
end_in e classes.Write = e.write
end_in e classes.Zero = e.zero
end_in e classes.Group = 0

-- a section that has a place in memory
pub record IsPlaceable (s : Section) : Type 0 where
  pub align : IsAlignment s.align
  pub no_group : is_class classes.Group s.class ≡ false

-- no section is a group
abbrev pub NoGroups : List Object → Type 0
NoGroups inputs = All (λ (o : Object). All (λ (s : Section). is_class classes.Group s.class ≡ false) o.sections) inputs

-- the place of a section behind the ones before it in a list, where the classes end there in front of them
abbrev pub place_among : (Class → ℕ) → List Section → ℕ → ℕ
place_among front sections number =
    option_map_or (λ s. start_behind (end_behind s.class (front s.class) (take number sections)) s) (slice_get sections number) 0

-- the same in a list of inputs
abbrev pub place_in : (Class → ℕ) → List Object → ℕ → ℕ → ℕ
place_in front inputs input number =
    option_map_or (λ s. start_behind (end_behind s.class (front s.class) (sections_before inputs input number)) s) (section_at inputs input number) 0

-- the number in a row and column of a table, or 0 where there is none
abbrev pub cell : List (Vec ℕ Global) → ℕ → ℕ → ℕ
cell rows row column = option_map_or (λ (r : Vec ℕ Global). slice_index r.items column) (slice_get rows row) 0

-- the places of the sections of each input
abbrev pub ArePlaces : List Object → List ℕ → List (Vec ℕ Global) → Type 0
ArePlaces inputs note rows = (input number : ℕ) → cell rows input number ≡ place inputs note input number

-- the values of the symbols of each input
abbrev pub AreValues : List Object → List ℕ → List (Vec ℕ Global) → Type 0
AreValues inputs note rows = (input number : ℕ) → cell rows input number ≡ value_at inputs note input number

-- the tables of a link
pub record AreTables (inputs : List Object) (note : List ℕ) (tables : Tables) : Type 0 where
  pub placed : ArePlaces inputs note tables.places.items
  pub valued : AreValues inputs note tables.values.items

-- places and names, from which values follow
pub record AreKnown (inputs : List Object) (note : List ℕ) (places : List (Vec ℕ Global)) (names : Names) : Type 0 where
  pub placed : ArePlaces inputs note places
  pub named : AreNames (symbols inputs) names

-- a byte of a section after these relocations
abbrev pub patched_by : List Object → List ℕ → Part → List Rela → ℕ → ℕ → ℕ
patched_by inputs note p rs at byte = option_map_or (λ r. slice_index (field inputs note p r) (at - r.offset)) (last_over at rs) byte

-- the sections of an input with this number
abbrev pub parts_in : ℕ → List Section → List Part
parts_in input ss = map (λ i. record { input = input; number = i.0; section = i.1 }) (enumerate_from 0 ss)

-- the bytes of a class grew by those of these parts: what is still to come makes the same whole before and after
abbrev pub Gains : List Object → List ℕ → Class → ℕ → List ℕ → List ℕ → List Part → Type 0
Gains inputs note class start old new parts =
    (others : List Part)
    → old ++ bytes_behind inputs note class (start + length old) (parts ++ others) ≡ new ++ bytes_behind inputs note class (start + length new) others
