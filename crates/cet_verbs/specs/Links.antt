-- What `link` links, and the line that says why objects are not linked.
use Rattle.std.specs.Prelude.{◌≡◌, ℕ, List, [], ◌++◌, codes, Option, unwrap_or, slice_get, Ok}
use Rattle.std.specs.Option.{option_map_or}
use Rattle.std.specs.Fmt.{decimal}
use Rattle.cet_base.specs.Files.{Contents}
use Rattle.cet_base.specs.Text.{line}
use Rattle.cet_elf.specs.declared.object.Object.{Object}
use Rattle.cet_elf.specs.ObjectFile.{IsObjectFile}
use Rattle.cet_elf.specs.declared.exec.Exec.{Exec}
use Rattle.cet_link.specs.declared.error.LinkError.{LinkError}
use Rattle.cet_link.specs.declared.error.LinkError.TheVariants as errors
use Rattle.cet_link.specs.Links.{IsLinked, IsLinkFault}
use Rattle.cet_link.specs.Notes.{reading}
use Rattle.cet_link.specs.Places.{section_at}
use Rattle.cet_note.specs.Note.{Note}
use Rattle.cet_verbs.specs.Held.{HoldsBytes}
use Rattle.cet_verbs.specs.Notes.{AllBoth}

-- ---- what the files hold

-- the file of this name holds the object
abbrev pub HoldsObject : Option Contents → List ℕ → Object → Type 0
HoldsObject files name o = (bytes : List ℕ) × HoldsBytes files name bytes × IsObjectFile bytes o

-- each file holds the object at its place
abbrev pub HoldObjects : Option Contents → List (List ℕ) → List Object → Type 0
HoldObjects files names objects = AllBoth (HoldsObject files) names objects

-- the bytes are an object with this note, which is empty where there is none
abbrev pub HasObjectNote : List ℕ → Note → Type 0
HasObjectNote bytes note = (object : Object) × IsObjectFile bytes object × (reading object ≡ Ok note)

-- the files hold objects that are linked to the executable, which starts at the symbol `start`
abbrev pub HoldLinked : Option Contents → List ℕ → List (List ℕ) → Exec → Type 0
HoldLinked files start names exec = (objects : List Object) × HoldObjects files names objects × IsLinked objects start exec

-- ---- why they are not linked

-- the fault is one of the link, and of no single file
abbrev pub IsOfLink : LinkError → Type 0
IsOfLink (errors.Note input error) = ⊥
IsOfLink errors.NoMemory = ⊥
IsOfLink fault = Unit {0}

-- the word of the input of this number
abbrev pub word_at : List (List ℕ) → ℕ → List ℕ
word_at names input = unwrap_or (slice_get names input) []

-- the name of a section of an input
abbrev pub section_name : List Object → ℕ → ℕ → List ℕ
section_name objects input number = option_map_or (λ s. s.name) (section_at objects input number) []

-- what is told of the fault, the inputs by their words
abbrev pub fault_text : List (List ℕ) → List Object → LinkError → List ℕ
fault_text names objects (errors.Group input) = codes "group " ++ word_at names input
fault_text names objects (errors.Common name input) = codes "common " ++ name ++ codes " " ++ word_at names input
fault_text names objects (errors.Duplicate name one other) = codes "duplicate " ++ name ++ codes " " ++ word_at names one ++ codes " " ++ word_at names other
fault_text names objects (errors.Undefined name input) = codes "undefined " ++ name ++ codes " " ++ word_at names input
fault_text names objects errors.TooLarge = codes "toolarge"
fault_text names objects (errors.Overflow input section offset) = codes "overflow " ++ word_at names input ++ codes " " ++ section_name objects input section ++ codes " " ++ decimal offset
fault_text names objects fault = []

-- The line. That of an entry which is not there names the entry
abbrev pub fault_line : List ℕ → List (List ℕ) → List Object → LinkError → List ℕ
fault_line start names objects errors.NoEntry = line (codes "noentry " ++ start)
fault_line start names objects fault = line (fault_text names objects fault)

-- the files hold objects whose link has this fault first, and this is its line
abbrev pub HoldUnlinked : Option Contents → List ℕ → List (List ℕ) → List ℕ → Type 0
HoldUnlinked files start names text =
    (objects : List Object) × (fault : LinkError) × HoldObjects files names objects × IsLinkFault objects start fault × IsOfLink fault
    × (text ≡ fault_line start names objects fault)
