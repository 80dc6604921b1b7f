-- The first fault of a property note, row by row: the input begins with fields that keep their rules, and the field
-- behind them breaks its own, or passes the end of the input. The offset is that of the field. The fields and their rules
-- are those of the ELF gABI, "Note Section", and of the System V x86-64 psABI, "Program Property"; that a field which
-- passes the end comes before its rule, and which fault names a rule, is this project's.
use Rattle.std.specs.Prelude.{◌≡◌, ◌≢◌, ℕ, ◌+◌, ◌%◌, ◌<◌, ◌≤◌, ◌^◌, IsTrue, List, [], ◌∷◌, ◌++◌, length, take, map, codes, Option, Some, None, All, ◌⊎◌}
use Rattle.std.specs.List.Sorted.{IsStrictlyIncreasing}
use Rattle.cet_base.specs.Field.{little_endian}
use Rattle.cet_note.specs.declared.fault.NoteError.{NoteError}
use Rattle.cet_note.specs.declared.fault.NoteError.TheVariants.{Cut, Name, Kind, Size, Order, Twice}
use Rattle.cet_note.specs.Note.{is_word_type}
use Rattle.cet_note.specs.Form.{word_bytes, padding_of, Stored, descriptor, header, IsStored}

-- The fields of a note, with what their rules ask for: the type of the property before; the type whose size it is, and
-- how many bytes of the descriptor stand behind the field; the size of the data.
pub data Row : Type 0 where
  name_size : Row
  descriptor_size : Row
  note_type : Row
  note_name : Row
  property_type : Option ℕ → Row
  property_size : ℕ → ℕ → Row
  content : ℕ → Row
  padding : ℕ → Row
  note_end : Row

-- a size of the descriptor that keeps its rule
pub record IsSize (size : ℕ) : Type 0 where
  pub fits : size < 2 ^ 32
  pub whole : size % 8 ≡ 0

-- properties that keep their rules
pub record AreProperties (properties : List Stored) : Type 0 where
  pub each : All IsStored properties
  pub ascending : IsStrictlyIncreasing (map (λ s. s.kind) properties)

-- the type of the last property, or `last` where there is none
abbrev pub last_type : Option ℕ → List Stored → Option ℕ
last_type last [] = last
last_type last (s ∷ others) = last_type (Some s.kind) others

-- the last type, if there is one, is below this one
abbrev pub Below : Option ℕ → ℕ → Type 0
Below None kind = Unit {0}
Below (Some last) kind = last < kind

-- the size of the data of a property, where `left` bytes of the descriptor stand behind the size
abbrev pub FitsIn : ℕ → ℕ → ℕ → Type 0
FitsIn kind left size = (size + padding_of size ≤ left) × (IsTrue (is_word_type kind) → size ≡ 4)

-- the fields before the size of a property of type `kind`
abbrev pub SizeFront : ℕ → ℕ → List ℕ → Type 0
SizeFront kind left front = (size : ℕ) × (properties : List Stored) × IsSize size × AreProperties properties × (kind < 2 ^ 32) × Below (last_type None properties) kind
    × (length (descriptor properties) + 8 + left ≡ size) × (front ≡ header size ++ (descriptor properties ++ word_bytes kind))

-- the fields before the data of a property
abbrev pub ContentFront : ℕ → List ℕ → Type 0
ContentFront size front = (kind : ℕ) × (left : ℕ) × (before : List ℕ) × SizeFront kind left before × (size < 2 ^ 32) × FitsIn kind left size × (front ≡ before ++ word_bytes size)

-- the bytes that may stand before a field: fields that keep their rules
abbrev pub Front : Row → List ℕ → Type 0
Front name_size front = front ≡ []
Front descriptor_size front = front ≡ word_bytes 4
Front note_type front = (size : ℕ) × IsSize size × (front ≡ word_bytes 4 ++ word_bytes size)
Front note_name front = (size : ℕ) × IsSize size × (front ≡ word_bytes 4 ++ (word_bytes size ++ word_bytes 5))
Front (property_type last) front = (size : ℕ) × (properties : List Stored) × IsSize size × AreProperties properties × (last ≡ last_type None properties)
    × (length (descriptor properties) < size) × (front ≡ header size ++ descriptor properties)
Front (property_size kind left) front = SizeFront kind left front
Front (content size) front = ContentFront size front
Front (padding size) front = (before : List ℕ) × (bytes : List ℕ) × ContentFront size before × (length bytes ≡ size) × (front ≡ before ++ bytes)
Front note_end front = (size : ℕ) × (properties : List Stored) × IsSize size × AreProperties properties × (length (descriptor properties) ≡ size) × (front ≡ header size ++ descriptor properties)

-- the size of a field
abbrev pub width : Row → ℕ
width (content size) = size
width (padding size) = padding_of size
width note_end = 0
width _ = 4

-- a field whose number is n, with the input from it on, breaks its rule
abbrev pub BreaksRule : Row → ℕ → List ℕ → ℕ → NoteError → Type 0
BreaksRule name_size n rest at fault = (n ≢ 4) × (fault ≡ Name at)
BreaksRule descriptor_size n rest at fault = (n % 8 ≢ 0) × (fault ≡ Size at)
BreaksRule note_type n rest at fault = (n ≢ 5) × (fault ≡ Kind at)
BreaksRule note_name n rest at fault = (take 4 rest ≢ codes "GNU" ++ 0 ∷ []) × (fault ≡ Name at)
BreaksRule (property_type None) n rest at fault = ⊥
BreaksRule (property_type (Some last)) n rest at fault = ((n ≡ last) × (fault ≡ Twice at)) ⊎ ((n < last) × (fault ≡ Order at))
BreaksRule (property_size kind left) n rest at fault = (FitsIn kind left n → ⊥) × (fault ≡ Size at)
BreaksRule (content size) n rest at fault = ⊥
BreaksRule (padding size) n rest at fault = ⊥
BreaksRule note_end n rest at fault = (rest ≢ []) × (fault ≡ Size at)

-- a field passes the end of the input or breaks its rule
abbrev pub Breaks : Row → List ℕ → ℕ → NoteError → Type 0
Breaks row rest at fault = ((length rest < width row) × (fault ≡ Cut at)) ⊎ ((width row ≤ length rest) × BreaksRule row (little_endian (take 4 rest)) rest at fault)

-- the first fault of an input that is not empty
abbrev pub IsFirstFault : List ℕ → NoteError → Type 0
IsFirstFault bytes fault = (bytes ≢ []) × (row : Row) × (front : List ℕ) × (rest : List ℕ) × Front row front × (bytes ≡ front ++ rest) × Breaks row rest (length front) fault
