-- The bytes of a property note: the note header of the ELF gABI, "Note Section", and as descriptor the properties
-- of the System V x86-64 psABI, "Program Property". All fields are little-endian.
use Rattle.std.specs.Prelude.{◌≡◌, ℕ, ◌-◌, ◌%◌, ◌<◌, ◌^◌, if◌then◌else◌, IsTrue, List, [], ◌∷◌, ◌++◌, length, map, codes, All, ◌⊎◌, replicate}
use Rattle.std.specs.List.{flat_map}
use Rattle.std.specs.List.Sorted.{IsStrictlyIncreasing}
use Rattle.byteorder.specs.Endian.{little_bytes}
use Rattle.cet_base.specs.Field.{little_endian}
use Rattle.cet_note.specs.Note.{Property, Note, is_word_type}

abbrev pub word_bytes : ℕ → List ℕ
word_bytes n = little_bytes 4 n

-- how many bytes of padding stand after `size` bytes of data: up to the next multiple of 8
abbrev pub padding_of : ℕ → ℕ
padding_of size = (8 - size % 8) % 8

-- a property as it stands in a descriptor: pr_type, pr_data and pr_padding
pub record Stored : Type 0 where
  pub kind : ℕ
  pub content : List ℕ
  pub padding : List ℕ

-- its bytes: pr_type, pr_datasz, pr_data, pr_padding
abbrev pub stored_bytes : Stored → List ℕ
stored_bytes s = word_bytes s.kind ++ (word_bytes (length s.content) ++ (s.content ++ s.padding))

abbrev pub descriptor : List Stored → List ℕ
descriptor properties = flat_map stored_bytes properties

-- namesz, descsz, type (NT_GNU_PROPERTY_TYPE_0) and the name, `GNU` and a zero byte
abbrev pub header : ℕ → List ℕ
header descriptor_size = word_bytes 4 ++ (word_bytes descriptor_size ++ (word_bytes 5 ++ (codes "GNU" ++ 0 ∷ [])))

abbrev pub note_bytes : List Stored → List ℕ
note_bytes properties = header (length (descriptor properties)) ++ descriptor properties

-- the fields of a stored property hold their values, and the data of a type of the three ranges is a word
pub record IsStored (s : Stored) : Type 0 where
  pub type_fits : s.kind < 2 ^ 32
  pub size_fits : length s.content < 2 ^ 32
  pub is_word : IsTrue (is_word_type s.kind) → length s.content ≡ 4
  pub is_padded : length s.padding ≡ padding_of (length s.content)

-- what makes a list of stored properties a descriptor
pub record IsDescriptor (properties : List Stored) : Type 0 where
  pub each : All IsStored properties
  pub ascending : IsStrictlyIncreasing (map (λ s. s.kind) properties)
  pub size_fits : length (descriptor properties) < 2 ^ 32

-- the properties of the three ranges among the stored ones
abbrev pub words_among : List Stored → Note
words_among [] = []
words_among (s ∷ others) = if is_word_type s.kind then (s.kind, little_endian s.content) ∷ words_among others else words_among others

-- The bytes are the note: none for an empty note, or a note header and a descriptor with these properties of the three
-- ranges.
abbrev pub IsForm : List ℕ → Note → Type 0
IsForm bytes note = ((bytes ≡ []) × (note ≡ [])) ⊎ ((properties : List Stored) × IsDescriptor properties × (bytes ≡ note_bytes properties) × (note ≡ words_among properties))

-- a property as it is written: with zero bytes as padding
abbrev pub stored_of : Property → Stored
stored_of property = record { kind = property.0; content = word_bytes property.1; padding = replicate 4 0 }

-- the bytes that are written for a note
abbrev pub written : Note → List ℕ
written [] = []
written (property ∷ others) = note_bytes (map stored_of (property ∷ others))
