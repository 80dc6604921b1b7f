-- Program properties, after the System V x86-64 psABI, "Program Property": a note is a list of properties, each with
-- a type of its own.
use Rattle.std.specs.Prelude.{◌≡◌, ℕ, ◌<◌, ◌^◌, ◌≢◌, Bool, ◌&&◌, ◌||◌, nat_le, ◌==◌, if◌then◌else◌, IsTrue, List, [], ◌∷◌, map, Option, Some, None, IsSome, unwrap_or, All}
use Rattle.std.specs.List.Sorted.{IsStrictlyIncreasing}

-- a property whose data is a word of 32 bits: its type, then the word
abbrev pub Property : Type 0
Property = ℕ × ℕ

abbrev pub Note : Type 0
Note = List Property

abbrev pub is_between : ℕ → ℕ → ℕ → Bool
is_between low high kind = nat_le low kind && nat_le kind high

-- The three ranges of types with such a word. Their names say how a link editor combines the words of its inputs:
-- GNU_PROPERTY_X86_UINT32_AND_LO to GNU_PROPERTY_X86_UINT32_AND_HI, and so for OR and OR_AND.
abbrev pub is_and : ℕ → Bool
is_and kind = is_between 0xc0000002 0xc0007fff kind

abbrev pub is_or : ℕ → Bool
is_or kind = is_between 0xc0008000 0xc000ffff kind

abbrev pub is_or_and : ℕ → Bool
is_or_and kind = is_between 0xc0010000 0xc0017fff kind

-- whether a type lies in one of the three
abbrev pub is_word_type : ℕ → Bool
is_word_type kind = is_and kind || is_or kind || is_or_and kind

-- the word of a type, or none where the note has no property of that type
abbrev pub word_of : Note → ℕ → Option ℕ
word_of [] kind = None
word_of (property ∷ others) kind = if property.0 == kind then Some property.1 else word_of others kind

-- the same, where an absent property sets no bit
abbrev pub bits_of : Note → ℕ → ℕ
bits_of note kind = unwrap_or (word_of note kind) 0

abbrev pub Has : Note → ℕ → Type 0
Has note kind = IsSome (word_of note kind)

-- the types and the words of a note, in its order
abbrev pub types : Note → List ℕ
types note = map (λ property. property.0) note

abbrev pub words : Note → List ℕ
words note = map (λ property. property.1) note

-- what makes a list of properties a note: the types ascend strictly and lie in the three ranges, and each word has 32 bits
pub record IsNote (note : Note) : Type 0 where
  pub ascending : IsStrictlyIncreasing (types note)
  pub types_known : All (λ kind. IsTrue (is_word_type kind)) (types note)
  pub words_fit : All (λ bits. bits < 2 ^ 32) (words note)

-- the new note has this word at the type, and at each other type what the old one has
pub record Sets (old new : Note) (kind bits : ℕ) : Type 0 where
  pub this_type : word_of new kind ≡ Some bits
  pub other_types : (other : ℕ) → other ≢ kind → word_of new other ≡ word_of old other
