-- The note that a link editor writes for the notes of its inputs, bit by bit (System V x86-64 psABI, "Program
-- Property": GNU_PROPERTY_X86_UINT32_AND, _OR and _OR_AND). An input without a note has the empty one.
use Rattle.std.specs.Prelude.{◌≡◌, ◌≢◌, ℕ, ◌↔◌, IsTrue, List, [], ◌∷◌, Option, Some, IsSome, unwrap_or, All, Any, IsBitSet}
use Rattle.cet_note.specs.Note.{Note, is_and, is_or, is_or_and, word_of, bits_of, Has, IsNote}

abbrev pub EveryNoteSets : List Note → ℕ → ℕ → Type 0
EveryNoteSets notes kind bit = All (λ note. IsBitSet (bits_of note kind) bit) notes

abbrev pub SomeNoteSets : List Note → ℕ → ℕ → Type 0
SomeNoteSets notes kind bit = Any (λ note. IsBitSet (bits_of note kind) bit) notes

-- a bit of a word, where an absent word sets none
abbrev pub HasBit : Option ℕ → ℕ → Type 0
HasBit word bit = IsBitSet (unwrap_or word 0) bit

-- AND: a bit is set where every note sets it, and a word without a set bit is absent
pub record IsAndOf (notes : List Note) (kind : ℕ) (word : Option ℕ) : Type 0 where
  pub bits : (bit : ℕ) → HasBit word bit ↔ EveryNoteSets notes kind bit
  pub no_zero : word ≢ Some 0

-- OR: a bit is set where some note sets it, and a word without a set bit is absent
pub record IsOrOf (notes : List Note) (kind : ℕ) (word : Option ℕ) : Type 0 where
  pub bits : (bit : ℕ) → HasBit word bit ↔ SomeNoteSets notes kind bit
  pub no_zero : word ≢ Some 0

-- OR_AND: the property is there where every note has it, and then a bit is set where some note sets it
pub record IsOrAndOf (notes : List Note) (kind : ℕ) (word : Option ℕ) : Type 0 where
  pub there : IsSome word ↔ All (λ note. Has note kind) notes
  pub bits : IsSome word → (bit : ℕ) → HasBit word bit ↔ SomeNoteSets notes kind bit

-- the note of one input or more
pub record IsMergedOf (notes : List Note) (merged : Note) : Type 0 where
  pub note : IsNote merged
  pub and : (kind : ℕ) → IsTrue (is_and kind) → IsAndOf notes kind (word_of merged kind)
  pub or : (kind : ℕ) → IsTrue (is_or kind) → IsOrOf notes kind (word_of merged kind)
  pub or_and : (kind : ℕ) → IsTrue (is_or_and kind) → IsOrAndOf notes kind (word_of merged kind)

-- the note of the inputs; no input gives the empty note
abbrev pub IsMerged : List Note → Note → Type 0
IsMerged [] merged = merged ≡ []
IsMerged (first ∷ others) merged = IsMergedOf (first ∷ others) merged
