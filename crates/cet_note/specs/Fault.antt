-- Reading a property note from left to right, field by field, up to the first field that breaks a rule: what computes
-- the note of `Form` and the fault of `FirstFault`. The fields are those of the ELF gABI, "Note Section", and of the
-- System V x86-64 psABI, "Program Property".
use Rattle.std.specs.Prelude.{◌≡◌, ℕ, zero, suc, ◌+◌, ◌%◌, Bool, nat_lt, nat_le, ◌==◌, not, ◌&&◌, ◌||◌, if◌then◌else◌, List, [], ◌∷◌, length, take, drop, Option, Some, None, Result, Ok, Err}
use Rattle.cet_base.specs.Field.{field, little_endian}
use Rattle.cet_note.specs.declared.fault.NoteError.{NoteError}
use Rattle.cet_note.specs.declared.fault.NoteError.TheVariants as errors
use Rattle.cet_note.specs.declared.fault.NoteError.TheVariants.{Cut, Name, Kind, Size, Order, Twice}
use Rattle.cet_note.specs.Note.{Note, is_word_type}
use Rattle.cet_note.specs.Form.{padding_of}

infixl 10 ◌>>=◌
abbrev pub ◌>>=◌ : {A B : Type 0} → Result A NoteError → (A → Result B NoteError) → Result B NoteError
(Ok x) >>= f = f x
(Err e) >>= f = Err e

-- the rule holds, or this fault is found
abbrev pub demand : Bool → NoteError → Result (Unit {0}) NoteError
demand rule fault = if rule then Ok tt else Err fault

-- the word of 4 bytes at `at`; any field that passes the end of the input is Cut
abbrev pub word_at : List ℕ → ℕ → Result ℕ NoteError
word_at bytes at = if nat_le (at + 4) (length bytes) then Ok (little_endian (take 4 (drop at bytes))) else Err (Cut at)

-- the `size` bytes at `at`
abbrev pub bytes_at : List ℕ → ℕ → ℕ → Result (List ℕ) NoteError
bytes_at bytes at size = if nat_le (at + size) (length bytes) then Ok (take size (drop at bytes)) else Err (Cut at)

-- the size of the descriptor, from a header that keeps its rules
unfoldable pub header_in : List ℕ → Result ℕ NoteError
header_in bytes = do
  name_size ← word_at bytes 0
  _ ← demand (name_size == 4) (Name 0)
  size ← word_at bytes 4
  _ ← demand (size % 8 == 0) (Size 4)
  kind ← word_at bytes 8
  _ ← demand (kind == 5) (Kind 8)
  name ← word_at bytes 12
  _ ← demand (name == 0x00554e47) (Name 12)
  Ok size

-- a type stands above the last one, if there is one
abbrev pub above : Option ℕ → ℕ → ℕ → Result (Unit {0}) NoteError
above None kind at = Ok tt
above (Some last) kind at = if nat_lt last kind then Ok tt else if last == kind then Err (Twice at) else Err (Order at)

-- the data and padding of a property whose size field is at `at` end within the descriptor, and a word has 4 bytes
abbrev pub size_fits : ℕ → ℕ → ℕ → ℕ → Bool
size_fits end kind size at = nat_le (at + 4 + size + padding_of size) end && (not (is_word_type kind) || size == 4)

-- a property as it is read: its type, the size of its data, and its word, if its type is of the three ranges
pub record Entry : Type 0 where
  pub kind : ℕ
  pub size : ℕ
  pub word : Option ℕ

-- the property at `at` of a descriptor that ends at `end`, after one of the type `last`
unfoldable pub property_in : List ℕ → ℕ → Option ℕ → ℕ → Result Entry NoteError
property_in bytes end last at = do
  kind ← word_at bytes at
  _ ← above last kind at
  size ← word_at bytes (at + 4)
  _ ← demand (size_fits end kind size (at + 4)) (Size (at + 4))
  content ← bytes_at bytes (at + 8) size
  _ ← bytes_at bytes (at + 8 + size) (padding_of size)
  Ok (record { kind = kind; size = size; word = if is_word_type kind then field 4 content 0 else None })

-- where the next property begins, after one at `at` with data of this size
abbrev pub next_at : ℕ → ℕ → ℕ
next_at at size = at + 8 + size + padding_of size

-- the note with one more property in front, if it has a word
abbrev pub with_word : ℕ → Option ℕ → Note → Note
with_word kind None note = note
with_word kind (Some bits) note = (kind, bits) ∷ note

-- the properties from `at` to the end of the descriptor, which are at most n
unfoldable pub properties_in : ℕ → List ℕ → ℕ → Option ℕ → ℕ → Result Note NoteError
properties_in zero bytes end last at = Ok []
properties_in (suc n) bytes end last at = if nat_le end at then Ok [] else (do
  entry ← property_in bytes end last at
  others ← properties_in n bytes end (Some entry.kind) (next_at at entry.size)
  Ok (with_word entry.kind entry.word others))

-- The note that the bytes are, or else the first fault, with the offset of its field.
unfoldable pub note_in : List ℕ → Result Note NoteError
note_in [] = Ok []
note_in (byte ∷ rest) = do
  size ← header_in (byte ∷ rest)
  note ← properties_in size (byte ∷ rest) (16 + size) None 16
  _ ← demand (nat_le (length (byte ∷ rest)) (16 + size)) (Size (16 + size))
  Ok note

-- what a call answered, seen by `view`, is what reading gives, unless memory ran out
abbrev pub Fails : {Y : Type 0} → NoteError → Result Y NoteError → Type 0
Fails errors.NoMemory reading = Unit {0}
Fails fault reading = reading ≡ Err fault

abbrev pub Gives : {X Y : Type 0} → (X → Y) → Result X NoteError → Result Y NoteError → Type 0
Gives view (Ok x) reading = reading ≡ Ok (view x)
Gives view (Err fault) reading = Fails fault reading
