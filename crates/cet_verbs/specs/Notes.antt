-- Property notes in files, and the text that is printed of them, which is this project's own.
use Rattle.std.specs.Prelude.{◌≡◌, ℕ, ◌==◌, ◌&&◌, IsTrue, nat_eq, Bool, true, false, List, [], ◌∷◌, ◌++◌, map, codes, Option, unwrap_or, Vec, ◌⊎◌}
use Rattle.std.specs.List.{flat_map, starts_with}
use Rattle.std.specs.Global.{Global}
use Rattle.byteorder.specs.Endian.{big_bytes}
use Rattle.hex.specs.Hex.{encode_lower}
use Rattle.cet_base.specs.Files.{Contents}
use Rattle.cet_base.specs.Text.{line}
use Rattle.cet_elf.specs.declared.exec.Exec.{Exec}
use Rattle.cet_elf.specs.declared.object.Object.{Object}
use Rattle.cet_elf.specs.Fields.{half, is_part}
use Rattle.cet_elf.specs.ObjectFile.{IsObjectFile}
use Rattle.cet_exec.specs.ExecFile.{IsExecFile}
use Rattle.cet_note.specs.Note.{Property, Note}
use Rattle.cet_note.specs.Form.{IsForm}
use Rattle.cet_verbs.specs.Held.{HoldsBytes}

-- ---- files

-- the bytes begin as an ELF file does (ELF gABI, "ELF Identification")
abbrev pub BeginsElf : List ℕ → Type 0
BeginsElf bytes = IsTrue (starts_with nat_eq bytes (0x7f ∷ codes "ELF"))

-- e_type, the two bytes at 16, is there and is ET_EXEC (ELF gABI, "ELF Header")
abbrev pub has_exec_type : List ℕ → Bool
has_exec_type bytes = is_part bytes 16 2 && half bytes 16 == 2

-- the file is to be an executable
abbrev pub BeginsExec : List ℕ → Type 0
BeginsExec bytes = BeginsElf bytes × (has_exec_type bytes ≡ true)

-- any other ELF file is to be an object
abbrev pub BeginsObject : List ℕ → Type 0
BeginsObject bytes = BeginsElf bytes × (has_exec_type bytes ≡ false)

-- the bytes of a file have these as its note: of an object those of its note section, of an executable those of its PT_GNU_PROPERTY, or none
-- where it has none, and of any other file all
abbrev pub HasNoteBytes : List ℕ → List ℕ → Type 0
HasNoteBytes bytes part =
    (¬ BeginsElf bytes × (part ≡ bytes))
    ⊎ (BeginsObject bytes × ((o : Object) × IsObjectFile bytes o × (part ≡ unwrap_or o.notes [])))
    ⊎ (BeginsExec bytes × ((e : Exec) × IsExecFile bytes e × (part ≡ unwrap_or e.notes [])))

-- the note of a file of these bytes. No bytes are the empty note
abbrev pub IsFileNote : List ℕ → Note → Type 0
IsFileNote bytes note = (part : List ℕ) × HasNoteBytes bytes part × IsForm part note

-- the bytes in each of these
abbrev pub items_of : List (Vec ℕ Global) → List (List ℕ)
items_of held = map (λ (v : Vec ℕ Global). v.items) held

-- the lists are of one length, and R holds of the two items at each place
abbrev pub AllBoth : {A B : Type 0} → (A → B → Type 0) → List A → List B → Type 0
AllBoth R [] [] = Unit {0}
AllBoth R (a ∷ others) (b ∷ rest) = R a b × AllBoth R others rest
AllBoth R others rest = ⊥

-- the file of this name holds the note
abbrev pub HoldsNote : Option Contents → List ℕ → Note → Type 0
HoldsNote files name note = (bytes : List ℕ) × HoldsBytes files name bytes × IsFileNote bytes note

-- each file holds the note at its place
abbrev pub HoldNotes : Option Contents → List (List ℕ) → List Note → Type 0
HoldNotes files names notes = AllBoth (HoldsNote files) names notes

-- ---- text

-- eight lower-case hexadecimal digits after 0x
abbrev pub word_text : ℕ → List ℕ
word_text word = codes "0x" ++ encode_lower (big_bytes 4 word)

-- a property: its type, then its word
abbrev pub property_text : Property → List ℕ
property_text property = word_text property.0 ++ codes "=" ++ word_text property.1

-- the properties of the note, in its order, after a space each; `none` where there is none
abbrev pub note_text : Note → List ℕ
note_text [] = codes " none"
note_text (first ∷ others) = flat_map (λ property. codes " " ++ property_text property) (first ∷ others)

-- the line of a note, under a name
abbrev pub note_line : List ℕ → Note → List ℕ
note_line name note = line (name ++ codes ":" ++ note_text note)

-- the lines of the notes, each under the name of its file
abbrev pub note_lines : List (List ℕ) → List Note → List ℕ
note_lines (name ∷ names) (note ∷ notes) = note_line name note ++ note_lines names notes
note_lines names notes = []

-- and last the line of their merge
abbrev pub notes_text : List (List ℕ) → List Note → Note → List ℕ
notes_text names notes merged = note_lines names notes ++ note_line (codes "merged") merged
