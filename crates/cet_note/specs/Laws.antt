-- What holds of notes and their bytes, whatever the code.
use Rattle.std.specs.Prelude.{◌≡◌, ℕ, List, Ok}
use Rattle.cet_note.specs.Note.{Note, IsNote}
use Rattle.cet_note.specs.Form.{IsForm, written}
use Rattle.cet_note.specs.Fault.{note_in}
use Rattle.cet_note.specs.Merged.{IsMerged}

-- what is written for a note is read as that note
abbrev pub WrittenReadsBack : Type 0
WrittenReadsBack = (note : Note) → IsNote note → note_in (written note) ≡ Ok note

-- and it is a form of the note
abbrev pub WrittenIsForm : Type 0
WrittenIsForm = (note : Note) → IsNote note → IsForm (written note) note

-- bytes are a form of one note at most
abbrev pub OneNote : Type 0
OneNote = (bytes : List ℕ) (m n : Note) → IsForm bytes m → IsForm bytes n → m ≡ n

-- notes merge to one note at most
abbrev pub OneMerge : Type 0
OneMerge = (notes : List Note) (m n : Note) → IsMerged notes m → IsMerged notes n → m ≡ n
