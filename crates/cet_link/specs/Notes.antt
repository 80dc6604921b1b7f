-- The notes of the inputs, and those that cannot be read (psABI, "Program Property").
use Rattle.std.specs.Prelude.{◌≡◌, ℕ, List, [], ◌∷◌, unwrap_or, Result, Ok, Err}
use Rattle.std.specs.List.{flat_map, enumerate_from}
use Rattle.cet_note.specs.Note.{Note}
use Rattle.cet_note.specs.Fault.{note_in}
use Rattle.cet_note.specs.Form.{written}
use Rattle.cet_note.specs.Merged.{IsMerged}
use Rattle.cet_note.specs.declared.fault.NoteError.{NoteError}
use Rattle.cet_elf.specs.declared.object.Object.{Object}
use Rattle.cet_link.specs.declared.error.LinkError.{LinkError}
use Rattle.cet_link.specs.declared.error.LinkError.TheVariants as faults

-- the note of an input. One that is absent has no property
abbrev pub reading : Object → Result Note NoteError
reading o = note_in (unwrap_or o.notes [])

abbrev pub note_read : Result Note NoteError → List Note
note_read (Ok note) = note ∷ []
note_read (Err fault) = []

abbrev pub note_fault : ℕ → Result Note NoteError → List LinkError
note_fault input (Ok note) = []
note_fault input (Err fault) = faults.Note input fault ∷ []

unfoldable pub notes : List Object → List Note
notes inputs = flat_map (λ o. note_read (reading o)) inputs

unfoldable pub note_faults : List Object → List LinkError
note_faults inputs = flat_map (λ i. note_fault i.0 (reading i.1)) (enumerate_from 0 inputs)

-- the notes of all inputs can be read, and merge to a note with these bytes: those that are written for it
abbrev pub IsMergedNote : List Object → List ℕ → Type 0
IsMergedNote inputs bytes = (note_faults inputs ≡ []) × (note : Note) × IsMerged (notes inputs) note × (bytes ≡ written note)
