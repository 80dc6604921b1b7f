-- The note of an executable that was linked claims what all inputs claim.
use Rattle.std.proofs.Common.{◌≡◌, ℕ, ◌+◌, List, [], ◌∷◌, ◌++◌, Option, Result, Ok, Err, refl, sym, ap, subst, ◌∙◌}
use Rattle.std.specs.Prelude.{unwrap_or}
use Rattle.std.specs.List.{flat_map, enumerate_from}
use Rattle.cet_base.specs.Files.{Contents, FileMeets}
use Rattle.cet_note.specs.Note.{Note}
use Rattle.cet_note.specs.Fault.{note_in}
use Rattle.cet_note.specs.Form.{written}
use Rattle.cet_note.specs.Merged.{IsMerged}
use Rattle.cet_note.specs.declared.fault.NoteError.{NoteError}
use Rattle.cet_note.proofs.WholeNotes.{note-again}
use Rattle.cet_note.proofs.Written.{written-IsForm}
use Rattle.cet_elf.specs.declared.object.Object.{Object}
use Rattle.cet_elf.specs.ObjectFile.{IsObjectFile}
use Rattle.cet_elf.specs.declared.exec.Exec.{Exec}
use Rattle.cet_exec.specs.ExecFile.{IsExecFile}
use Rattle.cet_exec.specs.Written.{written as written_exec}
use Rattle.cet_link.specs.Inputs.{symbols}
use Rattle.cet_link.specs.Names.{definition_of}
use Rattle.cet_link.specs.Faults.{faults}
use Rattle.cet_link.specs.Linked.{linked, note_of}
use Rattle.cet_link.specs.Notes.{reading, note_read, note_fault, note_faults, notes}
use Rattle.cet_verbs.specs.Command.{Link}
use Rattle.cet_verbs.specs.Links.{HoldObjects, HasObjectNote}
use Rattle.cet_verbs.specs.Notes.{AllBoth}
use Rattle.cet_verbs.specs.Answer.{HasExecNote, feature_word, ibt, shstk, Claims, ClaimsWhatAllClaim, Leaves}
use Rattle.cet_verbs.proofs.Reports.{meets_more}

-- what is written for a merged note is read as it
reads_back : (inputs : List Note) (note : Note) → IsMerged inputs note → note_in (written note) ≡ Ok note
unfolding note_in
reads_back [] note none = subst (λ (n : Note). note_in (written n) ≡ Ok n) (sym none) refl
reads_back (first ∷ others) note merged = note-again (written note) note (written-IsForm note merged.note)

its_bytes : (bytes : List ℕ) → unwrap_or (note_of bytes) [] ≡ bytes
its_bytes [] = refl
its_bytes (b ∷ bytes) = refl

exec_note : (objects : List Object) (start bytes : List ℕ) → unwrap_or (linked objects start bytes).notes [] ≡ bytes
unfolding linked
exec_note objects start bytes = its_bytes bytes

-- the notes of the inputs are those of the files
each_note : (told : Option Contents) (names : List (List ℕ)) (objects : List Object) (k : ℕ) → HoldObjects told names objects
    → flat_map (λ (i : ℕ × Object). note_fault i.0 (reading i.1)) (enumerate_from k objects) ≡ []
    → AllBoth (λ name note. FileMeets told name (λ held. HasObjectNote held note)) names (flat_map (λ (o : Object). note_read (reading o)) objects)
each_note told [] [] k holds none = tt
each_note told [] (o ∷ objects) k holds none = absurd holds
each_note told (name ∷ names) [] k holds none = absurd holds
each_note told (name ∷ names) (o ∷ objects) k holds none = by_reading (λ others. each_note told names objects (k + 1) holds.1 others) (reading o) refl none
  where
    by_reading : (flat_map (λ (i : ℕ × Object). note_fault i.0 (reading i.1)) (enumerate_from (k + 1) objects) ≡ [] → AllBoth (λ name note. FileMeets told name (λ held. HasObjectNote held note)) names (flat_map (λ (o : Object). note_read (reading o)) objects))
        → (r : Result Note NoteError) → reading o ≡ r → note_fault k r ++ flat_map (λ (i : ℕ × Object). note_fault i.0 (reading i.1)) (enumerate_from (k + 1) objects) ≡ []
        → AllBoth (λ name note. FileMeets told name (λ held. HasObjectNote held note)) (name ∷ names) (note_read r ++ flat_map (λ (o : Object). note_read (reading o)) objects)
    by_reading go (Err fault) is some = absurd cc
    by_reading go (Ok note) is others = (
      meets_more told name (λ held. held ≡ holds.0.0) (λ held. HasObjectNote held note) (λ held same. (o, subst (λ (b : List ℕ). IsObjectFile b o) (sym same) holds.0.2, is)) holds.0.1.0,
      go others,
    )

its_notes : (told : Option Contents) (names : List (List ℕ)) (objects : List Object) → HoldObjects told names objects → note_faults objects ≡ []
    → AllBoth (λ name note. FileMeets told name (λ held. HasObjectNote held note)) names (notes objects)
unfolding notes note_faults
its_notes told names objects holds none = each_note told names objects 0 holds none

-- a link of nothing has no entry
nothing_linked : (start note : List ℕ) → faults [] start note ≡ [] → ⊥
unfolding faults symbols definition_of
nothing_linked start note none = absurd cc

-- no input without a note among inputs whose notes were read
first_note : (o : Object) (objects : List Object) (k : ℕ) → flat_map (λ (i : ℕ × Object). note_fault i.0 (reading i.1)) (enumerate_from k (o ∷ objects)) ≡ []
    → flat_map (λ (o : Object). note_read (reading o)) (o ∷ objects) ≡ [] → ⊥
first_note o objects k none empty = by_reading (reading o) none empty
  where
    by_reading : (r : Result Note NoteError) → note_fault k r ++ flat_map (λ (i : ℕ × Object). note_fault i.0 (reading i.1)) (enumerate_from (k + 1) objects) ≡ []
        → note_read r ++ flat_map (λ (o : Object). note_read (reading o)) objects ≡ [] → ⊥
    by_reading (Err fault) some nothing = absurd cc
    by_reading (Ok note) some nothing = absurd cc

some_note : (objects : List Object) (start note : List ℕ) → note_faults objects ≡ [] → faults objects start note ≡ [] → notes objects ≡ [] → ⊥
unfolding notes note_faults
some_note [] start note none sound empty = nothing_linked start note sound
some_note (o ∷ objects) start note none sound empty = first_note o objects 0 none empty

-- the bits of the two features
claims : (inputs : List Note) (note : Note) (bit : ℕ) → (inputs ≡ [] → ⊥) → IsMerged inputs note → Claims note inputs bit
claims [] note bit some merged = absurd (some refl)
claims (first ∷ others) note bit some merged = (merged.and feature_word refl).bits bit

pub link_claims : (told now : Option Contents) (to start : List ℕ) (names : List (List ℕ)) → Leaves told now (Link to start names) → ClaimsWhatAllClaim told now to names
link_claims told now to start names left =
    let (exec, holds_linked, file, replaced) = left in
    let (objects, holds, is_linked) = holds_linked in
    let (bytes, merged_note, sound, is_exec) = is_linked in
    let (none, note, merged, is_bytes) = merged_note in
    let its : unwrap_or exec.notes [] ≡ written note = ap (λ (e : Exec). unwrap_or e.notes []) is_exec ∙ exec_note objects start bytes ∙ is_bytes in
    let read : note_in (unwrap_or exec.notes []) ≡ Ok note = ap note_in its ∙ reads_back (notes objects) note merged in
    record {
      written = note;
      inputs = notes objects;
      is_written = meets_more now to (λ held. held ≡ written_exec exec) (λ held. HasExecNote held note) (λ held same. (exec, subst (λ (b : List ℕ). IsExecFile b exec) (sym same) file, read)) replaced.1;
      are_inputs = its_notes told names objects holds none;
      claims_ibt = claims (notes objects) note ibt (some_note objects start bytes none sound) merged;
      claims_shstk = claims (notes objects) note shstk (some_note objects start bytes none sound) merged;
    }
