-- The notes of inputs, input by input.
use Rattle.std.proofs.Common.{◌≡◌, ℕ, ◌+◌, ◌<◌, List, [], ◌∷◌, ◌++◌, length, get_or, take, refl}
use Rattle.cet_note.specs.Note.{Note}
use Rattle.cet_elf.specs.declared.object.Object.{Object}
use Rattle.cet_link.specs.declared.error.LinkError.{LinkError}
use Rattle.cet_link.specs.First.{IsFirst}
use Rattle.cet_link.specs.Notes.{reading, note_read, note_fault, notes, note_faults}
use Rattle.cet_link.proofs.LoopLemmas.{flat_more, each_none, each_first}

pub notes-none : (notes [] ≡ []) × (note_faults [] ≡ [])
unfolding notes note_faults
notes-none = (refl, refl)

pub notes-more : (inputs : List Object) (i : ℕ) (o : Object) (read : List Note) (n : Note) → i < length inputs → o ≡ get_or inputs i o → read ≡ notes (take i inputs) → n ∷ [] ≡ note_read (reading o)
    → read ++ n ∷ [] ≡ notes (take (i + 1) inputs)
unfolding notes
notes-more inputs i o read n lt is before one = rw (before, one, ← flat_more (λ p. note_read (reading p)) inputs i o lt is) refl

pub note_faults-more : (inputs : List Object) (i : ℕ) (o : Object) → i < length inputs → o ≡ get_or inputs i o → note_faults (take i inputs) ≡ [] → note_fault i (reading o) ≡ [] → note_faults (take (i + 1) inputs) ≡ []
unfolding note_faults
note_faults-more inputs i o lt is none one = each_none (λ p. note_fault p.0 (reading p.1)) inputs i o lt is none one

pub note_faults-first : (e : LinkError) (inputs : List Object) (i : ℕ) (o : Object) → i < length inputs → o ≡ get_or inputs i o → note_faults (take i inputs) ≡ [] → IsFirst e (note_fault i (reading o)) → IsFirst e (note_faults inputs)
unfolding note_faults
note_faults-first e inputs i o lt is none one = each_first e (λ p. note_fault p.0 (reading p.1)) inputs i o lt is none one
