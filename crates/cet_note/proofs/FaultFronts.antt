-- The first fault by rows is the fault that reading finds: from the rows to the reading.
use Rattle.std.proofs.Common.{◌≡◌, ◌≢◌, ℕ, zero, suc, ◌+◌, ◌<◌, ◌≤◌, true, false, leb, eqb, List, [], ◌∷◌, ◌++◌, length, take, drop, Option, Some, None, Ok, Err, All, ◌⊎◌, refl, sym, ap, subst, ◌∙◌, append_assoc, inl, inr, arith}
use Rattle.std.specs.Prelude.{codes}
use Rattle.std.proofs.lemmas.Bool.{le-leb, lt-leb, le-ltb, eqb-true, eq-eqb, cases_Bool}
use Rattle.std.proofs.lemmas.List.{append-nil, length-append, length-take, drop_at}
use Rattle.std.proofs.lemmas.List.Elements.{All-head, All-tail}
use Rattle.cet_base.specs.Field.{little_endian}
use Rattle.cet_note.specs.declared.fault.NoteError.{NoteError}
use Rattle.cet_note.specs.declared.fault.NoteError.TheVariants.{Cut, Size, Order, Twice}
use Rattle.cet_note.specs.Note.{Note}
use Rattle.cet_note.specs.Form.{word_bytes, padding_of, Stored, stored_bytes, descriptor, header, IsStored}
use Rattle.cet_note.specs.Fault.{word_at, bytes_at, header_in, above, size_fits, property_in, next_at, properties_in, note_in}
use Rattle.cet_note.specs.FirstFault.{name_size, descriptor_size, note_type, note_name, property_type, property_size, content, padding, IsSize, last_type, FitsIn, Breaks}
use Rattle.cet_note.proofs.Steps.{within_end, word_has_four}
use Rattle.cet_note.proofs.WholeNotes.{header-again}
use Rattle.cet_note.proofs.Fields.{IsBytes, IsBytes-take, word_bytes-little_endian, Stands, Stands-length, Stands-split, word_at-Stands}
use Rattle.cet_note.proofs.Descriptors.{length-stored_bytes, property-again, Ascends}

-- what stands from a place on, to the end of the input
pub Behind-from : (bytes front rest : List ℕ) → bytes ≡ front ++ rest → Stands bytes (length front) rest []
Behind-from bytes front rest is = record {
  place = omega (arith, ap length is, length-append front rest);
  is = ap (drop (length front)) is ∙ drop_at front rest (length front) refl ∙ sym (append-nil rest);
}

pub word-cut : (bytes : List ℕ) (at : ℕ) (rest : List ℕ) → Stands bytes at rest [] → length rest < 4 → word_at bytes at ≡ Err (Cut at)
word-cut bytes at rest h lt =
    let past : leb (at + 4) (length bytes) ≡ false = lt-leb _ _ (omega (arith, Stands-length bytes at rest [] h)) in
    rw past refl

pub bytes-cut : (bytes : List ℕ) (at size : ℕ) (rest : List ℕ) → Stands bytes at rest [] → length rest < size → bytes_at bytes at size ≡ Err (Cut at)
bytes-cut bytes at size rest h lt =
    let past : leb (at + size) (length bytes) ≡ false = lt-leb _ _ (omega (arith, Stands-length bytes at rest [] h)) in
    rw past refl

pub word-there : (bytes : List ℕ) (at : ℕ) (rest : List ℕ) → Stands bytes at rest [] → 4 ≤ length rest → word_at bytes at ≡ Ok (little_endian (take 4 rest))
word-there bytes at rest h le =
    let within : leb (at + 4) (length bytes) ≡ true = le-leb _ _ (omega (arith, Stands-length bytes at rest [] h)) in
    rw (within, h.is, append-nil rest) refl

-- ---- the header

eq_false : (a b : ℕ) → a ≢ b → eqb a b ≡ false
eq_false a b differs = elim (cases_Bool (eqb a b)) [ inl t ↦ absurd (differs (eqb-true a b t)) | inr f ↦ f ]

eq_true : (a b : ℕ) → a ≡ b → eqb a b ≡ true
eq_true a b e = eq-eqb a b e

-- the four words, as far as they stand
pub header_at_size : (bytes rest : List ℕ) → bytes ≡ word_bytes 4 ++ rest → (word_at bytes 0 ≡ Ok 4) × Stands bytes 4 rest []
header_at_size bytes rest is = (
  word_at-Stands bytes 0 4 rest (omega arith) (record { place = omega arith; is = is }),
  Behind-from bytes (word_bytes 4) rest is,
)

pub header_at_type : (bytes rest : List ℕ) (size : ℕ) → IsSize size → bytes ≡ (word_bytes 4 ++ word_bytes size) ++ rest → (word_at bytes 0 ≡ Ok 4) × (word_at bytes 4 ≡ Ok size) × Stands bytes 8 rest []
header_at_type bytes rest size is e =
    let a = header_at_size bytes (word_bytes size ++ rest) e in
    (a.0, word_at-Stands bytes 4 size rest is.fits (record { place = a.1.place; is = a.1.is ∙ append-nil (word_bytes size ++ rest) }), Behind-from bytes (word_bytes 4 ++ word_bytes size) rest e)

pub header_at_name : (bytes rest : List ℕ) (size : ℕ) → IsSize size → bytes ≡ (word_bytes 4 ++ (word_bytes size ++ word_bytes 5)) ++ rest
    → (word_at bytes 0 ≡ Ok 4) × (word_at bytes 4 ≡ Ok size) × (word_at bytes 8 ≡ Ok 5) × Stands bytes 12 rest []
header_at_name bytes rest size is e =
    let a = header_at_type bytes (word_bytes 5 ++ rest) size is e in
    (a.0, a.1, word_at-Stands bytes 8 5 rest (omega arith) (record { place = a.2.place; is = a.2.is ∙ append-nil (word_bytes 5 ++ rest) }), Behind-from bytes (word_bytes 4 ++ (word_bytes size ++ word_bytes 5)) rest e)

-- the whole header, and what stands behind it
header_whole : (bytes rest : List ℕ) (size : ℕ) → IsSize size → bytes ≡ header size ++ rest → (header_in bytes ≡ Ok size) × Stands bytes 16 rest []
header_whole bytes rest size is e = header-again bytes size rest is.fits is.whole e

-- a number that is no name
not_name : (rest : List ℕ) → 4 ≤ length rest → IsBytes rest → (take 4 rest ≢ codes "GNU" ++ 0 ∷ []) → little_endian (take 4 rest) ≢ 0x00554e47
not_name rest long fits differs e =
    let b = word_bytes-little_endian (take 4 rest) (omega (arith, length-take 4 rest)) (IsBytes-take 4 rest fits) in
    absurd (differs (sym b.0 ∙ ap word_bytes e))

pub header_fails_size : (bytes rest : List ℕ) (f : NoteError) → Breaks name_size rest 0 f → Stands bytes 0 rest [] → header_in bytes ≡ Err f
unfolding header_in
header_fails_size bytes rest f (inl c) h = rw (word-cut bytes 0 rest h c.0, c.1) refl
header_fails_size bytes rest f (inr c) h = rw (word-there bytes 0 rest h c.0, eq_false _ _ c.1.0, c.1.1) refl

pub header_fails_descriptor : (bytes rest : List ℕ) (f : NoteError) → Breaks descriptor_size rest 4 f → (word_at bytes 0 ≡ Ok 4) × Stands bytes 4 rest [] → header_in bytes ≡ Err f
unfolding header_in
header_fails_descriptor bytes rest f (inl c) h = rw (h.0, word-cut bytes 4 rest h.1 c.0, c.1) refl
header_fails_descriptor bytes rest f (inr c) h = rw (h.0, word-there bytes 4 rest h.1 c.0, eq_false _ _ c.1.0, c.1.1) refl

pub header_fails_type : (bytes rest : List ℕ) (size : ℕ) (f : NoteError) → IsSize size → Breaks note_type rest 8 f → (word_at bytes 0 ≡ Ok 4) × (word_at bytes 4 ≡ Ok size) × Stands bytes 8 rest [] → header_in bytes ≡ Err f
unfolding header_in
header_fails_type bytes rest size f is (inl c) h = rw (h.0, h.1, is.whole, word-cut bytes 8 rest h.2 c.0, c.1) refl
header_fails_type bytes rest size f is (inr c) h = rw (h.0, h.1, is.whole, word-there bytes 8 rest h.2 c.0, eq_false _ _ c.1.0, c.1.1) refl

pub header_fails_name : (bytes rest : List ℕ) (size : ℕ) (f : NoteError) → IsBytes rest → IsSize size → Breaks note_name rest 12 f → (word_at bytes 0 ≡ Ok 4) × (word_at bytes 4 ≡ Ok size) × (word_at bytes 8 ≡ Ok 5) × Stands bytes 12 rest [] → header_in bytes ≡ Err f
unfolding header_in
header_fails_name bytes rest size f fits is (inl c) h = rw (h.0, h.1, is.whole, h.2, word-cut bytes 12 rest h.3 c.0, c.1) refl
header_fails_name bytes rest size f fits is (inr c) h = rw (h.0, h.1, is.whole, h.2, word-there bytes 12 rest h.3 c.0, eq_false _ _ (not_name rest c.0 fits c.1.0), c.1.1) refl

-- ---- a property

not_above : (last n at : ℕ) (f : NoteError) → ((n ≡ last) × (f ≡ Twice at)) ⊎ ((n < last) × (f ≡ Order at)) → above (Some last) n at ≡ Err f
not_above last n at f (inl c) = rw (le-ltb last n (omega (arith, c.0)), eq-eqb last n (sym c.0), c.1) refl
not_above last n at f (inr c) = rw (le-ltb last n (omega (arith, c.0)), eq_false last n (λ e. omega (arith, c.0)), c.1) refl

pub property_fails_type : (bytes : List ℕ) (end : ℕ) (last : Option ℕ) (at : ℕ) (rest : List ℕ) (f : NoteError) → Breaks (property_type last) rest at f → Stands bytes at rest [] → property_in bytes end last at ≡ Err f
unfolding property_in
property_fails_type bytes end last at rest f (inl c) h = rw (word-cut bytes at rest h c.0, c.1) refl
property_fails_type bytes end None at rest f (inr c) h = absurd c.1
property_fails_type bytes end (Some last) at rest f (inr c) h =
    rw (word-there bytes at rest h c.0, not_above last (little_endian (take 4 rest)) at f c.1) refl

fitting_in : (end kind size at left : ℕ) → end ≡ at + 8 + left → size_fits end kind size (at + 4) ≡ true → FitsIn kind left size
fitting_in end kind size at left ends e =
    let w = within_end end kind size at e in
    (omega arith, word_has_four end kind size (at + 4) e)

not_fitting : (end kind size at left : ℕ) → end ≡ at + 8 + left → (FitsIn kind left size → ⊥) → size_fits end kind size (at + 4) ≡ false
not_fitting end kind size at left ends misfit = elim (cases_Bool (size_fits end kind size (at + 4))) [
  | inl t ↦ absurd (misfit (fitting_in end kind size at left ends t))
  | inr f ↦ f
]

pub property_fails_size : (bytes : List ℕ) (end : ℕ) (last : Option ℕ) (at kind left : ℕ) (rest : List ℕ) (f : NoteError) → end ≡ at + 8 + left → word_at bytes at ≡ Ok kind → above last kind at ≡ Ok tt → Breaks (property_size kind left) rest (at + 4) f → Stands bytes (at + 4) rest [] → property_in bytes end last at ≡ Err f
unfolding property_in
property_fails_size bytes end last at kind left rest f ends kind_is up (inl c) h = rw (kind_is, up, word-cut bytes (at + 4) rest h c.0, c.1) refl
property_fails_size bytes end last at kind left rest f ends kind_is up (inr c) h =
    let size = little_endian (take 4 rest) in
    let no : size_fits end kind size (at + 4) ≡ false = not_fitting end kind size at left ends c.1.0 in
    rw (kind_is, up, word-there bytes (at + 4) rest h c.0, no, c.1.1) refl

pub property_fails_content : (bytes : List ℕ) (end : ℕ) (last : Option ℕ) (at kind size : ℕ) (rest : List ℕ) (f : NoteError) → word_at bytes at ≡ Ok kind → above last kind at ≡ Ok tt → word_at bytes (at + 4) ≡ Ok size → size_fits end kind size (at + 4) ≡ true
    → Breaks (content size) rest (at + 8) f → Stands bytes (at + 8) rest [] → property_in bytes end last at ≡ Err f
unfolding property_in
property_fails_content bytes end last at kind size rest f kind_is up size_is fits (inl c) h = rw (kind_is, up, size_is, fits, bytes-cut bytes (at + 8) size rest h c.0, c.1) refl
property_fails_content bytes end last at kind size rest f kind_is up size_is fits (inr c) h = absurd c.1

pub property_fails_padding : (bytes : List ℕ) (end : ℕ) (last : Option ℕ) (at kind size : ℕ) (bs rest : List ℕ) (f : NoteError) → word_at bytes at ≡ Ok kind → above last kind at ≡ Ok tt → word_at bytes (at + 4) ≡ Ok size → size_fits end kind size (at + 4) ≡ true
    → bytes_at bytes (at + 8) size ≡ Ok bs → Breaks (padding size) rest (at + 8 + size) f → Stands bytes (at + 8 + size) rest [] → property_in bytes end last at ≡ Err f
unfolding property_in
property_fails_padding bytes end last at kind size bs rest f kind_is up size_is fits data_is (inl c) h =
    rw (kind_is, up, size_is, fits, data_is, bytes-cut bytes (at + 8 + size) (padding_of size) rest h c.0, c.1) refl
property_fails_padding bytes end last at kind size bs rest f kind_is up size_is fits data_is (inr c) h = absurd c.1

-- ---- properties, of which the last one fails

at_place : (bytes : List ℕ) (end : ℕ) (last : Option ℕ) (a b : ℕ) (f : NoteError) → a ≡ b → property_in bytes end last a ≡ Err f → property_in bytes end last b ≡ Err f
at_place bytes end last a b f e h = subst (λ (n : ℕ). property_in bytes end last n ≡ Err f) e h

pub properties_fail : (ps : List Stored) (n : ℕ) (bytes : List ℕ) (end : ℕ) (last : Option ℕ) (at : ℕ) (rest : List ℕ) (f : NoteError) → All IsStored ps → Ascends last ps → Stands bytes at (descriptor ps) rest → at + length (descriptor ps) < end → end ≤ at + n
    → property_in bytes end (last_type last ps) (at + length (descriptor ps)) ≡ Err f → properties_in n bytes end last at ≡ Err f
unfolding properties_in
properties_fail ps zero bytes end last at rest f each up h below room fails = absurd (omega arith)
properties_fail [] (suc n) bytes end last at rest f each up h below room fails =
    let goes : leb end at ≡ false = lt-leb end at (omega (arith, below)) in
    let here = at_place bytes end last (at + 0) at f (omega arith) fails in
    rw (goes, here) refl
properties_fail (s ∷ ps) (suc n) bytes end last at rest f each up h below room fails =
    let is = All-head IsStored s ps each in
    let len = length-append (stored_bytes s) (descriptor ps) in
    let size = length-stored_bytes s in
    let first : Stands bytes at (stored_bytes s) (descriptor ps ++ rest) = record { place = h.place; is = h.is ∙ append_assoc (stored_bytes s) (descriptor ps) rest } in
    let entry = property-again bytes end last at s (descriptor ps ++ rest) is up.0 (omega (arith, below, len)) first in
    let next : at + length (stored_bytes s) ≡ next_at at (length s.content) = omega (arith, size, is.is_padded) in
    let tail = Stands-split bytes at (stored_bytes s) (descriptor ps) rest (length (stored_bytes s)) refl first in
    let tail' = subst (λ (k : ℕ). Stands bytes k (descriptor ps) rest) next tail in
    let place : at + length (descriptor (s ∷ ps)) ≡ next_at at (length s.content) + length (descriptor ps) = omega (arith, len, next) in
    let fails' = at_place bytes end (last_type (Some s.kind) ps) (at + length (descriptor (s ∷ ps))) (next_at at (length s.content) + length (descriptor ps)) f place fails in
    let others = properties_fail ps n bytes end (Some s.kind) (next_at at (length s.content)) rest f (All-tail IsStored s ps each) up.1 tail' (omega (arith, below, len, next)) (omega (arith, room, size, next)) fails' in
    let goes : leb end at ≡ false = lt-leb end at (omega (arith, below, len, size)) in
    rw (goes, entry, others) refl

-- ---- the note

pub note_fails_header : (bytes : List ℕ) (f : NoteError) → (bytes ≢ []) → header_in bytes ≡ Err f → note_in bytes ≡ Err f
unfolding note_in
note_fails_header [] f some h = absurd (some refl)
note_fails_header (b ∷ bytes) f some h = rw h refl

pub note_fails_properties : (bytes : List ℕ) (size : ℕ) (f : NoteError) → (bytes ≢ []) → header_in bytes ≡ Ok size → properties_in size bytes (16 + size) None 16 ≡ Err f → note_in bytes ≡ Err f
unfolding note_in
note_fails_properties [] size f some h p = absurd (some refl)
note_fails_properties (b ∷ bytes) size f some h p = rw (h, p) refl

pub note_fails_end : (bytes : List ℕ) (size : ℕ) (note : Note) → (bytes ≢ []) → header_in bytes ≡ Ok size → properties_in size bytes (16 + size) None 16 ≡ Ok note → 16 + size < length bytes → note_in bytes ≡ Err (Size (16 + size))
unfolding note_in
note_fails_end [] size note some h p lt = absurd (some refl)
note_fails_end (b ∷ bytes) size note some h p lt = rw (h, p, lt-leb _ _ lt) refl
