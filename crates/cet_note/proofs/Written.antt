-- What is written for a note.
use Rattle.std.proofs.Common.{◌≡◌, ℕ, ◌*◌, ◌<◌, ◌^◌, Bool, true, false, List, [], ◌∷◌, ◌++◌, length, map, IsTrue, All, refl, sym, ap, subst, ◌∙◌, inr, inl, arith}
use Rattle.std.specs.Prelude.{if◌then◌else◌}
use Rattle.std.specs.List.Sorted.{IsStrictlyIncreasing}
use Rattle.std.proofs.lemmas.List.{length-append, append_assoc}
use Rattle.std.proofs.lemmas.List.Elements.{All-nil, All-cons, All-head, All-tail}
use Rattle.cet_base.specs.Field.{little_endian}
use Rattle.cet_note.specs.Note.{Property, Note, IsNote, types, words, is_word_type}
use Rattle.cet_note.specs.Form.{word_bytes, stored_bytes, stored_of, descriptor, header, written, IsStored, IsDescriptor, words_among, IsForm}
use Rattle.cet_note.proofs.Fields.{little_endian-word_bytes}
use Rattle.cet_note.proofs.Types.{few_properties, word_type_bounds}

pub length-descriptor : (note : Note) → length (descriptor (map stored_of note)) ≡ 16 * length note
length-descriptor [] = refl
length-descriptor (p ∷ note) =
    omega (arith, length-append (stored_bytes (stored_of p)) (descriptor (map stored_of note)), length-descriptor note)

-- the header and the properties are what is written
pub written_some : (note : Note) → (note ≡ [] → ⊥) → header (16 * length note) ++ descriptor (map stored_of note) ≡ written note
written_some [] some = absurd (some refl)
written_some (p ∷ note) some =
    ap (λ (n : ℕ). header n ++ descriptor (map stored_of (p ∷ note))) (sym (length-descriptor (p ∷ note)))

kinds : (note : Note) → map (λ s. s.kind) (map stored_of note) ≡ types note
kinds [] = refl
kinds (p ∷ note) = ap (λ (ks : List ℕ). p.0 ∷ ks) (kinds note)

each_stored : (note : Note) → All (λ kind. IsTrue (is_word_type kind)) (types note) → All IsStored (map stored_of note)
each_stored [] known = All-nil IsStored
each_stored (p ∷ note) known =
    let first = All-head (λ kind. IsTrue (is_word_type kind)) p.0 (types note) known in
    let rest = All-tail (λ kind. IsTrue (is_word_type kind)) p.0 (types note) known in
    let bounds = word_type_bounds p.0 first in
    let is : IsStored (stored_of p) = record { type_fits = omega arith; size_fits = omega arith; is_word = λ h. refl; is_padded = refl } in
    All-cons IsStored (stored_of p) (map stored_of note) is (each_stored note rest)

if_true : (b : Bool) (x y : Note) → b ≡ true → (if b then x else y) ≡ x
if_true true x y e = refl
if_true false x y e = absurd cc

words_of_stored : (note : Note) → All (λ kind. IsTrue (is_word_type kind)) (types note) → All (λ bits. bits < 2 ^ 32) (words note) → words_among (map stored_of note) ≡ note
words_of_stored [] known fit = refl
words_of_stored (p ∷ note) known fit =
    let first = All-head (λ kind. IsTrue (is_word_type kind)) p.0 (types note) known in
    let rest = words_of_stored note (All-tail (λ kind. IsTrue (is_word_type kind)) p.0 (types note) known) (All-tail (λ bits. bits < 2 ^ 32) p.1 (words note) fit) in
    let bits = little_endian-word_bytes p.1 (All-head (λ bits. bits < 2 ^ 32) p.1 (words note) fit) in
    let taken = if_true (is_word_type p.0) ((p.0, little_endian (word_bytes p.1)) ∷ words_among (map stored_of note)) (words_among (map stored_of note)) first in
    taken ∙ ap (λ (b : ℕ). (p.0, b) ∷ words_among (map stored_of note)) bits ∙ ap (λ (n : Note). p ∷ n) rest

-- what is written for a note stands for it
pub written-IsForm : (note : Note) → IsNote note → IsForm (written note) note
written-IsForm [] is = inl (refl, refl)
written-IsForm (p ∷ note) is =
    let all = p ∷ note in
    let d : IsDescriptor (map stored_of all) = record {
      each = each_stored all is.types_known;
      ascending = subst IsStrictlyIncreasing (sym (kinds all)) is.ascending;
      size_fits = omega (arith, length-descriptor all, few_properties all is);
    } in
    inr (map stored_of all, d, refl, sym (words_of_stored all is.types_known is.words_fit))

-- the loop that writes: at its start, and a turn of it
pub writing_starts : (out : List ℕ) (size : ℕ) (left note : Note) → out ≡ [] ++ header size → size ≡ 16 * length note → left ≡ note → (note ≡ [] → ⊥) → out ++ descriptor (map stored_of left) ≡ written note
writing_starts out size left note h n l some =
    ap (λ (o : List ℕ). o ++ descriptor (map stored_of left)) h ∙ ap (λ (k : ℕ). header k ++ descriptor (map stored_of left)) n ∙ ap (λ (m : Note). header (16 * length note) ++ descriptor (map stored_of m)) l ∙ written_some note some

pub writing_goes : (out next : List ℕ) (p : Property) (left rest : Note) (all : List ℕ) → next ≡ out ++ stored_bytes (stored_of p) → left ≡ p ∷ rest → out ++ descriptor (map stored_of left) ≡ all → next ++ descriptor (map stored_of rest) ≡ all
writing_goes out next p left rest all h l so_far =
    ap (λ (o : List ℕ). o ++ descriptor (map stored_of rest)) h ∙ append_assoc out (stored_bytes (stored_of p)) (descriptor (map stored_of rest)) ∙ sym (ap (λ (m : Note). out ++ descriptor (map stored_of m)) l) ∙ so_far
