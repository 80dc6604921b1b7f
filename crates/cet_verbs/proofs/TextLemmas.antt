-- The text of notes, as it grows.
use Rattle.std.proofs.Common.{◌≡◌, ℕ, suc, ◌+◌, ◌<◌, List, ◌∷◌, ◌++◌, length, get_or, drop, sym, ap, ◌∙◌, append_assoc, drop-cons, add-one}
use Rattle.std.specs.List.{flat_map}
use Rattle.cet_note.specs.Note.{Note, Property}
use Rattle.cet_verbs.specs.Notes.{note_line, note_lines}

-- a turn of the loop over the properties
pub properties_go : (f : Property → List ℕ) (old next : List ℕ) (p : Property) (left rest : Note) (all : List ℕ) → next ≡ old ++ f p → left ≡ p ∷ rest → old ++ flat_map f left ≡ all → next ++ flat_map f rest ≡ all
properties_go f old next p left rest all added split so_far =
    ap (λ (o : List ℕ). o ++ flat_map f rest) added ∙ append_assoc old (f p) (flat_map f rest) ∙ sym (ap (λ (m : Note). old ++ flat_map f m) split) ∙ so_far

-- a turn of the loop over the files
pub lines_go : (old next : List ℕ) (names : List (List ℕ)) (notes : List Note) (i : ℕ) (name : List ℕ) (note : Note) (all : List ℕ) → i < length names → i < length notes → get_or names i name ≡ name → get_or notes i note ≡ note
    → next ≡ old ++ note_line name note → old ++ note_lines (drop i names) (drop i notes) ≡ all → next ++ note_lines (drop (i + 1) names) (drop (i + 1) notes) ≡ all
lines_go old next names notes i name note all in_names in_notes is_name is_note added so_far =
    let names_left : drop i names ≡ name ∷ drop (i + 1) names = rw add-one (drop-cons names i name in_names ∙ ap (λ (n : List ℕ). n ∷ drop (suc i) names) is_name) in
    let notes_left : drop i notes ≡ note ∷ drop (i + 1) notes = rw add-one (drop-cons notes i note in_notes ∙ ap (λ (n : Note). n ∷ drop (suc i) notes) is_note) in
    let rest = note_lines (drop (i + 1) names) (drop (i + 1) notes) in
    let now : old ++ note_lines (drop i names) (drop i notes) ≡ old ++ (note_line name note ++ rest) = ap (λ (ns : List (List ℕ)). old ++ note_lines ns (drop i notes)) names_left ∙ ap (λ (ms : List Note). old ++ note_lines (name ∷ drop (i + 1) names) ms) notes_left in
    ap (λ (o : List ℕ). o ++ rest) added ∙ append_assoc old (note_line name note) rest ∙ sym now ∙ so_far
