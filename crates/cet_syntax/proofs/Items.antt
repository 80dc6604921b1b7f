-- The items of a piece, one after another.
use Rattle.std.proofs.Common.{◌≡◌, ℕ, suc, true, false, eqb, List, [], ◌∷◌, ◌++◌, length, Option, Some, None, refl, sym, ap, ◌∙◌, arith, append_assoc, append-nil}
use Rattle.std.specs.Option.{option_map_or}
use Rattle.cet_syntax.specs.declared.lines.Item.{Item}
use Rattle.cet_syntax.specs.declared.lines.Item.TheVariants.{Label, Body}
use Rattle.cet_syntax.specs.declared.lines.Numbered.{Numbered}
use Rattle.cet_syntax.specs.Lines.{Labelled, label_at, items_within, items_of, unlabelled, numbered}
use Rattle.cet_syntax.proofs.Labels.{shrinks, enough}

items_of-label : (cs : List ℕ) (l : Labelled) → label_at cs ≡ Some l → items_of cs ≡ Label l.name ∷ items_of l.rest
unfolding items_of
items_of-label cs l is =
    ap (λ (o : Option Labelled). option_map_or (λ l. Label l.name ∷ items_within (length cs) l.rest) o (unlabelled cs)) is
    ∙ ap (λ (items : List Item). Label l.name ∷ items) (enough (length cs) (suc (length l.rest)) l.rest (shrinks cs l is) (omega arith))

items_of-none : (cs : List ℕ) → label_at cs ≡ None → items_of cs ≡ unlabelled cs
unfolding items_of
items_of-none cs is = ap (λ (o : Option Labelled). option_map_or (λ l. Label l.name ∷ items_within (length cs) l.rest) o (unlabelled cs)) is

-- a label is added
pub step_label : (out old : List Numbered) (line : ℕ) (cs name next : List ℕ) → Some (record { name = name; rest = next }) ≡ label_at cs → out ++ numbered line (items_of cs) ≡ old
    → (more : List Numbered) → more ≡ out ++ (record { line = line; item = Label name } ∷ []) → more ++ numbered line (items_of next) ≡ old
step_label out old line cs name next is before more added =
    let head : items_of cs ≡ Label name ∷ items_of next = items_of-label cs (record { name = name; rest = next }) (sym is) in
    rw (added, append_assoc) (rw head at before)

-- nothing is left
pub end_none : (out old : List Numbered) (line : ℕ) (cs : List ℕ) → label_at cs ≡ None → eqb (length cs) 0 ≡ true → out ++ numbered line (items_of cs) ≡ old → out ≡ old
end_none out old line cs is empty before =
    let items : items_of cs ≡ [] = items_of-none cs is ∙ rw empty refl in
    sym (append-nil out) ∙ (rw items at before)

-- a statement is left
pub end_some : (out old : List Numbered) (line : ℕ) (cs : List ℕ) → label_at cs ≡ None → eqb (length cs) 0 ≡ false → out ++ numbered line (items_of cs) ≡ old
    → (more : List Numbered) → more ≡ out ++ (record { line = line; item = Body cs } ∷ []) → more ≡ old
end_some out old line cs is full before more added =
    let items : items_of cs ≡ Body cs ∷ [] = items_of-none cs is ∙ rw full refl in
    added ∙ (rw items at before)
