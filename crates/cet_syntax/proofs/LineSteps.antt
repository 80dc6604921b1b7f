-- The items of a text, part by part.
use Rattle.std.proofs.Common.{◌≡◌, ℕ, List, ◌∷◌, ◌++◌, map, Option, sym, ap, ◌∙◌, append_assoc}
use Rattle.std.specs.List.{flat_map}
use Rattle.std.proofs.lemmas.List.{map-append}
use Rattle.cet_syntax.specs.declared.lines.Item.{Item}
use Rattle.cet_syntax.specs.declared.lines.Numbered.{Numbered}
use Rattle.cet_syntax.specs.Pieces.{trimmed, before, behind}
use Rattle.cet_syntax.specs.Lines.{items_of, numbered, parts, items_on, items_from, next_line}
use Rattle.cet_syntax.proofs.Parts.{parts_left, parts-step}

statements : ℕ → List (List ℕ) → List Numbered
statements line texts = numbered line (flat_map items_of (map trimmed texts))

numbered-append : (line : ℕ) (xs ys : List Item) → numbered line (xs ++ ys) ≡ numbered line xs ++ numbered line ys
numbered-append line xs ys = map-append (λ item. record { line = line; item = item }) xs ys

pub step_statements : (out old : List Numbered) (line : ℕ) (cs : List ℕ) → out ++ numbered line (flat_map items_of (map trimmed (parts 59 cs))) ≡ old
    → (more : List Numbered) → more ≡ out ++ numbered line (items_of (trimmed (before 59 cs))) → (o : Option (List ℕ)) → o ≡ behind 59 cs
    → more ++ numbered line (flat_map items_of (map trimmed (parts_left 59 o))) ≡ old
step_statements out old line cs kept more added o is =
    ap (λ (front : List Numbered). front ++ numbered line (flat_map items_of (map trimmed (parts_left 59 o)))) added
    ∙ append_assoc out _ _
    ∙ ap (λ (rest : List Numbered). out ++ rest) (sym (numbered-append line (items_of (trimmed (before 59 cs))) (flat_map items_of (map trimmed (parts_left 59 o)))))
    ∙ ap (λ (p : Option (List ℕ)). out ++ numbered line (flat_map items_of (map trimmed (before 59 cs ∷ parts_left 59 p)))) is
    ∙ ap (λ (texts : List (List ℕ)). out ++ numbered line (flat_map items_of (map trimmed texts))) (sym (parts-step 59 cs))
    ∙ kept

pub step_lines : (out old : List Numbered) (line : ℕ) (cs : List ℕ) → out ++ items_from line (parts 10 cs) ≡ old
    → (more : List Numbered) → more ≡ out ++ items_on line (before 10 cs) → (o : Option (List ℕ)) → o ≡ behind 10 cs → (next : ℕ) → next ≡ next_line line
    → more ++ items_from next (parts_left 10 o) ≡ old
step_lines out old line cs kept more added o is next after =
    ap (λ (front : List Numbered). front ++ items_from next (parts_left 10 o)) added
    ∙ append_assoc out _ _
    ∙ ap (λ (n : ℕ). out ++ (items_on line (before 10 cs) ++ items_from n (parts_left 10 o))) after
    ∙ ap (λ (p : Option (List ℕ)). out ++ items_from line (before 10 cs ∷ parts_left 10 p)) is
    ∙ ap (λ (texts : List (List ℕ)). out ++ items_from line texts) (sym (parts-step 10 cs))
    ∙ kept
