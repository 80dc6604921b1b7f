-- The statements of a text, with their lines. A label is a statement of its own.
use Rattle.std.specs.Prelude.{ℕ, zero, suc, ◌+◌, ◌-◌, ◌^◌, ◌==◌, min, if◌then◌else◌, List, [], ◌∷◌, ◌++◌, length, map, Option}
use Rattle.std.specs.Option.{option_zip, option_map, option_map_or}
use Rattle.std.specs.List.{flat_map, slice_split}
use Rattle.cet_syntax.specs.declared.lines.Item.{Item}
use Rattle.cet_syntax.specs.declared.lines.Item.TheVariants.{Label, Body}
use Rattle.cet_syntax.specs.declared.lines.Numbered.{Numbered}
use Rattle.cet_syntax.specs.Name.{name_of}
use Rattle.cet_syntax.specs.Pieces.{trimmed, trimmed_front, before, behind}

-- a label at the head: a name with a colon at once behind it, and what follows
pub record Labelled : Type 0 where
  pub name : List ℕ
  pub rest : List ℕ

abbrev pub label_at : List ℕ → Option Labelled
label_at cs = option_map (λ parts. record { name = parts.0; rest = trimmed_front parts.1 }) (option_zip (name_of (before 58 cs)) (behind 58 cs))

-- what is no label is a statement, where there is one
abbrev pub unlabelled : List ℕ → List Item
unlabelled cs = if length cs == 0 then [] else Body cs ∷ []

-- the labels, then the statement; each label takes two bytes at least, so there are fewer labels than bytes
abbrev pub items_within : ℕ → List ℕ → List Item
items_within zero cs = []
items_within (suc most) cs = option_map_or (λ l. Label l.name ∷ items_within most l.rest) (label_at cs) (unlabelled cs)

unfoldable pub items_of : List ℕ → List Item
items_of piece = items_within (suc (length piece)) piece

-- items of one line
abbrev pub numbered : ℕ → List Item → List Numbered
numbered line items = map (λ item. record { line = line; item = item }) items

-- lines are counted from 1; the count stands still at its last value of 32 bits
abbrev pub next_line : ℕ → ℕ
next_line line = min (line + 1) (2 ^ 32 - 1)

-- the parts between bytes like this one
unfoldable pub parts : ℕ → List ℕ → List (List ℕ)
parts byte text = slice_split (λ c. c == byte) text

-- the statements of a line, with the labels before them: a comment goes from `#` to the line's end, `;` parts the statements
abbrev pub items_on : ℕ → List ℕ → List Numbered
items_on line text = numbered line (flat_map items_of (map trimmed (parts 59 (before 35 text))))

abbrev pub items_from : ℕ → List (List ℕ) → List Numbered
items_from line [] = []
items_from line (text ∷ texts) = items_on line text ++ items_from (next_line line) texts

-- the items of a text in their order
abbrev pub items_in : List ℕ → List Numbered
items_in text = items_from 1 (parts 10 text)
