-- How a text is cut.
use Rattle.std.specs.Prelude.{ℕ, ◌==◌, List, [], ◌∷◌, Option, Some, None}
use Rattle.std.specs.List.{slice_split}

-- the parts between bytes like this one: one more than there are such bytes
unfoldable pub parts : ℕ → List ℕ → List (List ℕ)
parts byte text = slice_split (λ c. c == byte) text

-- two fields, where there are two
abbrev pub two_of : List (List ℕ) → Option (List ℕ × List ℕ)
two_of (a ∷ b ∷ []) = Some (a, b)
two_of _ = None

-- three fields, where there are three
abbrev pub three_of : List (List ℕ) → Option (List ℕ × List ℕ × List ℕ)
three_of (a ∷ b ∷ c ∷ []) = Some (a, b, c)
three_of _ = None
