-- String tables (gABI, "String Table"): each name ends in a zero byte.
use Rattle.std.specs.Prelude.{ℕ, ◌==◌, not, Bool, List, [], ◌∷◌, ◌++◌, drop, take_while}
use Rattle.std.specs.List.{list_any, starts_with}

abbrev pub is_zero : ℕ → Bool
is_zero byte = byte == 0

-- there is a name at this offset of a string table: it ends in a zero byte inside the table
abbrev pub has_name : List ℕ → ℕ → Bool
has_name table at = list_any is_zero (drop at table)

-- the name at this offset: the bytes before the zero byte
abbrev pub name_at : List ℕ → ℕ → List ℕ
name_at table at = take_while (λ byte. not (is_zero byte)) (drop at table)

-- the name at this offset is the text, which has no zero byte
abbrev pub is_named : List ℕ → ℕ → List ℕ → Bool
is_named table at text = starts_with (λ a b. a == b) (drop at table) (text ++ 0 ∷ [])
