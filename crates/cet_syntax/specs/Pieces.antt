-- How a text is cut: lines end at a line feed, a comment goes from `#` to the line's end, `;` parts the statements of a line, spaces part
-- words, commas operands. Only the byte 0x20 is a space.
use Rattle.std.specs.Prelude.{ℕ, ◌+◌, ◌-◌, Bool, ◌==◌, if◌then◌else◌, List, length, take, drop, Option, Some, None}
use Rattle.std.specs.List.{prefix_len, suffix_len, before_first}

abbrev pub is_space : ℕ → Bool
is_space c = c == 32

abbrev pub trimmed_front : List ℕ → List ℕ
trimmed_front cs = drop (prefix_len is_space cs) cs

abbrev pub trimmed_end : List ℕ → List ℕ
trimmed_end cs = take (length cs - suffix_len is_space cs) cs

-- without the spaces at both ends
abbrev pub trimmed : List ℕ → List ℕ
trimmed cs = trimmed_end (trimmed_front cs)

-- the bytes up to this one, or all
abbrev pub before : ℕ → List ℕ → List ℕ
before byte cs = before_first (λ c. c == byte) cs

-- the bytes behind the first one like this, or none where there is none
abbrev pub behind : ℕ → List ℕ → Option (List ℕ)
behind byte cs = let size = length (before byte cs) in if size == length cs then None else Some (drop (size + 1) cs)

-- a text and the one behind it, if there is one
pub record Cut : Type 0 where
  pub first : List ℕ
  pub rest : Option (List ℕ)

abbrev pub cut_at : ℕ → List ℕ → Cut
cut_at byte cs = record { first = before byte cs; rest = behind byte cs }

abbrev pub first_word : List ℕ → List ℕ
first_word cs = before 32 cs

abbrev pub behind_first_word : List ℕ → List ℕ
behind_first_word cs = trimmed_front (drop (length (first_word cs)) cs)
