-- How the words of one type of two notes join: the step of a merge.
use Rattle.std.specs.Prelude.{◌≡◌, ℕ, ◌==◌, if◌then◌else◌, Option, Some, None, is_some, unwrap_or, bit_and, bit_or}
use Rattle.cet_note.specs.Note.{Note, is_and, is_or, word_of}

-- a word, unless it has no set bit
abbrev pub nonzero : ℕ → Option ℕ
nonzero bits = if bits == 0 then None else Some bits

-- both words, where both are there
abbrev pub both : Option ℕ → Option ℕ → Option ℕ
both None other = None
both (Some a) None = None
both (Some a) (Some b) = Some (bit_or a b)

abbrev pub joined : ℕ → Option ℕ → Option ℕ → Option ℕ
joined kind a b =
    if is_and kind then nonzero (bit_and (unwrap_or a 0) (unwrap_or b 0))
    else if is_or kind then nonzero (bit_or (unwrap_or a 0) (unwrap_or b 0))
    else both a b

-- the first word, or else the second
abbrev pub or_else : Option ℕ → Option ℕ → Option ℕ
or_else None other = other
or_else (Some bits) other = Some bits

-- at each type that `note` has, the word that joins those of a and b, where there is one; else what `old` has
abbrev pub JoinsAt : Note → Note → Note → Note → Note → Type 0
JoinsAt note a b old new = (kind : ℕ) → word_of new kind ≡ (if is_some (word_of note kind) then or_else (joined kind (word_of a kind) (word_of b kind)) (word_of old kind) else word_of old kind)

-- each word joins those of a and b
abbrev pub Joins : Note → Note → Note → Type 0
Joins a b new = (kind : ℕ) → word_of new kind ≡ joined kind (word_of a kind) (word_of b kind)
