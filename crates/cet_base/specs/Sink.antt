-- Outputs, in this project's own terms: the bytes that were taken.
use Rattle.std.specs.Prelude.{◌≡◌, ℕ, List, ◌++◌, take, Option, Some, None}

-- the output gained the bytes of the piece at its end. None: the bytes taken are not told, before and after
abbrev pub Gains : Option (List ℕ) → Option (List ℕ) → List ℕ → Type 0
Gains None now piece = now ≡ None
Gains (Some old) now piece = now ≡ Some (old ++ piece)

-- the output gained some first part of the piece, which may be empty or the whole
abbrev pub GainsPart : Option (List ℕ) → Option (List ℕ) → List ℕ → Type 0
GainsPart old now piece = (k : ℕ) × Gains old now (take k piece)
