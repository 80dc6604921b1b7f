-- Bytes of which a field is zero: this project's own.
use Rattle.std.specs.Prelude.{ℕ, ◌+◌, Bool, if◌then◌else◌, List, ◌++◌, take, drop, replicate}

-- zeros in the place of a field
abbrev pub cut : ℕ → ℕ → List ℕ → List ℕ
cut offset size bytes = take offset bytes ++ (replicate size 0 ++ drop (offset + size) bytes)

-- the same, where the field waits
abbrev pub cut_where : Bool → ℕ → ℕ → List ℕ → List ℕ
cut_where waits offset size bytes = if waits then cut offset size bytes else bytes
