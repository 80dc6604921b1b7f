-- Accesses.
use Rattle.std.specs.Prelude.{ℕ, ◌==◌, ◌||◌, IsTrue}

-- an access has 1, 4 or 8 bytes
abbrev pub IsWidth : ℕ → Type 0
IsWidth n = IsTrue (n == 1 || n == 4 || n == 8)
