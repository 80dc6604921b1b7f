-- The lines on standard error.
use Rattle.std.specs.Prelude.{ℕ, List, ◌++◌, codes}
use Rattle.cet_base.specs.Text.{line}

-- the file of this name could not be read
abbrev pub file_line : List ℕ → List ℕ
file_line name = line (codes "cet: file " ++ name)
