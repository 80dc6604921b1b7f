-- The line on standard error of words that are no command.
use Rattle.std.specs.Prelude.{ℕ, List, codes}
use Rattle.cet_base.specs.Text.{line}

-- the words are no command
abbrev pub words_line : List ℕ
words_line = line (codes "cet: words")
