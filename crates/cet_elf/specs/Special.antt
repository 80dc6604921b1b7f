-- What the walk over the sections of an object has found.
use Rattle.std.specs.Prelude.{◌≡◌, ℕ, List}
use Rattle.cet_elf.specs.declared.support.Special.{Special}
use Rattle.cet_elf.specs.Below.{first_below}
use Rattle.cet_elf.specs.ObjectSections.{is_symbol_table, is_note}

-- the first symbol table and the first note below n
pub record IsSpecial (b : List ℕ) (n : ℕ) (found : Special) : Type 0 where
  pub symbols : found.symbols ≡ first_below n (is_symbol_table b)
  pub note : found.note ≡ first_below n (is_note b)
