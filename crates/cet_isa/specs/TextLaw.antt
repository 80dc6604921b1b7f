-- What holds of the texts of instruction values that have a form.
use Rattle.std.specs.Prelude.{◌≡◌, ℕ, List}
use Rattle.cet_isa.specs.declared.instruction.Insn.{Insn}
use Rattle.cet_isa.specs.Form.{Form}
use Rattle.cet_isa.specs.Text.{text}

-- of the values that have a form, no two have one text
abbrev pub OneText : Type 0
OneText = (i j : Insn) (a b : List ℕ) → Form i a → Form j b → text i ≡ text j → i ≡ j
