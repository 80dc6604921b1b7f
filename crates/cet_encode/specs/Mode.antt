-- ModRM's mod field.
use Rattle.std.specs.Prelude.{ℕ}
use Rattle.cet_encode.specs.declared.operand.Mode.{Mode}
use Rattle.cet_encode.specs.declared.operand.Mode.TheVariants.{Plain, Disp8, Disp32, Register}

-- SDM volume 2, table 2-2
abbrev pub mode_number : Mode → ℕ
mode_number Plain = 0
mode_number Disp8 = 1
mode_number Disp32 = 2
mode_number Register = 3
