-- SSP is a multiple of 8 throughout (SDM volume 1, "Shadow Stacks").
use Rattle.std.specs.Prelude.{◌≡◌, ◌%◌}
use Rattle.cet_isa.specs.declared.registers.Regs.{Regs}

abbrev pub IsAligned : Regs → Type 0
IsAligned R = R.ssp % 8 ≡ 0
