use Rattle.std.proofs.Common.{◌≡◌, take, All}
use Rattle.cet_elf.specs.Written.{rela_table}
use Rattle.cet_elf.specs.Regular.{RelaFits}
use Rattle.cet_elf.proofs.tables.rela_table.Given as goal

abbrev pub invariant-loop-rela : goal.invariant-loop-rela
invariant-loop-rela l = record { table : l.table.items ≡ rela_table (take l.rela-index l.relocations); fit : All RelaFits (take l.rela-index l.relocations) }
