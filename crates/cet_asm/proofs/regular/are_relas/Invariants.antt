use Rattle.std.proofs.Common.{take, All}
use Rattle.cet_elf.specs.Consistent.{IsConsistentRela}
use Rattle.cet_asm.proofs.regular.are_relas.Given as goal

abbrev pub invariant-loop-rela : goal.invariant-loop-rela
invariant-loop-rela l = All (IsConsistentRela l.symbols l.len) (take l.rela-index l.relas)
