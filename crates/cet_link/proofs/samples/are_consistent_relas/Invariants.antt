use Rattle.std.proofs.Common.{All, take}
use Rattle.cet_elf.specs.Consistent.{IsConsistentRela}
use Rattle.cet_link.proofs.samples.are_consistent_relas.Given as goal

abbrev pub invariant-loop-rela : goal.invariant-loop-rela
invariant-loop-rela l = All (IsConsistentRela l.symbols l.size) (take l.rela-index l.relocations)
