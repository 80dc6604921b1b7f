use Rattle.std.proofs.Common.{All, take}
use Rattle.cet_elf.specs.Consistent.{IsConsistentSection}
use Rattle.cet_link.proofs.samples.are_consistent_sections.Given as goal

abbrev pub invariant-loop-section : goal.invariant-loop-section
invariant-loop-section l = All (IsConsistentSection l.symbols) (take l.section-index l.sections)
