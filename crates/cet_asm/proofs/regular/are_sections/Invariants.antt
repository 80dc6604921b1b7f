use Rattle.std.proofs.Common.{take, All}
use Rattle.cet_asm.specs.Sound.{IsSoundSection}
use Rattle.cet_asm.proofs.regular.are_sections.Given as goal

abbrev pub invariant-loop-section : goal.invariant-loop-section
invariant-loop-section l = All (IsSoundSection l.symbols) (take l.section-index l.sections)
