use Rattle.std.proofs.Common.{◌^◌, ◌<◌, map, take, All}
use Rattle.cet_elf.specs.Layout.{Adds}
use Rattle.cet_elf.specs.Written.{section_part}
use Rattle.cet_elf.proofs.parts.add_sections.Given as goal

abbrev pub invariant-loop-section : goal.invariant-loop-section
invariant-loop-section l = record {
  parts : Adds l.fn.layout l.layout (map section_part (take l.section-index l.sections));
  fit : All (λ s. s.size < 2 ^ 64) (take l.section-index l.sections);
}
