use Rattle.std.proofs.Common.{take, All}
use Rattle.cet_elf.specs.Layout.{Adds}
use Rattle.cet_elf.specs.Regular.{RelaFits}
use Rattle.cet_elf.specs.Written.{rela_parts}
use Rattle.cet_elf.proofs.parts.add_relas.Given as goal

abbrev pub invariant-loop-number : goal.invariant-loop-number
invariant-loop-number l = record {
  parts : Adds l.fn.layout l.layout (rela_parts l.symtab (take l.number l.sections));
  fit : All (λ s. All RelaFits s.relocations) (take l.number l.sections);
}
