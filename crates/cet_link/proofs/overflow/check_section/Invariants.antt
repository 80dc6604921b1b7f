use Rattle.std.proofs.Common.{◌≡◌, ℕ, List, [], take}
use Rattle.std.specs.List.{flat_map}
use Rattle.cet_elf.specs.declared.object.Object.{Object}
use Rattle.cet_elf.specs.declared.object.Section.{Section}
use Rattle.cet_link.specs.Faults.{overflow_fault}
use Rattle.cet_link.specs.Laid.{AreTables}
use Rattle.cet_link.proofs.overflow.check_section.Given as goal

abbrev pub invariant-loop-rela : goal.invariant-loop-rela
invariant-loop-rela l = (inputs : List Object) (note : List ℕ) → AreTables inputs note l.tables → (section : Section)
    → flat_map (overflow_fault inputs note (record { input = l.input; number = l.number; section = section })) (take l.rela-index l.relocations) ≡ []
