use Rattle.std.proofs.Common.{◌≡◌, ℕ, List, [], take}
use Rattle.cet_elf.specs.declared.object.Object.{Object}
use Rattle.cet_link.specs.Inputs.{parts_in}
use Rattle.cet_link.specs.Faults.{overflow_faults}
use Rattle.cet_link.specs.Laid.{AreTables}
use Rattle.cet_link.proofs.overflow.check_sections.Given as goal

abbrev pub invariant-loop-number : goal.invariant-loop-number
invariant-loop-number l = (inputs : List Object) (note : List ℕ) → AreTables inputs note l.tables → overflow_faults inputs note (parts_in l.input (take l.number l.sections)) ≡ []
