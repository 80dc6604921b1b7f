use Rattle.std.proofs.Common.{◌≡◌, []}
use Rattle.cet_elf.specs.Below.{each_below}
use Rattle.cet_elf.specs.Sections.{name_faults}
use Rattle.cet_elf.proofs.sections.check_names.Given as goal

abbrev pub invariant-loop-i : goal.invariant-loop-i
invariant-loop-i l = each_below l.i (name_faults l.bytes) ≡ []
