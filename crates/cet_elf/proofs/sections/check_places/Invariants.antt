use Rattle.std.proofs.Common.{◌≡◌, []}
use Rattle.cet_elf.specs.Below.{each_below}
use Rattle.cet_elf.specs.Sections.{place_faults}
use Rattle.cet_elf.proofs.sections.check_places.Given as goal

abbrev pub invariant-loop-i : goal.invariant-loop-i
invariant-loop-i l = each_below l.i (place_faults l.bytes) ≡ []
