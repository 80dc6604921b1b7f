use Rattle.std.proofs.Common.{◌≡◌, []}
use Rattle.cet_elf.specs.Below.{each_below}
use Rattle.cet_elf.specs.ObjectSections.{support_faults}
use Rattle.cet_elf.specs.Special.{IsSpecial}
use Rattle.cet_elf.proofs.support.check_support.Given as goal

abbrev pub invariant-loop-i : goal.invariant-loop-i
invariant-loop-i l = (each_below l.i (support_faults l.bytes) ≡ []) × IsSpecial l.bytes l.i l.found
