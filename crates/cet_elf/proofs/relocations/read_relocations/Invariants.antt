use Rattle.std.proofs.Common.{◌≡◌, ◌≤◌, []}
use Rattle.cet_elf.specs.Below.{each_below, sum_below}
use Rattle.cet_elf.specs.ObjectRelocations.{rela_section_faults, rela_count}
use Rattle.cet_elf.specs.Numbers.{AreRelocations}
use Rattle.cet_elf.proofs.relocations.read_relocations.Given as goal

abbrev pub invariant-loop-i : goal.invariant-loop-i
invariant-loop-i l =
    (each_below l.i (rela_section_faults l.bytes) ≡ []) × (l.total ≡ sum_below l.i (rela_count l.bytes)) × (l.total ≤ 1000000) × AreRelocations l.bytes l.i l.lists.items
