use Rattle.std.proofs.Common.{◌≡◌, ℕ, ◌≤◌, ◌<◌, length, get_or, []}
use Rattle.cet_elf.specs.Below.{each_below}
use Rattle.cet_elf.specs.Header.{section_count}
use Rattle.cet_elf.specs.ObjectRelocations.{relocations_of}
use Rattle.cet_elf.specs.ObjectFile.{kept_section}
use Rattle.cet_elf.proofs.reading.read_sections.Given as goal

abbrev pub invariant-loop-i : goal.invariant-loop-i
invariant-loop-i l =
    (l.sections ≡ each_below l.i (kept_section l.bytes)) × (length l.lists.items ≡ section_count l.bytes) × ((k : ℕ) → l.i ≤ k → k < section_count l.bytes → get_or l.lists.items k [] ≡ relocations_of l.bytes k)
