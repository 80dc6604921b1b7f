-- What is known of the sections of a file where their places have no fault.
use Rattle.std.proofs.Common.{◌≡◌, ℕ, ◌+◌, List, []}
use Rattle.cet_elf.specs.declared.error.ElfError.TheVariants.{Bounds}
use Rattle.cet_elf.specs.Below.{each_below}
use Rattle.cet_elf.specs.Header.{section_count, HasSectionTable}
use Rattle.cet_elf.specs.Sections.{section_place, place_faults, HasSections}
use Rattle.cet_elf.proofs.FaultLemmas.{true-broken}
use Rattle.cet_elf.proofs.BelowLemmas.{each-none}

pub HasSections-from : (b : List ℕ) → HasSectionTable b → each_below (section_count b) (place_faults b) ≡ [] → HasSections b
HasSections-from b table h = record {
  table = table;
  inside = λ i lt. true-broken _ (Bounds (section_place b i + 24)) (each-none (section_count b) i (place_faults b) lt h);
}

pub ruleset sections_known = (HasSections-from)
