use Rattle.std.proofs.Common.{◌≡◌, ◌∷◌, []}
use Rattle.cet_elf.specs.Below.{each_below, count_below}
use Rattle.cet_elf.specs.ObjectSections.{section_number, is_kept}
use Rattle.cet_elf.proofs.support.section_numbers.Given as goal

abbrev pub invariant-loop-i : goal.invariant-loop-i
invariant-loop-i l =
    (l.numbers.items ≡ each_below l.i (λ i. section_number l.bytes i ∷ [])) × (l.next ≡ count_below l.i (is_kept l.bytes))
