use Rattle.std.proofs.Common.{◌≡◌, ◌≤◌, length, take}
use Rattle.std.specs.List.{sum_by}
use Rattle.cet_link.proofs.samples.has_few_relocations.Given as goal

abbrev pub invariant-loop-section : goal.invariant-loop-section
invariant-loop-section l = (l.sum ≡ sum_by (λ s. length s.relocations) (take l.section-index l.sections)) × (l.sum ≤ 101000)
