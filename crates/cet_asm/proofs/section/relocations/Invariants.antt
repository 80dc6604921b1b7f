use Rattle.std.proofs.Common.{◌≡◌, ◌++◌, drop}
use Rattle.cet_asm.specs.Tables.{number_at, targets_at}
use Rattle.cet_asm.specs.Whole.{relocations_of, number_by}
use Rattle.cet_asm.proofs.section.relocations.Given as goal

abbrev pub invariant-loop-p : goal.invariant-loop-p
invariant-loop-p l = l.list ++ relocations_of (number_by (number_at l.numbers)) (targets_at l.targets) l.section (drop l.p-index l.placed) ≡ relocations_of (number_by (number_at l.numbers)) (targets_at l.targets) l.section l.placed
