use Rattle.std.proofs.Common.{◌≡◌, ◌++◌, take, map}
use Rattle.cet_asm.specs.Emitted.{moved}
use Rattle.cet_asm.specs.Whole.{relocation_by, number_by}
use Rattle.cet_asm.specs.Tables.{number_at}
use Rattle.cet_asm.proofs.section.push_relocations.Given as goal

abbrev pub invariant-loop-field : goal.invariant-loop-field
invariant-loop-field l = l.out ≡ l.initial.out ++ map (λ u. relocation_by (number_by (number_at l.numbers)) (moved l.offset u)) (take l.field-index l.uses)
