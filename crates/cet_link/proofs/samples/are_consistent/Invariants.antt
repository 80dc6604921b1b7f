use Rattle.std.proofs.Common.{All, take}
use Rattle.cet_elf.specs.Consistent.{IsConsistent}
use Rattle.cet_link.proofs.samples.are_consistent.Given as goal

abbrev pub invariant-loop-object : goal.invariant-loop-object
invariant-loop-object l = All IsConsistent (take l.object-index l.objects)
