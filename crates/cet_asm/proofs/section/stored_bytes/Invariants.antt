use Rattle.std.proofs.Common.{◌≡◌, ◌++◌, drop}
use Rattle.cet_asm.specs.Tables.{targets_at}
use Rattle.cet_asm.specs.Whole.{bytes_of}
use Rattle.cet_asm.proofs.section.stored_bytes.Given as goal

abbrev pub invariant-loop-p : goal.invariant-loop-p
invariant-loop-p l = l.bytes ++ bytes_of (targets_at l.targets) l.section (drop l.p-index l.placed) ≡ bytes_of (targets_at l.targets) l.section l.placed
