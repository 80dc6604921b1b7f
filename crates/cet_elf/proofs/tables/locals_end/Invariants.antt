use Rattle.std.proofs.Common.{◌≡◌, ◌≤◌, take}
use Rattle.cet_elf.specs.Written.{locals_end}
use Rattle.cet_elf.proofs.tables.locals_end.Given as goal

abbrev pub invariant-loop-i : goal.invariant-loop-i
invariant-loop-i l = record { value : l.end ≡ locals_end (take l.i l.symbols); bound : l.end ≤ l.i }
