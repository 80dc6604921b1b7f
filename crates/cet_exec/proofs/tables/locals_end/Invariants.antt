use Rattle.std.proofs.Common.{◌≡◌, ◌+◌, ◌≤◌, take}
use Rattle.cet_elf.specs.Written.{locals_end}
use Rattle.cet_exec.proofs.Locals.{all_of}
use Rattle.cet_exec.proofs.tables.locals_end.Given as goal

abbrev pub invariant-loop-i : goal.invariant-loop-i
invariant-loop-i l = record { value : l.end ≡ locals_end (all_of l.exec.segments (take l.i l.symbols)); bound : l.end ≤ l.i + 1 }
