use Rattle.std.proofs.Common.{◌≡◌, ◌++◌, take}
use Rattle.std.specs.List.{flat_map}
use Rattle.cet_exec.specs.Written.{program_bytes}
use Rattle.cet_exec.proofs.writing.put_programs.Given as goal

abbrev pub invariant-loop-program : goal.invariant-loop-program
invariant-loop-program l = l.out.items ≡ l.fn.out.items ++ flat_map program_bytes (take l.program-index l.programs)
