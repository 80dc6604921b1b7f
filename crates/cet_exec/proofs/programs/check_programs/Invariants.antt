use Rattle.std.proofs.Common.{◌≡◌, []}
use Rattle.cet_elf.specs.Below.{each_below, first_below}
use Rattle.cet_exec.specs.Programs.{is_note, program_faults}
use Rattle.cet_exec.proofs.programs.check_programs.Given as goal

abbrev pub invariant-loop-i : goal.invariant-loop-i
invariant-loop-i l = (each_below l.i (program_faults l.bytes) ≡ []) × (l.note ≡ first_below l.i (is_note l.bytes))
