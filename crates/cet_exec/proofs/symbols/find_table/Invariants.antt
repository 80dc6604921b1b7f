use Rattle.std.proofs.Common.{◌≡◌, None}
use Rattle.cet_elf.specs.Below.{first_below}
use Rattle.cet_elf.specs.ObjectSections.{is_symbol_table}
use Rattle.cet_exec.proofs.symbols.find_table.Given as goal

abbrev pub invariant-loop-i : goal.invariant-loop-i
invariant-loop-i l = first_below l.i (is_symbol_table l.bytes) ≡ None
