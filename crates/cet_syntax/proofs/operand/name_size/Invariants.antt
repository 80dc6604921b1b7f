use Rattle.std.proofs.Common.{◌≡◌, ◌+◌, drop}
use Rattle.std.specs.List.{prefix_len}
use Rattle.cet_syntax.specs.Name.{continues_name}
use Rattle.cet_syntax.proofs.operand.name_size.Given as goal

abbrev pub invariant-loop-i : goal.invariant-loop-i
invariant-loop-i l = l.i + prefix_len continues_name (drop l.i l.bytes) ≡ prefix_len continues_name l.bytes
