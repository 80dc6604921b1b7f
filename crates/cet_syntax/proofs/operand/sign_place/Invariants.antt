use Rattle.std.proofs.Common.{◌≡◌, ◌+◌, drop}
use Rattle.std.specs.List.{position_or_len}
use Rattle.cet_syntax.specs.Operand.{is_sign}
use Rattle.cet_syntax.proofs.operand.sign_place.Given as goal

abbrev pub invariant-loop-i : goal.invariant-loop-i
invariant-loop-i l = l.i + position_or_len is_sign (drop l.i l.bytes) ≡ position_or_len is_sign l.bytes
