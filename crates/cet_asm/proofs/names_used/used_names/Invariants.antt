use Rattle.std.proofs.Common.{◌≡◌, take}
use Rattle.std.specs.List.{flat_map}
use Rattle.cet_asm.specs.Assembled.{used_names}
use Rattle.cet_asm.proofs.names_used.used_names.Given as goal

abbrev pub invariant-loop-p : goal.invariant-loop-p
invariant-loop-p l = l.used.items ≡ flat_map used_names (take l.p-index l.placed)
