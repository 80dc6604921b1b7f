use Rattle.std.proofs.Common.{◌≡◌, ◌++◌, take, map}
use Rattle.cet_asm.proofs.names_used.push_names.Given as goal

abbrev pub invariant-loop-field : goal.invariant-loop-field
invariant-loop-field l = l.used.items ≡ l.initial.used.items ++ map (λ u. u.name) (take l.field-index l.uses)
