use Rattle.std.proofs.Common.{take, map}
use Rattle.cet_asm.specs.Placing.{MeetsNames}
use Rattle.cet_asm.proofs.counts.meet_uses.Given as goal

abbrev pub invariant-loop-field : goal.invariant-loop-field
invariant-loop-field l = MeetsNames l.initial.names l.names (map (λ u. u.name) (take l.field-index l.uses))
