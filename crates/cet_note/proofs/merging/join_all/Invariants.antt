use Rattle.std.proofs.Common.{◌∷◌, take}
use Rattle.cet_note.specs.Merged.{IsMergedOf}
use Rattle.cet_note.proofs.merging.join_all.Given as goal

abbrev pub invariant-loop-input : goal.invariant-loop-input
invariant-loop-input l = IsMergedOf (l.fn.first ∷ take l.input-index l.others) l.merged
