use Rattle.std.proofs.Common.{take, map}
use Rattle.cet_link.specs.Known.{met_of, Keeps}
use Rattle.cet_link.proofs.output.keep_all.Given as goal

abbrev pub invariant-loop-definition : goal.invariant-loop-definition
invariant-loop-definition l = Keeps l.initial.kept.items l.kept.items (map met_of (take l.definition-index l.definitions))
