use Rattle.std.proofs.Common.{take}
use Rattle.cet_link.specs.Inputs.{met_in}
use Rattle.cet_link.specs.Linked.{locals}
use Rattle.cet_link.specs.Known.{Keeps}
use Rattle.cet_link.proofs.output.keep_locals.Given as goal

abbrev pub invariant-loop-symbol : goal.invariant-loop-symbol
invariant-loop-symbol l = Keeps l.initial.kept.items l.kept.items (locals (met_in l.input (take l.symbol-index l.symbols)))
