use Rattle.std.proofs.Common.{[], take}
use Rattle.cet_link.specs.Inputs.{symbols}
use Rattle.cet_link.specs.Linked.{locals}
use Rattle.cet_link.specs.Known.{Keeps}
use Rattle.cet_link.proofs.output.local_symbols.Given as goal

abbrev pub invariant-loop-number : goal.invariant-loop-number
invariant-loop-number l = Keeps [] l.kept.items (locals (symbols (take l.number l.inputs)))
