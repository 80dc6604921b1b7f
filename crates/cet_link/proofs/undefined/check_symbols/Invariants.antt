use Rattle.std.proofs.Common.{◌≡◌, List, [], take}
use Rattle.cet_link.specs.Inputs.{Met, met_in}
use Rattle.cet_link.specs.Faults.{undefined_faults}
use Rattle.cet_link.specs.Known.{AreNames}
use Rattle.cet_link.proofs.undefined.check_symbols.Given as goal

abbrev pub invariant-loop-symbol : goal.invariant-loop-symbol
invariant-loop-symbol l = (all : List Met) → AreNames all l.names → undefined_faults all (met_in l.input (take l.symbol-index l.symbols)) ≡ []
