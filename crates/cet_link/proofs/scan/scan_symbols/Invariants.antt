use Rattle.std.proofs.Common.{◌≡◌, List, [], ◌++◌, take}
use Rattle.cet_link.specs.Inputs.{Met, met_in}
use Rattle.cet_link.specs.Faults.{symbol_faults}
use Rattle.cet_link.specs.Known.{AreNames}
use Rattle.cet_link.proofs.scan.scan_symbols.Given as goal

abbrev pub invariant-loop-symbol : goal.invariant-loop-symbol
invariant-loop-symbol l = (before : List Met) → AreNames before l.initial.names
    → (symbol_faults before (met_in l.input (take l.symbol-index l.symbols)) ≡ []) × AreNames (before ++ met_in l.input (take l.symbol-index l.symbols)) l.names
