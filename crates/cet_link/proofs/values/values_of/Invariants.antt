use Rattle.std.proofs.Common.{◌≡◌, ℕ, List, map, take}
use Rattle.cet_elf.specs.declared.object.Object.{Object}
use Rattle.cet_link.specs.Inputs.{met_in}
use Rattle.cet_link.specs.Values.{value_of}
use Rattle.cet_link.specs.Laid.{AreKnown}
use Rattle.cet_link.proofs.values.values_of.Given as goal

abbrev pub invariant-loop-symbol : goal.invariant-loop-symbol
invariant-loop-symbol l =
    (inputs : List Object) → (note : List ℕ) → AreKnown inputs note l.places l.names → l.row.items ≡ map (λ m. value_of inputs note m) (met_in l.input (take l.symbol-index l.symbols))
