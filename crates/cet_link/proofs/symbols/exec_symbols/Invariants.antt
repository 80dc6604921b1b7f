use Rattle.std.proofs.Common.{◌≡◌, ℕ, List, map, take}
use Rattle.cet_elf.specs.declared.object.Object.{Object}
use Rattle.cet_link.specs.Known.{met_of}
use Rattle.cet_link.specs.Laid.{ArePlaces}
use Rattle.cet_link.specs.Linked.{exec_symbol}
use Rattle.cet_link.proofs.symbols.exec_symbols.Given as goal

abbrev pub invariant-loop-met : goal.invariant-loop-met
invariant-loop-met l =
    (inputs : List Object) → (note : List ℕ) → ArePlaces inputs note l.places → l.symbols ≡ map (exec_symbol inputs note) (map met_of (take l.met-index l.kept))
