use Rattle.std.proofs.Common.{◌≡◌, ◌^◌, min, length, take, map}
use Rattle.std.specs.List.{sum_by}
use Rattle.cet_link.specs.Known.{met_of}
use Rattle.cet_link.proofs.output.name_bytes.Given as goal

abbrev pub invariant-loop-met : goal.invariant-loop-met
invariant-loop-met l = l.total ≡ min (sum_by (λ m. length m.symbol.name) (map met_of (take l.met-index l.symbols))) (2 ^ 31)
