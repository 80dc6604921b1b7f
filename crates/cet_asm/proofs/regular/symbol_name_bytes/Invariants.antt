use Rattle.std.proofs.Common.{◌≡◌, take, length}
use Rattle.std.specs.List.{sum_by}
use Rattle.cet_asm.proofs.regular.symbol_name_bytes.Given as goal

abbrev pub invariant-loop-symbol : goal.invariant-loop-symbol
invariant-loop-symbol l = l.count ≡ sum_by (λ s. length s.name) (take l.symbol-index l.symbols)
