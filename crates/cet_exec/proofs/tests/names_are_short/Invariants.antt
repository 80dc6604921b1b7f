use Rattle.std.proofs.Common.{◌≡◌, ◌≤◌, length, take}
use Rattle.std.specs.List.{sum_by}
use Rattle.cet_exec.proofs.tests.names_are_short.Given as goal

abbrev pub invariant-loop-s : goal.invariant-loop-s
invariant-loop-s l = record { sum : l.sum ≡ sum_by (λ s. length s.name) (take l.s-index l.symbols); small : l.sum ≤ 101000 }
