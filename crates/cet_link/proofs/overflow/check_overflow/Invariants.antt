use Rattle.std.proofs.Common.{◌≡◌, ℕ, List, [], take}
use Rattle.cet_link.specs.Inputs.{parts}
use Rattle.cet_link.specs.Faults.{overflow_faults}
use Rattle.cet_link.specs.Laid.{AreTables}
use Rattle.cet_link.proofs.overflow.check_overflow.Given as goal

abbrev pub invariant-loop-number : goal.invariant-loop-number
invariant-loop-number l = (note : List ℕ) → AreTables l.inputs note l.tables → overflow_faults l.inputs note (parts (take l.number l.inputs)) ≡ []
