use Rattle.std.proofs.Common.{◌≡◌, [], take}
use Rattle.cet_link.specs.Inputs.{symbols}
use Rattle.cet_link.specs.Faults.{undefined_faults}
use Rattle.cet_link.proofs.undefined.check_undefined.Given as goal

abbrev pub invariant-loop-number : goal.invariant-loop-number
invariant-loop-number l = undefined_faults (symbols l.inputs) (symbols (take l.number l.inputs)) ≡ []
