use Rattle.std.proofs.Common.{◌≡◌, [], take}
use Rattle.cet_link.specs.Inputs.{symbols}
use Rattle.cet_link.specs.Faults.{input_faults}
use Rattle.cet_link.specs.Known.{AreNames}
use Rattle.cet_link.proofs.scan.scan.Given as goal

abbrev pub invariant-loop-number : goal.invariant-loop-number
invariant-loop-number l = (input_faults [] 0 (take l.number l.inputs) ≡ []) × AreNames (symbols (take l.number l.inputs)) l.names
