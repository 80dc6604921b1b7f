use Rattle.cet_cert.specs.Breach.{IsFirstOf, BrokenBelow}
use Rattle.cet_cert.proofs.certifier.certify.Given as goal

abbrev pub invariant-loop-function : goal.invariant-loop-function
invariant-loop-function l = IsFirstOf (BrokenBelow l.image l.function-index) l.first
