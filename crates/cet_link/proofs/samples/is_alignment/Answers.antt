use Rattle.std.proofs.Common.{arith}
use Rattle.cet_link.proofs.samples.is_alignment.Goals as goal

pub returns-in-1 : goal.returns-in-1
returns-in-1 c truth = (0, omega arith, c.in-1.is)

pub returns-in-16 : goal.returns-in-16
returns-in-16 c truth = (4, omega arith, c.in-16.is)

pub returns-in-4096 : goal.returns-in-4096
returns-in-4096 c truth = (12, omega arith, c.in-4096.is)
