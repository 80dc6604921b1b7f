use Rattle.cet_run.proofs.Limits.{limited}
use Rattle.cet_run.proofs.law.is_limited.Goals as goal

pub returns : goal.returns
returns c = limited
