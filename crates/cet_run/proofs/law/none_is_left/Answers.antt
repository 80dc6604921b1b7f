use Rattle.cet_run.proofs.Limits.{none_more}
use Rattle.cet_run.proofs.law.none_is_left.Goals as goal

pub returns : goal.returns
returns c = none_more
