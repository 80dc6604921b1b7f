use Rattle.cet_process.proofs.Events.{end_stays}
use Rattle.cet_process.proofs.law.end_stays.Goals as goal

pub returns : goal.returns
returns c = end_stays
