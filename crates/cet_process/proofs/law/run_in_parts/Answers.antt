use Rattle.cet_process.proofs.Events.{run_in_parts}
use Rattle.cet_process.proofs.law.run_in_parts.Goals as goal

pub returns : goal.returns
returns c = run_in_parts
