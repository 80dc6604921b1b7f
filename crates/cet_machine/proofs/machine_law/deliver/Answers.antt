use Rattle.cet_machine.proofs.StepKeeps.{deliver_keeps}
use Rattle.cet_machine.proofs.machine_law.deliver.Goals as goal

pub returns : goal.returns
returns c = deliver_keeps
