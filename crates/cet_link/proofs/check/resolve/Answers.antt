use Rattle.cet_link.proofs.PlanLemmas.{NoGroups-sound}
use Rattle.cet_link.proofs.check.resolve.Goals as goal

pub returns-clause-groups : goal.returns-clause-groups
returns-clause-groups c = NoGroups-sound c.args.inputs.now c.in_ok-names.ensures.fault
