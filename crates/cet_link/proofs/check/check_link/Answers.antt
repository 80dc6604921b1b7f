use Rattle.cet_link.proofs.UniqueLemmas.{Refuses-from}
use Rattle.cet_link.proofs.check.check_link.Goals as goal

pub returns-clause-refused : goal.returns-clause-refused
returns-clause-refused c = Refuses-from c.args.inputs.now c.args.entry.now c.make_plan.result c.make_plan.ensures.plan c.make_plan.ensures.fault
