use Rattle.cet_asm.specs.Tables.{targets_at}
use Rattle.cet_asm.proofs.Behind.{first_late-kind}
use Rattle.cet_asm.proofs.object.whole.Goals as goal

pub returns-in-Some-clause-late : goal.returns-in-Some-clause-late
returns-in-Some-clause-late c = first_late-kind (targets_at c.in_ok-targets.targets) c.args.placed.now c.in-Some.fault c.in-Some.ensures
