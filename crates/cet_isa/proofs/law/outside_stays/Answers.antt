use Rattle.cet_isa.proofs.Laws.{outside_stays as law}
use Rattle.cet_isa.proofs.law.outside_stays.Goals as goal

pub returns : goal.returns
returns c = law
