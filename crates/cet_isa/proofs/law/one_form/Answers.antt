use Rattle.cet_isa.proofs.Laws.{one_form as law}
use Rattle.cet_isa.proofs.law.one_form.Goals as goal

pub returns : goal.returns
returns c = law
