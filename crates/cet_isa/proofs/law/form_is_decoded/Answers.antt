use Rattle.cet_isa.proofs.Laws.{form_is_decoded as law}
use Rattle.cet_isa.proofs.law.form_is_decoded.Goals as goal

pub returns : goal.returns
returns c = law
