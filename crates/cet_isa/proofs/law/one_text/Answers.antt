use Rattle.cet_isa.proofs.TextLaw.{one_text as law}
use Rattle.cet_isa.proofs.law.one_text.Goals as goal

pub returns : goal.returns
returns c = law
