use Rattle.cet_isa.proofs.Laws.{decoded_is_form as law}
use Rattle.cet_isa.proofs.law.decoded_is_form.Goals as goal

pub returns : goal.returns
returns c = law
