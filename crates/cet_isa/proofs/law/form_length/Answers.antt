use Rattle.cet_isa.proofs.Sizes.{form_length as law}
use Rattle.cet_isa.proofs.law.form_length.Goals as goal

pub returns : goal.returns
returns c = law
