use Rattle.cet_isa.proofs.HasCanonical.{form_has_canonical as law}
use Rattle.cet_isa.proofs.law.form_has_canonical.Goals as goal

pub returns : goal.returns
returns c = law
