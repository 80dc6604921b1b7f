use Rattle.cet_isa.proofs.CanonicalForm.{canonical_is_form as law}
use Rattle.cet_isa.proofs.law.canonical_is_form.Goals as goal

pub returns : goal.returns
returns c = law
