use Rattle.cet_isa.proofs.ShortestForm.{canonical_is_shortest as law}
use Rattle.cet_isa.proofs.law.canonical_is_shortest.Goals as goal

pub returns : goal.returns
returns c = law
