use Rattle.cet_isa.proofs.Laws.{short_is_proper_prefix as law}
use Rattle.cet_isa.proofs.law.short_is_proper_prefix.Goals as goal

pub returns : goal.returns
returns c = law
