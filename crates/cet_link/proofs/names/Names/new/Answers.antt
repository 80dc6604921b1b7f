use Rattle.cet_link.proofs.NameLemmas.{AreNames-none}
use Rattle.cet_link.proofs.names.Names.new.Goals as goal

pub returns : goal.returns
returns c = AreNames-none (record { known = c.new.result }) c.new.ensures.empty
