-- both are what is decoded
use Rattle.cet_isa.proofs.Heads.{one_head}
use Rattle.cet_isa.proofs.law.one_head.Goals as goal

pub returns : goal.returns
returns c = one_head
