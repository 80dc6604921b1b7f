use Rattle.cet_asm.proofs.Written.{IsWritten-of}
use Rattle.cet_asm.proofs.assembly.read_body.Goals as goal

pub returns-in-Ok-clause-written : goal.returns-in-Ok-clause-written
returns-in-Ok-clause-written c = IsWritten-of c.in-Some.keyword c.in-Some.rest.now c.in-Ok.statement c.in-Ok.ensures
