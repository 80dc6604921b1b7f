use Rattle.cet_exec.proofs.ReadBack.{reads_back}
use Rattle.cet_exec.proofs.law.written_reads_back.Goals as goal

pub returns : goal.returns
returns c = reads_back
