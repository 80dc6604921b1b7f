use Rattle.cet_run.proofs.Gained.{own_front}
use Rattle.cet_run.proofs.writing.piece_from.Goals as goal

pub returns-clause-piece : goal.returns-clause-piece
returns-clause-piece c = own_front _ _
