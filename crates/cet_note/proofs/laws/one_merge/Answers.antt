use Rattle.cet_note.proofs.OneMergeLemmas.{one_merge}
use Rattle.cet_note.proofs.laws.one_merge.Goals as goal

pub returns : goal.returns
returns c = one_merge
