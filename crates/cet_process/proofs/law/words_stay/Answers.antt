use Rattle.cet_process.proofs.EventWords.{event_keeps_words}
use Rattle.cet_process.proofs.law.words_stay.Goals as goal

pub returns : goal.returns
returns c = event_keeps_words
