use Rattle.cet_signal.proofs.Kept.{pop_keeps_frame, store_keeps_frame}
use Rattle.cet_signal.proofs.law.frame_is_kept.Goals as goal

pub returns : goal.returns
returns c = record { pop = pop_keeps_frame; store = store_keeps_frame }
