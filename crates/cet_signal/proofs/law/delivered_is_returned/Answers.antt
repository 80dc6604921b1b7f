use Rattle.cet_signal.proofs.Returned.{delivered_is_returned, exactly_returned}
use Rattle.cet_signal.proofs.law.delivered_is_returned.Goals as goal

pub returns : goal.returns
returns c = record { returned = delivered_is_returned; exactly = exactly_returned }
