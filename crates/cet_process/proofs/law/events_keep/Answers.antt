use Rattle.cet_process.proofs.Events.{event_keeps, run_keeps}
use Rattle.cet_process.proofs.law.events_keep.Goals as goal

pub returns : goal.returns
returns c = record { event = event_keeps; run = run_keeps }
