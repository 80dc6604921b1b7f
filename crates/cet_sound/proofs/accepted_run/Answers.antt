use Rattle.cet_invariant.proofs.Events.{events_are_cp_free}
use Rattle.cet_sound.proofs.accepted_run.Goals as goal

pub returns : goal.returns
returns c = events_are_cp_free c.args.image.now c.args.input.now c.args.events.now c.requires
