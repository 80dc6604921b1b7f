use Rattle.cet_process.specs.declared.event.Event.TheVariants.{Signal}
use Rattle.cet_invariant.proofs.Events.{event_survives, no_cp_death}
use Rattle.cet_sound.proofs.accepted_signal.Goals as goal

pub returns-clause-sound : goal.returns-clause-sound
returns-clause-sound c = (event_survives c.args.image.now c.args.process.now (Signal c.args.thread c.args.signo) c.requires.keeps_rules c.requires.sound).sound

pub returns-clause-no_death : goal.returns-clause-no_death
returns-clause-no_death c = no_cp_death c.args.image.now _ (event_survives c.args.image.now c.args.process.now (Signal c.args.thread c.args.signo) c.requires.keeps_rules c.requires.sound)
