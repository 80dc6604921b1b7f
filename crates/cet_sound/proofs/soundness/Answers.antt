use Rattle.std.proofs.Common.{inr}
use Rattle.cet_process.specs.After.{after}
use Rattle.cet_invariant.proofs.Started.{start_sorts, raw_starts}
use Rattle.cet_invariant.proofs.Events.{event_survives, no_cp_death, events_are_cp_free}
use Rattle.cet_sound.proofs.soundness.Goals as goal

pub returns-clause-loaded : goal.returns-clause-loaded
returns-clause-loaded c = raw_starts

pub returns-clause-start : goal.returns-clause-start
returns-clause-start c = λ image input S keeps starts. inr (start_sorts image input S keeps starts)

pub returns-clause-event : goal.returns-clause-event
returns-clause-event c = λ image S e keeps in_range sound.
    let survives = event_survives image S e keeps sound in
    (survives.sound, no_cp_death image (after S e) survives)

pub returns-clause-run : goal.returns-clause-run
returns-clause-run c = λ image input events keeps bytes in_range. events_are_cp_free image input events keeps
