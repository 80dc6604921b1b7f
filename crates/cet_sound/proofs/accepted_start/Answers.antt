use Rattle.std.proofs.Common.{inr}
use Rattle.cet_invariant.proofs.Started.{start_sorts, raw_starts}
use Rattle.cet_sound.proofs.accepted_start.Goals as goal

pub returns-clause-loaded : goal.returns-clause-loaded
returns-clause-loaded c = λ bytes raw. raw_starts c.args.image.now bytes c.args.input.now raw

pub returns-clause-sound : goal.returns-clause-sound
returns-clause-sound c = λ S starts. inr (start_sorts c.args.image.now c.args.input.now S c.requires starts)
