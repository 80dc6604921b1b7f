use Rattle.bitflags.proofs.OnLiterals.{bitflags_on_literals}
use Rattle.cet_note.proofs.claims.features.Goals as goal

pub returns : goal.returns
unfolding bitflags_on_literals
returns c = let h = c.from_bits_truncate.ensures tt in cc
