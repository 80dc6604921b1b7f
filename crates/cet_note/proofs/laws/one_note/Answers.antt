use Rattle.std.proofs.Common.{sym, ◌∙◌}
use Rattle.cet_note.proofs.Steps.{ok_is}
use Rattle.cet_note.proofs.WholeNotes.{note-again}
use Rattle.cet_note.proofs.laws.one_note.Goals as goal

pub returns : goal.returns
returns c bytes m n p q = ok_is m n (sym (note-again bytes m p) ∙ note-again bytes n q)
