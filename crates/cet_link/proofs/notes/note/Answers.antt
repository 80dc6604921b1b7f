use Rattle.std.proofs.Common.{refl}
use Rattle.cet_note.specs.Fault.{note_in}
use Rattle.cet_link.proofs.notes.note.Goals as goal

pub returns-in-None : goal.returns-in-None
unfolding note_in
returns-in-None c = rw (c.in-None.is, c.new.ensures) refl
