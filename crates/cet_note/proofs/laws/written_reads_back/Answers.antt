use Rattle.cet_note.specs.Form.{written}
use Rattle.cet_note.proofs.Written.{written-IsForm}
use Rattle.cet_note.proofs.WholeNotes.{note-again}
use Rattle.cet_note.proofs.laws.written_reads_back.Goals as goal

pub returns-clause-form : goal.returns-clause-form
returns-clause-form c note is = written-IsForm note is

pub returns-clause-read : goal.returns-clause-read
returns-clause-read c note is = note-again (written note) note (written-IsForm note is)
