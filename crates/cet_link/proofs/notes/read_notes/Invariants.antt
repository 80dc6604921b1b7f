use Rattle.std.proofs.Common.{◌≡◌, [], take}
use Rattle.cet_link.specs.Notes.{notes, note_faults}
use Rattle.cet_link.proofs.notes.read_notes.Given as goal

abbrev pub invariant-loop-number : goal.invariant-loop-number
invariant-loop-number l = (note_faults (take l.number l.inputs) ≡ []) × (l.notes.items ≡ notes (take l.number l.inputs))
