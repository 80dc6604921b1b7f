use Rattle.std.proofs.Common.{take}
use Rattle.cet_verbs.specs.Notes.{IsFileNote, AllBoth, items_of}
use Rattle.cet_verbs.proofs.notes.read_forms.Given as goal

-- the bytes so far are the notes so far
abbrev pub invariant-loop-i : goal.invariant-loop-i
invariant-loop-i l = AllBoth IsFileNote (take l.i (items_of l.held)) l.notes.items
