use Rattle.std.proofs.Common.{◌≡◌, ◌++◌, drop}
use Rattle.cet_verbs.specs.Named.{names_of}
use Rattle.cet_verbs.specs.Notes.{note_lines}
use Rattle.cet_verbs.proofs.notes_text.put_lines.Given as goal

-- with the lines that are left, the text is whole
abbrev pub invariant-loop-i : goal.invariant-loop-i
invariant-loop-i l = l.text.items ++ note_lines (drop l.i (names_of l.names)) (drop l.i l.notes) ≡ l.initial.text.items ++ note_lines (names_of l.names) l.notes
