use Rattle.std.proofs.Common.{◌++◌, ◌<◌, length, sym, arith}
use Rattle.cet_verbs.specs.Named.{names_of}
use Rattle.cet_verbs.specs.Notes.{note_lines}
use Rattle.cet_verbs.proofs.NameLemmas.{name_at, length-names_of}
use Rattle.cet_verbs.proofs.TextLemmas.{lines_go}
use Rattle.cet_verbs.proofs.notes_text.put_lines.Goals as goal

pub loop-i-preserved : goal.loop-i-preserved
loop-i-preserved c =
    let names = c.args.names.now in
    let i = c.loop-i.i in
    let in_names : i < length (names_of names) = omega (arith, length-names_of names) in
    let in_notes : i < length c.args.notes.now = omega arith in
    lines_go c.loop-i.text.items c.put_line.new.text.items (names_of names) c.args.notes.now i _ c.index-notes-i.result (c.args.text.now.items ++ note_lines (names_of names) c.args.notes.now) in_names in_notes (name_at names i _ _ c.loop-i-test.true) (sym c.index-notes-i.is) c.in_ok-put_line.ensures c.loop-i.invariant
