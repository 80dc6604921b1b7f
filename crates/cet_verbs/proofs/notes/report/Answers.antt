use Rattle.std.proofs.Common.{◌≡◌, length, refl, sym, ap, ◌∙◌}
use Rattle.std.proofs.lemmas.Result.{err_from_is_err_and}
use Rattle.cet_note.specs.Merged.{IsMerged}
use Rattle.cet_verbs.specs.Command.{Notes}
use Rattle.cet_verbs.specs.Named.{names_of}
use Rattle.cet_verbs.specs.Held.{HoldsBytes}
use Rattle.cet_verbs.specs.Notes.{IsFileNote, AllBoth, items_of, notes_text}
use Rattle.cet_verbs.proofs.NameLemmas.{length-names_of}
use Rattle.cet_verbs.proofs.Pairs.{AllBoth-length, length-items_of}
use Rattle.cet_verbs.proofs.StepLemmas.{hold_notes}
use Rattle.cet_verbs.proofs.notes.report.Goals as goal

pub returns-in_err-held-clause-refused : goal.returns-in_err-held-clause-refused
returns-in_err-held-clause-refused g c =
    let p = err_from_is_err_and c.from_residual.result c.from_residual.ensures.1 in
    rw (p.1, p.2) (c.in_err-held.ensures.refused (Notes (names_of c.args.names.now)) refl)

pub read_forms-requires : goal.read_forms-requires
read_forms-requires g c =
    sym (length-names_of c.args.names.now) ∙ AllBoth-length _ _ _ c.in_ok-held.ensures.held ∙ length-items_of c.in_ok-held.held.items ∙ sym (ap length c.deref.ensures.value)

pub returns-in_err-notes-clause-refused : goal.returns-in_err-notes-clause-refused
returns-in_err-notes-clause-refused g c =
    let p = err_from_is_err_and c.from_residual-in_err-notes.result c.from_residual-in_err-notes.ensures.1 in
    let told = g.F.Files.contents c.args.files.now in
    let names = names_of c.args.names.now in
    let holds : AllBoth (HoldsBytes told) names (items_of c.deref.result.now) = rw c.deref.ensures.value c.in_ok-held.ensures.held in
    rw (p.1, p.2) (c.in_err-notes.ensures.refused told (g.F.Files.faults c.args.files.now) (g.F.Files.faults c.read_files.new.files) holds)

pub notes_report-requires : goal.notes_report-requires
notes_report-requires g c =
    let each : AllBoth IsFileNote (items_of c.in_ok-held.held.items) c.in_ok-notes.notes.items = rw c.deref.ensures.value at c.in_ok-notes.ensures.notes in
    sym (length-names_of c.args.names.now) ∙ AllBoth-length _ _ _ c.in_ok-held.ensures.held ∙ AllBoth-length _ _ _ each ∙ sym (ap length c.deref-3.ensures.value)

pub returns-clause-reported : goal.returns-clause-reported
returns-clause-reported g c =
    let told = g.F.Files.contents c.args.files.now in
    let names = names_of c.args.names.now in
    let notes = c.in_ok-notes.notes.items in
    let each : AllBoth IsFileNote (items_of c.in_ok-held.held.items) notes = rw c.deref.ensures.value at c.in_ok-notes.ensures.notes in
    let merged : IsMerged notes c.in-Ok.merged = rw c.deref-2.ensures.value at c.in-Ok.ensures in
    let text : c.in-Ok-notes_report.text.items ≡ notes_text names notes c.in-Ok.merged = rw c.deref-3.ensures.value at c.in-Ok-notes_report.ensures in
    (notes, c.in-Ok.merged, hold_notes told names (items_of c.in_ok-held.held.items) notes c.in_ok-held.ensures.held each, merged, refl, text)
