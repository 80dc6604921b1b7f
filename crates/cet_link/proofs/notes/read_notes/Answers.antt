use Rattle.std.proofs.Common.{sym, ◌∙◌}
use Rattle.std.proofs.lemmas.Result.{err_from_is_err_and}
use Rattle.cet_link.proofs.NoteLemmas.{notes-none, notes-more, note_faults-more, note_faults-first}
use Rattle.cet_link.proofs.notes.read_notes.Goals as goal

pub loop-number-init : goal.loop-number-init
loop-number-init c = (notes-none.1, c.new-notes.ensures.items ∙ sym notes-none.0)

pub loop-number-preserved : goal.loop-number-preserved
loop-number-preserved c =
    let inputs = c.args.inputs.now in
    let i = c.loop-number.number in
    let o = c.index-inputs-number.result in (
      note_faults-more inputs i o c.loop-number-test.true c.index-inputs-number.is c.loop-number.invariant.0 c.in_ok-note.ensures.0,
      c.in_ok-add.ensures ∙ notes-more inputs i o c.loop-number.notes.items c.in_ok-note.note c.loop-number-test.true c.index-inputs-number.is c.loop-number.invariant.1 c.in_ok-note.ensures.1,
    )

pub returns-in_err-note : goal.returns-in_err-note
returns-in_err-note c =
    let p = err_from_is_err_and c.from_residual.result c.from_residual.ensures.1 in
    rw (p.1, p.2) (note_faults-first c.in_err-note.field-0.0 c.args.inputs.now c.loop-number.number c.index-inputs-number.result c.loop-number-test.true c.index-inputs-number.is c.loop-number.invariant.0 c.in_err-note.ensures)
