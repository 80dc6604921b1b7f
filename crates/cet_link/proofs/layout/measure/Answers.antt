use Rattle.std.proofs.Common.{arith, subst, ◌≤◌, ℕ, ◌+◌}
use Rattle.cet_link.specs.Places.{code_end, read_start, read_end, write_start, write_end}
use Rattle.cet_link.proofs.MeasureLemmas.{code-measured, read-started, note-ended, read-measured, write-started, stored-measured, write-measured, past-code, past-note, past-read, past-stored, past-write, all-fit}
use Rattle.cet_link.proofs.layout.measure.Goals as goal

pub returns-in_err-code_end : goal.returns-in_err-code_end
returns-in_err-code_end c = rw c.from_residual.ensures (past-code c.args.inputs.now c.args.note.now c.in_err-code_end.ensures)

pub returns-then-note-gt-CLASS_LIMIT : goal.returns-then-note-gt-CLASS_LIMIT
returns-then-note-gt-CLASS_LIMIT c = past-note c.args.inputs.now c.args.note.now c.if-note-gt-CLASS_LIMIT.true

pub returns-in_err-read_end : goal.returns-in_err-read_end
returns-in_err-read_end c =
    let inputs = c.args.inputs.now in
    let note = c.args.note.now in
    let code = code-measured inputs c.in_ok-code_end.code_end c.in_ok-code_end.ensures.0 in
    let start = read-started inputs c.in_ok-code_end.code_end c.next_multiple_of-read_start.result code c.next_multiple_of-read_start.ensures.value in
    rw c.from_residual-in_err-read_end.ensures (past-read inputs note c.next_multiple_of-read_start.result _ start (note-ended inputs note c.next_multiple_of-read_start.result start) c.in_err-read_end.ensures)

pub returns-in_err-stored_end : goal.returns-in_err-stored_end
returns-in_err-stored_end c =
    let inputs = c.args.inputs.now in
    let note = c.args.note.now in
    let code = code-measured inputs c.in_ok-code_end.code_end c.in_ok-code_end.ensures.0 in
    let start = read-started inputs c.in_ok-code_end.code_end c.next_multiple_of-read_start.result code c.next_multiple_of-read_start.ensures.value in
    let read = read-measured inputs note _ c.in_ok-read_end.read_end (note-ended inputs note c.next_multiple_of-read_start.result start) c.in_ok-read_end.ensures.0 in
    let write = write-started inputs note c.in_ok-read_end.read_end c.next_multiple_of-write_start.result read c.next_multiple_of-write_start.ensures.value in
    rw c.from_residual-in_err-stored_end.ensures (past-stored inputs note c.next_multiple_of-write_start.result write c.in_err-stored_end.ensures)

pub returns-in_err-write_end : goal.returns-in_err-write_end
returns-in_err-write_end c =
    let inputs = c.args.inputs.now in
    let note = c.args.note.now in
    let code = code-measured inputs c.in_ok-code_end.code_end c.in_ok-code_end.ensures.0 in
    let start = read-started inputs c.in_ok-code_end.code_end c.next_multiple_of-read_start.result code c.next_multiple_of-read_start.ensures.value in
    let read = read-measured inputs note _ c.in_ok-read_end.read_end (note-ended inputs note c.next_multiple_of-read_start.result start) c.in_ok-read_end.ensures.0 in
    let write = write-started inputs note c.in_ok-read_end.read_end c.next_multiple_of-write_start.result read c.next_multiple_of-write_start.ensures.value in
    let stored = stored-measured inputs note c.next_multiple_of-write_start.result c.in_ok-stored_end.stored_end write c.in_ok-stored_end.ensures.0 in
    rw c.from_residual-in_err-write_end.ensures (past-write inputs note c.next_multiple_of-write_start.result c.in_ok-stored_end.stored_end write stored c.in_err-write_end.ensures)

pub returns : goal.returns
returns c =
    let inputs = c.args.inputs.now in
    let note = c.args.note.now in
    let code = code-measured inputs c.in_ok-code_end.code_end c.in_ok-code_end.ensures.0 in
    let start = read-started inputs c.in_ok-code_end.code_end c.next_multiple_of-read_start.result code c.next_multiple_of-read_start.ensures.value in
    let ended = note-ended inputs note c.next_multiple_of-read_start.result start in
    let read = read-measured inputs note _ c.in_ok-read_end.read_end ended c.in_ok-read_end.ensures.0 in
    let write = write-started inputs note c.in_ok-read_end.read_end c.next_multiple_of-write_start.result read c.next_multiple_of-write_start.ensures.value in
    let stored = stored-measured inputs note c.next_multiple_of-write_start.result c.in_ok-stored_end.stored_end write c.in_ok-stored_end.ensures.0 in
    let end = write-measured inputs note c.in_ok-stored_end.stored_end c.in_ok-write_end.write_end stored c.in_ok-write_end.ensures.0 in
    let code_fits : code_end inputs ≤ 20975616 = subst (λ (n : ℕ). n ≤ 20975616) code c.in_ok-code_end.ensures.1 in
    let read_fits : read_end inputs note ≤ read_start inputs + 16777216 = omega (arith, read, start, c.in_ok-read_end.ensures.1) in
    let write_fits : write_end inputs note ≤ write_start inputs note + 16777216 = omega (arith, end, write, c.in_ok-write_end.ensures.1) in (
      all-fit inputs note code_fits read_fits write_fits,
      record { code_end = code; read_start = start; note_end = ended; read_end = read; write_start = write; stored_end = stored; write_end = end },
    )
