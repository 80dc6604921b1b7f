use Rattle.std.proofs.Common.{◌≡◌, []}
use Rattle.std.proofs.lemmas.Result.{err_from_is_err_and}
use Rattle.cet_link.specs.First.{IsFirst}
use Rattle.cet_link.specs.Faults.{size_faults}
use Rattle.cet_link.specs.Planned.{IsMeasured}
use Rattle.cet_link.proofs.PlanLemmas.{first_name, first_size, first_overflow, no_fault, refused}
use Rattle.cet_link.proofs.check.make_plan.Goals as goal

pub returns-in_err-resolved-clause-fault : goal.returns-in_err-resolved-clause-fault
returns-in_err-resolved-clause-fault c =
    let p = err_from_is_err_and c.from_residual-in_err-resolved.result c.from_residual-in_err-resolved.ensures.1 in
    let e = c.in_err-resolved.field-0.0 in
    let inputs = c.args.inputs.now in
    let entry = c.args.entry.now in
    let note = c.in_ok-note.note.items in
    rw (p.1, p.2) (λ ne. refused e inputs entry note c.in_ok-note.ensures.note (first_name e inputs entry note c.in_err-resolved.ensures.fault) ne)

pub returns-in_err-measured-clause-fault : goal.returns-in_err-measured-clause-fault
returns-in_err-measured-clause-fault c =
    let p = err_from_is_err_and c.from_residual-in_err-measured.result c.from_residual-in_err-measured.ensures.1 in
    let e = c.in_err-measured.field-0.0 in
    let inputs = c.args.inputs.now in
    let entry = c.args.entry.now in
    let note = c.in_ok-note.note.items in
    let big : IsFirst e (size_faults inputs note) = rw c.deref.ensures.value at c.in_err-measured.ensures.fault in
    rw (p.1, p.2) (λ ne. refused e inputs entry note c.in_ok-note.ensures.note (first_size e inputs entry note c.in_ok-resolved.ensures.fault big) ne)

pub returns-in_err-check_overflow-clause-fault : goal.returns-in_err-check_overflow-clause-fault
returns-in_err-check_overflow-clause-fault c =
    let p = err_from_is_err_and c.from_residual-in_err-check_overflow.result c.from_residual-in_err-check_overflow.ensures.1 in
    let e = c.in_err-check_overflow.field-0.0 in
    let inputs = c.args.inputs.now in
    let entry = c.args.entry.now in
    let note = c.in_ok-note.note.items in
    let fit : size_faults inputs note ≡ [] = rw c.deref.ensures.value at c.in_ok-measured.ensures.fault in
    let measured : IsMeasured inputs note c.in_ok-measured.measured = rw c.deref.ensures.value at c.in_ok-measured.ensures.measured in
    let over = c.in_err-check_overflow.ensures note (c.in_ok-tables.ensures note measured.frame) in
    rw (p.1, p.2) (λ ne. refused e inputs entry note c.in_ok-note.ensures.note (first_overflow e inputs entry note c.in_ok-resolved.ensures.fault fit over) ne)

pub returns-clause-plan : goal.returns-clause-plan
returns-clause-plan c =
    let inputs = c.args.inputs.now in
    let entry = c.args.entry.now in
    let note = c.in_ok-note.note.items in
    let fit : size_faults inputs note ≡ [] = rw c.deref.ensures.value at c.in_ok-measured.ensures.fault in
    let measured : IsMeasured inputs note c.in_ok-measured.measured = rw c.deref.ensures.value at c.in_ok-measured.ensures.measured in
    let tables = c.in_ok-tables.ensures note measured.frame in
    record {
      merged = c.in_ok-note.ensures.note;
      sound = no_fault inputs entry note c.in_ok-resolved.ensures.fault fit (c.in_ok-check_overflow.ensures note tables);
      resolved = c.in_ok-resolved.ensures.resolved;
      measured = measured;
      tables = tables;
    }
