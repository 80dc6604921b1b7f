use Rattle.std.proofs.Common.{refl}
use Rattle.std.proofs.lemmas.Result.{err_from_is_err_and}
use Rattle.cet_link.specs.Inputs.{symbols}
use Rattle.cet_link.specs.Faults.{undefined_fault}
use Rattle.cet_link.proofs.ScanLemmas.{symbols-none}
use Rattle.cet_link.proofs.UndefinedLemmas.{symbols_none, symbols_first}
use Rattle.cet_link.proofs.undefined.check_undefined.Goals as goal

pub loop-number-init : goal.loop-number-init
loop-number-init c = rw symbols-none refl

pub loop-number-preserved : goal.loop-number-preserved
loop-number-preserved c =
    let all = symbols c.args.inputs.now in
    let one = rw c.as_slice.ensures at (c.in_ok-check_symbols.ensures all c.requires.names) in
    symbols_none (undefined_fault all) c.args.inputs.now c.loop-number.number c.index-inputs-number.result c.loop-number-test.true c.index-inputs-number.is c.loop-number.invariant one

pub returns-in_err-check_symbols : goal.returns-in_err-check_symbols
returns-in_err-check_symbols c =
    let all = symbols c.args.inputs.now in
    let p = err_from_is_err_and c.from_residual.result c.from_residual.ensures.1 in
    let one = rw c.as_slice.ensures at (c.in_err-check_symbols.ensures all c.requires.names) in
    rw (p.1, p.2) (symbols_first c.in_err-check_symbols.field-0.0 (undefined_fault all) c.args.inputs.now c.loop-number.number c.index-inputs-number.result c.loop-number-test.true c.index-inputs-number.is c.loop-number.invariant one)
