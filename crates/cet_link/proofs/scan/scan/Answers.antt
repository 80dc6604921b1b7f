use Rattle.std.proofs.Common.{refl, sym, subst, take}
use Rattle.std.proofs.lemmas.Result.{err_from_is_err_and}
use Rattle.cet_link.specs.Inputs.{symbols, symbols_of}
use Rattle.cet_link.specs.Faults.{group_faults, symbol_faults}
use Rattle.cet_link.specs.Known.{AreNames}
use Rattle.cet_link.proofs.FaultLemmas.{IsFirst-front, IsFirst-back}
use Rattle.cet_link.proofs.ScanLemmas.{inputs_more, inputs_first, symbols-none}
use Rattle.cet_link.proofs.scan.scan.Goals as goal

pub loop-number-init : goal.loop-number-init
loop-number-init c = (refl, subst (λ m. AreNames m c.new-names.result) (sym symbols-none) c.new-names.ensures)

pub loop-number-preserved : goal.loop-number-preserved
loop-number-preserved c =
    let inputs = c.args.inputs.now in
    let i = c.loop-number.number in
    let o = c.index-inputs-number.result in
    let one = rw c.as_slice.ensures at (c.in_ok-scan_symbols.ensures (symbols (take i inputs)) c.loop-number.invariant.1) in
    inputs_more inputs i o c.scan_symbols.new.names c.loop-number-test.true c.index-inputs-number.is c.loop-number.invariant.0 c.in_ok-check_groups.ensures one

pub returns-in_err-check_groups-clause-fault : goal.returns-in_err-check_groups-clause-fault
returns-in_err-check_groups-clause-fault c =
    let inputs = c.args.inputs.now in
    let i = c.loop-number.number in
    let o = c.index-inputs-number.result in
    let p = err_from_is_err_and c.from_residual.result c.from_residual.ensures.1 in
    rw (p.1, p.2) (inputs_first c.in_err-check_groups.field-0.0 inputs i o c.loop-number-test.true c.index-inputs-number.is c.loop-number.invariant.0
    (IsFirst-front _ (group_faults i o) (symbol_faults (symbols (take i inputs)) (symbols_of i o)) c.in_err-check_groups.ensures))

pub returns-in_err-scan_symbols-clause-fault : goal.returns-in_err-scan_symbols-clause-fault
returns-in_err-scan_symbols-clause-fault c =
    let inputs = c.args.inputs.now in
    let i = c.loop-number.number in
    let o = c.index-inputs-number.result in
    let p = err_from_is_err_and c.from_residual-in_err-scan_symbols.result c.from_residual-in_err-scan_symbols.ensures.1 in
    let one = rw c.as_slice.ensures at (c.in_err-scan_symbols.ensures (symbols (take i inputs)) c.loop-number.invariant.1) in
    rw (p.1, p.2) (inputs_first c.in_err-scan_symbols.field-0.0 inputs i o c.loop-number-test.true c.index-inputs-number.is c.loop-number.invariant.0
    (IsFirst-back _ (group_faults i o) (symbol_faults (symbols (take i inputs)) (symbols_of i o)) c.in_ok-check_groups.ensures one))
