use Rattle.std.proofs.Common.{◌≡◌, [], subst}
use Rattle.std.proofs.lemmas.Result.{err_from_is_err_and}
use Rattle.cet_link.specs.First.{IsFirst}
use Rattle.cet_link.specs.Faults.{unresolved_fault, undefined_fault}
use Rattle.cet_link.proofs.UndefinedLemmas.{met_none, met_first}
use Rattle.cet_link.proofs.undefined.check_symbols.Goals as goal

pub loop-symbol-preserved : goal.loop-symbol-preserved
loop-symbol-preserved c = λ all names.
    let s = c.symbol-item.result in
    met_none (undefined_fault all) c.args.input c.args.symbols.now c.loop-symbol.symbol-index s c.loop-symbol-test.true c.symbol-item.is (c.loop-symbol.invariant all names)
    (subst (λ d. unresolved_fault d (record { input = c.args.input; symbol = s }) ≡ []) (names.definitions s.name) c.in_ok-check_symbol.ensures)

pub returns-in_err-check_symbol : goal.returns-in_err-check_symbol
returns-in_err-check_symbol c = λ all names.
    let s = c.symbol-item.result in
    let p = err_from_is_err_and c.from_residual.result c.from_residual.ensures.1 in
    let e = c.in_err-check_symbol.field-0.0 in
    rw (p.1, p.2) (met_first e (undefined_fault all) c.args.input c.args.symbols.now c.loop-symbol.symbol-index s c.loop-symbol-test.true c.symbol-item.is (c.loop-symbol.invariant all names)
    (subst (λ d. IsFirst e (unresolved_fault d (record { input = c.args.input; symbol = s }))) (names.definitions s.name) c.in_err-check_symbol.ensures))
