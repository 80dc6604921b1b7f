use Rattle.std.proofs.Common.{◌≡◌, take, refl, sym, subst, arith}
use Rattle.std.proofs.lemmas.Result.{err_from_is_err_and}
use Rattle.std.proofs.lemmas.List.{append-nil}
use Rattle.cet_link.specs.Known.{AreNames}
use Rattle.cet_link.proofs.LoopLemmas.{take_all}
use Rattle.cet_link.proofs.ScanLemmas.{scanned_more, scanned_first}
use Rattle.cet_link.proofs.scan.scan_symbols.Goals as goal

pub loop-symbol-init : goal.loop-symbol-init
loop-symbol-init c = λ before names. (refl, subst (λ m. AreNames m c.args.names.now) (sym (append-nil before)) names)

pub loop-symbol-preserved : goal.loop-symbol-preserved
loop-symbol-preserved c = λ before names.
    let was = c.loop-symbol.invariant before names in
    scanned_more before c.args.input c.args.symbols.now c.loop-symbol.symbol-index c.symbol-item.result c.scan_symbol.new.names c.loop-symbol-test.true c.symbol-item.is was.0 (c.in_ok-scan_symbol.ensures _ was.1)

pub returns-in_err-scan_symbol : goal.returns-in_err-scan_symbol
returns-in_err-scan_symbol c = λ before names.
    let was = c.loop-symbol.invariant before names in
    let p = err_from_is_err_and c.from_residual.result c.from_residual.ensures.1 in
    rw (p.1, p.2) (scanned_first c.in_err-scan_symbol.field-0.0 before c.args.input c.args.symbols.now c.loop-symbol.symbol-index c.symbol-item.result c.loop-symbol-test.true c.symbol-item.is was.0 (c.in_err-scan_symbol.ensures _ was.1))

pub returns : goal.returns
returns c = λ before names.
    let was = c.loop-symbol.invariant before names in
    let all : take c.loop-symbol.symbol-index c.args.symbols.now ≡ c.args.symbols.now = take_all c.args.symbols.now c.loop-symbol.symbol-index (omega arith) in
    rw all at was
