use Rattle.std.proofs.Common.{◌≡◌, [], ◌++◌, ◌∙◌, subst}
use Rattle.std.proofs.lemmas.Result.{err_from_is_err_and}
use Rattle.std.proofs.lemmas.List.{append-nil}
use Rattle.cet_link.specs.First.{IsFirst}
use Rattle.cet_link.specs.Faults.{common_faults, duplicate_fault, duplicate_faults}
use Rattle.cet_link.specs.Known.{met_of}
use Rattle.cet_link.proofs.FaultLemmas.{IsFirst-front, IsFirst-back, none-append}
use Rattle.cet_link.proofs.NameLemmas.{if_global-first}
use Rattle.cet_link.proofs.scan.scan_symbol.Goals as goal

pub returns-in_err-check_duplicate : goal.returns-in_err-check_duplicate
returns-in_err-check_duplicate c = λ before names.
    let p = err_from_is_err_and c.from_residual-in_err-check_duplicate.result c.from_residual-in_err-check_duplicate.ensures.1 in
    let m = met_of c.args.met in
    let known = if_global-first before c.args.names.now m.symbol.name names in
    let e = c.in_err-check_duplicate.field-0.0 in
    let one : IsFirst e (duplicate_faults before m) = subst (λ d. IsFirst e (duplicate_fault d m)) known c.in_err-check_duplicate.ensures in
    rw (p.1, p.2) (IsFirst-front e (common_faults m ++ duplicate_faults before m) [] (IsFirst-back e (common_faults m) (duplicate_faults before m) c.in_ok-check_common.ensures one))

pub returns : goal.returns
returns c = λ before names.
    let m = met_of c.args.met in
    let known = if_global-first before c.args.names.now m.symbol.name names in
    let one : duplicate_faults before m ≡ [] = subst (λ d. duplicate_fault d m ≡ []) known c.in_ok-check_duplicate.ensures in
    (append-nil _ ∙ none-append (common_faults m) (duplicate_faults before m) c.in_ok-check_common.ensures one, c.in_ok-meet.ensures before names)
