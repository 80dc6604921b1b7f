use Rattle.std.proofs.Common.{◌≡◌, ◌+◌, ◌-◌, ◌<◌, ◌≤◌, Option, length, drop, subst, ap, sym, ◌∙◌, arith}
use Rattle.std.specs.Option.{option_map, option_or}
use Rattle.std.proofs.lemmas.List.{at_drop_all}
use Rattle.cet_asm.specs.declared.error.AsmKind.{AsmKind}
use Rattle.cet_asm.specs.declared.error.AsmError.{AsmError}
use Rattle.cet_asm.specs.Tables.{targets_at}
use Rattle.cet_asm.specs.Assembled.{first_late}
use Rattle.cet_asm.specs.Whole.{end_of}
use Rattle.cet_asm.proofs.Behind.{late_more}
use Rattle.cet_asm.proofs.late.first_late.Goals as goal

pub loop-n-init : goal.loop-n-init
loop-n-init c =
    let placed = c.args.placed.now in
    let all : length placed ≤ length placed = omega arith in
    record {
      within = all;
      fault = sym (at_drop_all (first_late (targets_at c.args.targets.now)) placed (length placed) all);
      end = sym (at_drop_all end_of placed (length placed) all);
    }

pub loop-n-preserved : goal.loop-n-preserved
loop-n-preserved c =
    let placed = c.args.placed.now in
    let targets = targets_at c.args.targets.now in
    let p = c.index-placed-n.result in
    let m = c.loop-n.n - 1 in
    let next : m + 1 ≡ c.loop-n.n = omega arith in
    let inside : m < length placed = omega (arith, c.loop-n.invariant.within) in
    let before = subst (λ k. c.loop-n.fault ≡ first_late targets (drop k placed)) (sym next) c.loop-n.invariant.fault in
    let ended = subst (λ k. c.loop-n.end ≡ end_of (drop k placed)) (sym next) c.loop-n.invariant.end in
    let more = late_more targets placed m p c.loop-n.fault c.loop-n.end inside c.index-placed-n.is before ended in
    let on_line : AsmKind → AsmError = λ kind. record { line = p.line; kind = kind } in
    record {
      within = omega (arith, c.loop-n.invariant.within);
      fault = c.or_behind-fault.ensures ∙ (ap (λ (k : Option AsmKind). option_or (option_map on_line k) c.loop-n.fault) c.late_fault.ensures ∙ more.0);
      end = c.end_from-end.ensures ∙ more.1;
    }
