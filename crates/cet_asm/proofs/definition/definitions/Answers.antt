use Rattle.std.proofs.Common.{◌≡◌, ◌+◌, ◌-◌, ◌<◌, ◌≤◌, List, length, drop, reverse, subst, ap, sym, ◌∙◌, arith}
use Rattle.std.proofs.lemmas.List.{at_drop_all}
use Rattle.cet_asm.specs.declared.definition.Definition.{Definition}
use Rattle.cet_asm.specs.Assembled.{definitions}
use Rattle.cet_asm.specs.Whole.{end_of}
use Rattle.cet_asm.proofs.Behind.{defined_more}
use Rattle.cet_asm.proofs.definition.definitions.Goals as goal

pub loop-n-init : goal.loop-n-init
loop-n-init c =
    let placed = c.args.placed.now in
    let all : length placed ≤ length placed = omega arith in
    record {
      within = all;
      found = ap (λ (ds : List Definition). reverse ds) c.new-found.ensures.items ∙ sym (at_drop_all definitions placed (length placed) all);
      end = sym (at_drop_all end_of placed (length placed) all);
    }

pub loop-n-preserved : goal.loop-n-preserved
loop-n-preserved c =
    let placed = c.args.placed.now in
    let m = c.loop-n.n - 1 in
    let next : m + 1 ≡ c.loop-n.n = omega arith in
    let inside : m < length placed = omega (arith, c.loop-n.invariant.within) in
    let before = subst (λ k. reverse c.loop-n.found.items ≡ definitions (drop k placed)) (sym next) c.loop-n.invariant.found in
    let ended = subst (λ k. c.loop-n.end ≡ end_of (drop k placed)) (sym next) c.loop-n.invariant.end in
    let more = defined_more placed m c.index-placed-n.result c.loop-n.found.items c.in_ok-defined.field-0 c.loop-n.end inside c.index-placed-n.is before ended c.in_ok-defined.ensures in
    record {
      within = omega (arith, c.loop-n.invariant.within);
      found = ap (λ (ds : List Definition). reverse ds) c.in_ok-push.ensures ∙ more.0;
      end = c.end_from-end.ensures ∙ more.1;
    }
