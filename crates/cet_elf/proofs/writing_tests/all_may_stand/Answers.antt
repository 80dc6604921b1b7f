use Rattle.std.proofs.Common.{◌≡◌, ◌≢◌, [], All, subst, sym, arith}
use Rattle.std.proofs.lemmas.List.{take_all}
use Rattle.std.proofs.lemmas.List.Elements.{All-more, All-same}
use Rattle.cet_elf.specs.declared.object.Class.TheVariants as classes
use Rattle.cet_elf.proofs.writing_tests.all_may_stand.Goals as goal

pub loop-s-preserved : goal.loop-s-preserved
loop-s-preserved c =
    let xs = c.args.sections.now in
    let i = c.loop-s.s-index in
    let s = c.s-item.result in
    record {
      group = All-more (λ x. x.class ≢ classes.Group) xs i s c.loop-s-test.true c.loop-s.invariant.group (subst (λ x. x.class ≢ classes.Group) c.s-item.is (c.may_stand.ensures.group c.if-not-may_stand.false));
      zeros = All-more (λ x. x.class ≡ classes.Zero → x.relocations ≡ []) xs i s c.loop-s-test.true c.loop-s.invariant.zeros (subst (λ x. x.class ≡ classes.Zero → x.relocations ≡ []) c.s-item.is (c.may_stand.ensures.zeros c.if-not-may_stand.false));
    }

pub returns-clause-group : goal.returns-clause-group
returns-clause-group c truth =
    All-same (λ x. x.class ≢ classes.Group) _ _ (sym (take_all c.loop-s.s-index c.args.sections.now (omega arith))) c.loop-s.invariant.group

pub returns-clause-zeros : goal.returns-clause-zeros
returns-clause-zeros c truth =
    All-same (λ x. x.class ≡ classes.Zero → x.relocations ≡ []) _ _ (sym (take_all c.loop-s.s-index c.args.sections.now (omega arith))) c.loop-s.invariant.zeros
