use Rattle.std.proofs.Common.{◌≤◌, length, take, sym, subst, arith, rules}
use Rattle.std.proofs.lemmas.List.{take_all}
use Rattle.std.proofs.lemmas.List.Elements.{All-more, All-same}
use Rattle.cet_asm.specs.Sound.{IsSoundSection}
use Rattle.cet_asm.proofs.regular.are_sections.Goals as goal

pub loop-section-preserved : goal.loop-section-preserved
loop-section-preserved c =
    let here : IsSoundSection c.args.symbols c.section-item.result = search rules in
    All-more (IsSoundSection c.args.symbols) c.args.sections.now c.loop-section.section-index c.section-item.result c.loop-section-test.true c.loop-section.invariant (subst (IsSoundSection c.args.symbols) c.section-item.is here)

pub returns : goal.returns
returns c =
    let whole : length c.args.sections.now ≤ c.loop-section.section-index = omega arith in
    λ t. All-same (IsSoundSection c.args.symbols) c.args.sections.now (take c.loop-section.section-index c.args.sections.now) (sym (take_all c.loop-section.section-index c.args.sections.now whole)) c.loop-section.invariant
