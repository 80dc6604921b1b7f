use Rattle.std.proofs.Common.{◌∙◌, sym, ap, subst}
use Rattle.std.proofs.lemmas.List.Elements.{All-get_or}
use Rattle.cet_elf.specs.declared.object.Section.{Section}
use Rattle.cet_elf.specs.Consistent.{IsAlignment}
use Rattle.cet_link.specs.Laid.{end_after}
use Rattle.cet_link.proofs.LayoutLemmas.{end_behind-more, past-all}
use Rattle.cet_link.proofs.layout.end_with_all.Goals as goal

pub end_with-requires-clause-align : goal.end_with-requires-clause-align
end_with-requires-clause-align c =
    let P : Section → Type 0 = λ s. IsAlignment s.align in
    subst P (sym c.section-item.is) (All-get_or P c.args.sections.now c.loop-section.section-index c.section-item.result c.loop-section-test.true c.requires.aligned)

pub end_with-requires-clause-end : goal.end_with-requires-clause-end
end_with-requires-clause-end c = c.loop-section.invariant.within

pub returns-in_err-at : goal.returns-in_err-at
returns-in_err-at c =
    rw c.from_residual.ensures
    (past-all c.args.class c.args.end c.args.limit c.args.sections.now c.loop-section.section-index c.section-item.result c.loop-section.at c.loop-section-test.true c.section-item.is
    c.loop-section.invariant.end c.in_err-at.ensures)

pub loop-section-preserved : goal.loop-section-preserved
loop-section-preserved c = record {
  end = c.in_ok-at.ensures.0 ∙ ap (λ e. end_after c.args.class e c.section-item.result) c.loop-section.invariant.end
      ∙ sym (end_behind-more c.args.class c.args.end c.args.sections.now c.loop-section.section-index c.section-item.result c.loop-section-test.true c.section-item.is);
  within = c.in_ok-at.ensures.1;
}
