use Rattle.std.proofs.Common.{◌∙◌, sym, ap, subst, List, All}
use Rattle.cet_elf.specs.declared.object.Section.{Section}
use Rattle.cet_elf.specs.Consistent.{IsAlignment}
use Rattle.cet_link.specs.Places.{end_behind}
use Rattle.cet_link.proofs.LayoutLemmas.{all_sections-none, aligned-sections, consistent-item, class-more, class-past}
use Rattle.cet_link.proofs.layout.class_end.Goals as goal

pub loop-input-init : goal.loop-input-init
loop-input-init c = record { end = sym (ap (end_behind c.args.class c.args.end) all_sections-none); within = c.requires.end }

pub end_with_all-requires-clause-aligned : goal.end_with_all-requires-clause-aligned
end_with_all-requires-clause-aligned c =
    let P : Section → Type 0 = λ s. IsAlignment s.align in
    subst (λ (zs : List Section). All P zs) (sym c.as_slice.ensures)
    (aligned-sections c.input-item.result (consistent-item c.args.inputs.now c.loop-input.input-index c.input-item.result c.loop-input-test.true c.input-item.is c.requires.consistent))

pub returns-in_err-at : goal.returns-in_err-at
returns-in_err-at c =
    rw c.from_residual.ensures
    (class-past c.args.class c.args.end c.args.limit c.args.inputs.now c.loop-input.input-index c.input-item.result c.loop-input.at c.loop-input-test.true c.input-item.is
    c.loop-input.invariant.end (rw c.as_slice.ensures at c.in_err-at.ensures))

pub loop-input-preserved : goal.loop-input-preserved
loop-input-preserved c = record {
  end = c.in_ok-at.ensures.0 ∙ ap (end_behind c.args.class c.loop-input.at) c.as_slice.ensures ∙ ap (λ e. end_behind c.args.class e c.input-item.result.sections) c.loop-input.invariant.end
      ∙ sym (class-more c.args.class c.args.end c.args.inputs.now c.loop-input.input-index c.input-item.result c.loop-input-test.true c.input-item.is);
  within = c.in_ok-at.ensures.1;
}
